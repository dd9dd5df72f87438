-- The text of the redex, and of a statement with a part under evaluation, is as the definition of marked terms has it.
use Rattle.std.proofs.Common.{◌≡◌, refl, sym, ap, ap₂, ◌∙◌, List, [], ◌∷◌, ◌++◌, false, true, append_assoc, codes, nat_le}
use Rattle.text_scan.specs.Text.{Text}
use Rattle.run_types.specs.Table.{text_at}
use Rattle.pool_syntax.specs.TreeOf.{statements_of}
use Rattle.pool_syntax.specs.Terms as T
use Rattle.pool_syntax.specs.Terms.{Expression, Statements}
use Rattle.pool_relation.specs.Reducible.{are_values, guards_are_values, is_value}
use Rattle.run_types.specs.declared.types.Op.{Op}
use Rattle.run_types.specs.declared.types.Op.TheVariants as op
use Rattle.record_writer.specs.RecordText.{led}
use Rattle.stepper_terms.specs.declared.contexts.Operand.{Operand}
use Rattle.stepper_terms.specs.declared.contexts.Guarded.{Guarded}
use Rattle.stepper_terms.specs.declared.contexts.Ready.{Ready}
use Rattle.stepper_terms.specs.declared.contexts.Ready.TheVariants as R
use Rattle.stepper_terms.specs.declared.contexts.Task.{Task}
use Rattle.stepper_terms.specs.declared.contexts.Task.TheVariants as K
use Rattle.stepper_terms.specs.Parts.{guarded, operand, operands, ready, task}
use Rattle.pool_printer.specs.Canonical.{right_need}
use Rattle.term_text.specs.Words.{operator_text, alternatives_text, answer_text, arguments_text, more_arguments, statements_text, text_in, word}
use Rattle.term_text.specs.Marked.{boxed, marked, marked_guards, marked_statement}
use Rattle.stepper_text.specs.Around.{operand_text}
use Rattle.stepper_text.specs.Contents.{guards_text, more_operands, operands_text, ready_text, task_text}
use Rattle.stepper_text.proofs.Nested.{left_operand}

right_is_low : (o : Op) → nat_le (right_need o) 8 ≡ true
right_is_low op.Add = refl
right_is_low op.Sub = refl
right_is_low op.Mul = refl
right_is_low op.Div = refl
right_is_low op.Rem = refl
right_is_low op.Neg = refl
right_is_low op.Less = refl
right_is_low op.LessEq = refl
right_is_low op.More = refl
right_is_low op.MoreEq = refl
right_is_low op.Same = refl
right_is_low op.Differs = refl
right_is_low op.And = refl
right_is_low op.Or = refl
right_is_low op.Not = refl

right_operand : (names : List Text) (o : Op) (v : Operand) → text_in names (right_need o) (operand v) ≡ operand_text v
right_operand names o v = rw (right_is_low o) refl

more_are : (names : List Text) (vs : List Operand) → more_arguments names (operands vs T.NoArgs) ≡ more_operands vs
more_are names [] = refl
more_are names (v ∷ vs) = ap (λ t. word (codes ",") ++ (operand_text v ++ t)) (more_are names vs)

arguments_are : (names : List Text) (vs : List Operand) → arguments_text names (operands vs T.NoArgs) ≡ operands_text vs
arguments_are names [] = refl
arguments_are names (v ∷ vs) = ap (λ t. operand_text v ++ t) (more_are names vs)

pub all_values : (vs : List Operand) → are_values (operands vs T.NoArgs) ≡ true
all_values [] = refl
all_values (v ∷ vs) = all_values vs

pub ready_is : (names : List Text) (r : Ready) → marked names (ready r) ≡ boxed (ready_text names r)
ready_is names (R.Me p) = refl
ready_is names (R.Variable x p) = refl
ready_is names (R.Create c p) = refl
ready_is names (R.Prefix o v p) = refl
ready_is names (R.Infix o v w p) =
    ap boxed (ap₂ (λ s t. s ++ (word (operator_text o) ++ t)) (left_operand names o v) (right_operand names o w))
ready_is names (R.Call m vs p) =
    rw (all_values vs.items) (ap (λ t. boxed (led (text_at names m.0 ∷ codes "(" ∷ []) ++ (t ++ word (codes ")")))) (arguments_are names vs.items))
ready_is names (R.Send to m vs p) =
    rw (all_values vs.items) (ap (λ t. boxed (operand_text to ++ (word (codes "!") ++ (led (text_at names m.0 ∷ codes "(" ∷ []) ++ (t ++ word (codes ")")))))) (arguments_are names vs.items))
ready_is names (R.Wait b m) = refl

guards_are : (names : List Text) (gs : List Guarded) → alternatives_text names (guarded gs T.NoAlts) ≡ guards_text names gs
guards_are names [] = refl
guards_are names (g ∷ gs) = rw (guards_are names gs) refl

all_guards : (gs : List Guarded) → guards_are_values (guarded gs T.NoAlts) ≡ true
all_guards [] = refl
all_guards (g ∷ gs) = all_guards gs

pub task_is : (names : List Text) (k : Task) → marked_statement names (task k) ≡ boxed (task_text names k)
task_is names (K.Assign n v) = refl
task_is names (K.Write v) = refl
task_is names (K.WriteText s) = refl
task_is names (K.Do v) = refl
task_is names (K.Async to m vs) =
    rw (all_values vs.items) (ap (λ t. boxed (operand_text to ++ (word (codes "!!") ++ (led (text_at names m.name.0 ∷ codes "(" ∷ []) ++ (t ++ word (codes ")")))))) (arguments_are names vs.items))
task_is names (K.If v these those) = refl
task_is names (K.Loop v k body) = refl
task_is names (K.While k body) = refl
task_is names (K.Answer ns) = refl
task_is names (K.Select gs) = rw (all_guards gs.items) (ap (λ t. boxed (word (codes "select") ++ (t ++ word (codes "end")))) (guards_are names gs.items))

-- a guard is under evaluation
pub guards_placed : (names : List Text) (gs : List Guarded) (e : Expression) (ns : _) (ss : Statements) (alts : T.Alternatives) → is_value e ≡ false
    → marked_guards names (guarded gs (T.Alt e ns ss alts))
    ≡ guards_text names gs ++ (word (codes "when") ++ (marked names e ++ (answer_text names ns ++ (word (codes "then") ++ (statements_text names ss ++ alternatives_text names alts)))))
guards_placed names [] e ns ss alts h = rw h refl
guards_placed names (g ∷ gs) e ns ss alts h =
    let rest = word (codes "when") ++ (marked names e ++ (answer_text names ns ++ (word (codes "then") ++ (statements_text names ss ++ alternatives_text names alts)))) in
    let work = statements_text names (statements_of g.alt.now.work) in
    let answer = answer_text names g.alt.now.answer in
    let guard = operand_text g.guard in
    let gs' = guards_text names gs in
    ap (λ t. word (codes "when") ++ (guard ++ (answer ++ (word (codes "then") ++ (work ++ t))))) (guards_placed names gs e ns ss alts h)
    ∙ sym (append_assoc (word (codes "when")) (guard ++ (answer ++ (word (codes "then") ++ (work ++ gs')))) rest
    ∙ ap (λ t. word (codes "when") ++ t) (append_assoc guard (answer ++ (word (codes "then") ++ (work ++ gs'))) rest
    ∙ ap (λ t. guard ++ t) (append_assoc answer (word (codes "then") ++ (work ++ gs')) rest
    ∙ ap (λ t. answer ++ t) (append_assoc (word (codes "then")) (work ++ gs') rest
    ∙ ap (λ t. word (codes "then") ++ t) (append_assoc work gs' rest)))))

pub not_guards : (gs : List Guarded) (e : Expression) (ns : _) (ss : Statements) (alts : T.Alternatives) → is_value e ≡ false → guards_are_values (guarded gs (T.Alt e ns ss alts)) ≡ false
not_guards [] e ns ss alts h = rw h refl
not_guards (g ∷ gs) e ns ss alts h = not_guards gs e ns ss alts h
