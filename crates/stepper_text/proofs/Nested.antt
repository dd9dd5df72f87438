-- The text of an expression is the text before its part under evaluation, the part, and the text after it.
use Rattle.std.proofs.Common.{◌≡◌, refl, sym, ap, ◌∙◌, ℕ, List, [], ◌∷◌, ◌++◌, false, true, Bool, append_assoc, append-nil, codes, nat_le}
use Rattle.text_scan.specs.Text.{Text}
use Rattle.run_types.specs.Table.{text_at}
use Rattle.pool_syntax.specs.TreeOf.{expression_of, expressions_of}
use Rattle.pool_syntax.specs.Terms as T
use Rattle.pool_syntax.specs.Terms.{Expression, Expressions}
use Rattle.pool_relation.specs.Reducible.{are_values, is_value}
use Rattle.pool_printer.specs.Canonical.{left_need, right_need}
use Rattle.term_text.specs.Words.{operator_text, arguments_text, called, enclosed, more_arguments, text_in, word}
use Rattle.run_types.specs.declared.types.Op.{Op}
use Rattle.run_types.specs.declared.types.Op.TheVariants as op
use Rattle.record_writer.specs.RecordText.{led}
use Rattle.stepper_terms.specs.declared.contexts.Operand.{Operand}
use Rattle.stepper_terms.specs.declared.contexts.ExpressionContext.{ExpressionContext}
use Rattle.stepper_terms.specs.declared.contexts.ExpressionContext.TheVariants as P
use Rattle.stepper_terms.specs.Parts.{nested, operand, operands, placed}
use Rattle.term_text.specs.Marked.{marked, marked_arguments, marked_level, marked_more}
use Rattle.stepper_text.specs.Around.{after, afters, before, befores, closed, done_arguments, nested_level, opened, operand_text, place_level}

-- parentheses around a text, or none
pub enclosed_is : (need l : ℕ) (t : Text) → enclosed need l t ≡ opened need l ++ (t ++ closed need l)
enclosed_is need l t = by (nat_le need l) refl
  where
    by : (b : Bool) → nat_le need l ≡ b → enclosed need l t ≡ opened need l ++ (t ++ closed need l)
    by true e = rw e (sym (append-nil t))
    by false e = rw e refl

-- an operand has no parentheses
left_is_low : (o : Op) → nat_le (left_need o) 8 ≡ true
left_is_low op.Add = refl
left_is_low op.Sub = refl
left_is_low op.Mul = refl
left_is_low op.Div = refl
left_is_low op.Rem = refl
left_is_low op.Neg = refl
left_is_low op.Less = refl
left_is_low op.LessEq = refl
left_is_low op.More = refl
left_is_low op.MoreEq = refl
left_is_low op.Same = refl
left_is_low op.Differs = refl
left_is_low op.And = refl
left_is_low op.Or = refl
left_is_low op.Not = refl

pub left_operand : (names : List Text) (o : Op) (v : Operand) → text_in names (left_need o) (operand v) ≡ operand_text v
left_operand names o v = rw (left_is_low o) refl

-- arguments, one of which is under evaluation, are no values
pub not_values : (vs : List Operand) (e : Expression) (es : Expressions) → is_value e ≡ false → are_values (operands vs (T.Arg e es)) ≡ false
not_values [] e es h = rw h refl
not_values (v ∷ vs) e es h = not_values vs e es h

more_placed : (names : List Text) (vs : List Operand) (e : Expression) (es : Expressions) → is_value e ≡ false
    → marked_more names (operands vs (T.Arg e es)) ≡ word (codes ",") ++ (done_arguments vs ++ (marked names e ++ more_arguments names es))
more_placed names [] e es h = rw h refl
more_placed names (v ∷ vs) e es h =
    let rest = marked names e ++ more_arguments names es in
    ap (λ t. word (codes ",") ++ (operand_text v ++ t)) (more_placed names vs e es h)
    ∙ ap (λ t. word (codes ",") ++ t) (sym (append_assoc (operand_text v) (word (codes ",") ++ done_arguments vs) rest))

pub arguments_placed : (names : List Text) (vs : List Operand) (e : Expression) (es : Expressions) → is_value e ≡ false
    → marked_arguments names (operands vs (T.Arg e es)) ≡ done_arguments vs ++ (marked names e ++ more_arguments names es)
arguments_placed names [] e es h = rw h refl
arguments_placed names (v ∷ vs) e es h =
    ap (λ t. operand_text v ++ t) (more_placed names vs e es h)
    ∙ sym (append_assoc (operand_text v) (word (codes ",") ++ done_arguments vs) (marked names e ++ more_arguments names es))

-- a front, and then a call's arguments, one of which is under evaluation
call_placed : (names : List Text) (front : Text) (m : ℕ) (vs : List Operand) (e : Expression) (es : Expressions) → is_value e ≡ false
    → front ++ called names m (marked_arguments names (operands vs (T.Arg e es)))
    ≡ (front ++ (led (text_at names m ∷ codes "(" ∷ []) ++ done_arguments vs)) ++ (marked names e ++ (more_arguments names es ++ word (codes ")")))
call_placed names front m vs e es h =
    let head = led (text_at names m ∷ codes "(" ∷ []) in
    let close = word (codes ")") in
    let done = done_arguments vs in
    let inner = marked names e in
    let more = more_arguments names es in
    ap (λ t. front ++ (head ++ (t ++ close))) (arguments_placed names vs e es h)
    ∙ ap (λ t. front ++ (head ++ t)) (append_assoc done (inner ++ more) close ∙ ap (λ t. done ++ t) (append_assoc inner more close))
    ∙ ap (λ t. front ++ t) (sym (append_assoc head done (inner ++ (more ++ close))))
    ∙ sym (append_assoc front (head ++ done) (inner ++ (more ++ close)))

pub marked_placed : (names : List Text) (k : ExpressionContext) (e : Expression) → is_value e ≡ false
    → marked names (placed k e) ≡ before names k (marked_level e) ++ (marked names e ++ after names k (marked_level e))
marked_placed names (P.Prefix o p) e h =
    let l = marked_level e in
    rw h (ap (λ t. word (operator_text o) ++ t) (enclosed_is 6 l (marked names e))
    ∙ sym (append_assoc (word (operator_text o)) (opened 6 l) (marked names e ++ closed 6 l)))
marked_placed names (P.Left o r p) e h =
    let l = marked_level e in
    let rest = word (operator_text o) ++ text_in names (right_need o) (expression_of r.now) in
    rw h (ap (λ t. t ++ rest) (enclosed_is (left_need o) l (marked names e))
    ∙ append_assoc (opened (left_need o) l) (marked names e ++ closed (left_need o) l) rest
    ∙ ap (λ t. opened (left_need o) l ++ t) (append_assoc (marked names e) (closed (left_need o) l) rest))
marked_placed names (P.Right o v p) e h =
    let l = marked_level e in
    let sign = word (operator_text o) in
    let inner = marked names e ++ closed (right_need o) l in
    rw h (ap (λ t. t ++ (sign ++ enclosed (right_need o) l (marked names e))) (left_operand names o v)
    ∙ ap (λ t. operand_text v ++ (sign ++ t)) (enclosed_is (right_need o) l (marked names e))
    ∙ ap (λ t. operand_text v ++ t) (sym (append_assoc sign (opened (right_need o) l) inner))
    ∙ sym (append_assoc (operand_text v) (sign ++ opened (right_need o) l) inner))
marked_placed names (P.CallArgument m vs es p) e h = rw (not_values vs.items e (expressions_of es.now) h) (call_placed names [] m.0 vs.items e (expressions_of es.now) h)
marked_placed names (P.Destination m es p) e h =
    let l = marked_level e in
    let rest = word (codes "!") ++ called names m.0 (arguments_text names (expressions_of es.now)) in
    rw h (ap (λ t. t ++ rest) (enclosed_is 7 l (marked names e))
    ∙ append_assoc (opened 7 l) (marked names e ++ closed 7 l) rest
    ∙ ap (λ t. opened 7 l ++ t) (append_assoc (marked names e) (closed 7 l) rest))
marked_placed names (P.SendArgument to m vs es p) e h =
    rw (not_values vs.items e (expressions_of es.now) h) (sent (call_placed names (operand_text to ++ word (codes "!")) m.0 vs.items e (expressions_of es.now) h))
  where
    sign : Text
    sign = word (codes "!")

    sent : (operand_text to ++ sign) ++ called names m.0 (marked_arguments names (operands vs.items (T.Arg e (expressions_of es.now))))
        ≡ ((operand_text to ++ sign) ++ (led (text_at names m.0 ∷ codes "(" ∷ []) ++ done_arguments vs.items)) ++ (marked names e ++ (more_arguments names (expressions_of es.now) ++ word (codes ")")))
        → operand_text to ++ (word (codes "!") ++ called names m.0 (marked_arguments names (operands vs.items (T.Arg e (expressions_of es.now)))))
        ≡ (operand_text to ++ (word (codes "!") ++ (led (text_at names m.0 ∷ codes "(" ∷ []) ++ done_arguments vs.items))) ++ (marked names e ++ (more_arguments names (expressions_of es.now) ++ word (codes ")")))
    sent whole =
        sym (append_assoc (operand_text to) (word (codes "!")) (called names m.0 (marked_arguments names (operands vs.items (T.Arg e (expressions_of es.now))))))
        ∙ whole
        ∙ ap (λ t. t ++ (marked names e ++ (more_arguments names (expressions_of es.now) ++ word (codes ")"))))
        (append_assoc (operand_text to) (word (codes "!")) (led (text_at names m.0 ∷ codes "(" ∷ []) ++ done_arguments vs.items))

pub level_placed : (k : ExpressionContext) (e : Expression) → is_value e ≡ false → marked_level (placed k e) ≡ place_level k
level_placed (P.Prefix o p) e h = rw h refl
level_placed (P.Left o r p) e h = rw h refl
level_placed (P.Right o v p) e h = rw h refl
level_placed (P.CallArgument m vs es p) e h = refl
level_placed (P.Destination m es p) e h = rw h refl
level_placed (P.SendArgument to m vs es p) e h = rw (not_values vs.items e (expressions_of es.now) h) refl

pub not_value : (ks : List ExpressionContext) (e : Expression) → is_value e ≡ false → is_value (nested ks e) ≡ false
not_value [] e h = h
not_value (P.Prefix o p ∷ ks) e h = refl
not_value (P.Left o r p ∷ ks) e h = refl
not_value (P.Right o v p ∷ ks) e h = refl
not_value (P.CallArgument m vs es p ∷ ks) e h = refl
not_value (P.Destination m es p ∷ ks) e h = refl
not_value (P.SendArgument to m vs es p ∷ ks) e h = refl

pub level_nested : (ks : List ExpressionContext) (e : Expression) → is_value e ≡ false → marked_level (nested ks e) ≡ nested_level ks (marked_level e)
level_nested [] e h = refl
level_nested (k ∷ ks) e h = level_placed k (nested ks e) (not_value ks e h)

pub marked_nested : (names : List Text) (ks : List ExpressionContext) (e : Expression) → is_value e ≡ false
    → marked names (nested ks e) ≡ befores names ks (marked_level e) ++ (marked names e ++ afters names ks (marked_level e))
marked_nested names [] e h = sym (append-nil (marked names e))
marked_nested names (k ∷ ks) e h =
    let l = marked_level e in
    let front = before names k (nested_level ks l) in
    let back = after names k (nested_level ks l) in
    let inner = marked names e in
    marked_placed names k (nested ks e) (not_value ks e h)
    ∙ ap (λ n. before names k n ++ (marked names (nested ks e) ++ after names k n)) (level_nested ks e h)
    ∙ ap (λ t. front ++ (t ++ back)) (marked_nested names ks e h)
    ∙ ap (λ t. front ++ t) (append_assoc (befores names ks l) (inner ++ afters names ks l) back ∙ ap (λ t. befores names ks l ++ t) (append_assoc inner (afters names ks l) back))
    ∙ sym (append_assoc front (befores names ks l) (inner ++ (afters names ks l ++ back)))
