-- The text of a statement with a part under evaluation.
use Rattle.std.proofs.Common.{◌≡◌, refl, sym, ap, ◌∙◌, ℕ, ◌+◌, ◌-◌, ◌<◌, ◌≤◌, List, [], ◌∷◌, ◌++◌, length, get_or, drop, false, append_assoc, codes, arith}
use Rattle.std.proofs.lemmas.List.{at_drop_more}
use Rattle.text_scan.specs.Text.{Text}
use Rattle.run_types.specs.Table.{text_at}
use Rattle.pool_syntax.specs.TreeOf.{expressions_of, statements_of}
use Rattle.pool_syntax.specs.Terms as T
use Rattle.pool_syntax.specs.Terms.{Expression, Statements, append}
use Rattle.pool_relation.specs.Reducible.{is_value}
use Rattle.record_writer.specs.RecordText.{led}
use Rattle.stepper_terms.specs.declared.contexts.ExpressionContext.{ExpressionContext}
use Rattle.stepper_terms.specs.declared.contexts.StatementContext.{StatementContext}
use Rattle.stepper_terms.specs.declared.contexts.StatementContext.TheVariants as L
use Rattle.stepper_terms.specs.declared.contexts.Segment.{Segment}
use Rattle.stepper_terms.specs.Parts.{alternatives, bottom, left, nested, segment, slotted}
use Rattle.term_text.specs.Words.{arguments_text, called, more_statements, statement_text, word}
use Rattle.term_text.specs.Marked.{marked, marked_level, marked_statements}
use Rattle.stepper_text.specs.Around.{afters, befores, nested_level, operand_text}
use Rattle.stepper_text.specs.Contents.{running_text, slot_after, slot_before, slot_rest}
use Rattle.stepper_text.proofs.Nested.{arguments_placed, enclosed_is, level_nested, marked_nested, not_value, not_values}
use Rattle.stepper_text.proofs.Slotted.{guards_placed, not_guards}

pub bottom_marked : (names : List Text) (s : StatementContext) (rest : Statements) (e : Expression) → is_value e ≡ false
    → marked_statements names (bottom (slotted s rest e))
    ≡ slot_before names s (marked_level e) ++ (marked names e ++ (slot_after names s (marked_level e) ++ slot_rest names s rest))
bottom_marked names (L.Assign n) rest e h = rw h (simp append_assoc)
bottom_marked names L.Write rest e h = rw h (simp append_assoc)
bottom_marked names L.Do rest e h = rw h refl
bottom_marked names (L.Destination m es) rest e h =
    rw h (ap (λ t. (t ++ (word (codes "!!") ++ called names m.name.0 (arguments_text names (expressions_of es.now)))) ++ more_statements names rest) (enclosed_is 7 (marked_level e) (marked names e))
    ∙ simp append_assoc)
bottom_marked names (L.Argument to m vs es) rest e h =
    rw (not_values vs.items e (expressions_of es.now) h)
    (ap (λ t. (operand_text to ++ (word (codes "!!") ++ (led (text_at names m.name.0 ∷ codes "(" ∷ []) ++ (t ++ word (codes ")"))))) ++ more_statements names rest)
    (arguments_placed names vs.items e (expressions_of es.now) h)
    ∙ simp append_assoc)
bottom_marked names (L.If these those) rest e h = rw h (simp append_assoc)
bottom_marked names (L.Loop k body) rest e h = rw h (simp append_assoc)
bottom_marked names (L.Guard done at more) rest e h =
    rw (not_guards done.items e at.now.answer (statements_of at.now.work) (alternatives more.now) h)
    (ap (λ t. (word (codes "select") ++ (t ++ word (codes "end"))) ++ more_statements names rest)
    (guards_placed names done.items e at.now.answer (statements_of at.now.work) (alternatives more.now) h)
    ∙ simp append_assoc)
bottom_marked names L.Value rest e h = rw h refl

pub running_is : (names : List Text) (s : StatementContext) (ks : List ExpressionContext) (e : Expression) (rest : Statements) → is_value e ≡ false → marked_level e ≡ 8
    → marked_statements names (bottom (slotted s rest (nested ks e))) ≡ running_text names s ks (marked names e) rest
running_is names s ks e rest h low =
    let whole = marked names (nested ks e) in
    let behind = slot_rest names s rest in
    let level : marked_level (nested ks e) ≡ nested_level ks 8 = level_nested ks e h ∙ ap (nested_level ks) low in
    let parts : whole ≡ befores names ks 8 ++ (marked names e ++ afters names ks 8) =
    marked_nested names ks e h ∙ ap (λ n. befores names ks n ++ (marked names e ++ afters names ks n)) low in
    bottom_marked names s rest (nested ks e) (not_value ks e h)
    ∙ ap (λ n. slot_before names s n ++ (whole ++ (slot_after names s n ++ behind))) level
    ∙ ap (λ t. slot_before names s (nested_level ks 8) ++ (t ++ (slot_after names s (nested_level ks 8) ++ behind))) parts
    ∙ simp append_assoc

-- statements after statements
pub more_append : (names : List Text) (a b : Statements) → more_statements names (append a b) ≡ more_statements names a ++ more_statements names b
more_append names T.Done b = refl
more_append names (T.Then s ss) b =
    ap (λ t. word (codes ";") ++ (statement_text names s ++ t)) (more_append names ss b)
    ∙ simp append_assoc

pub one_more_segment : (names : List Text) (g : Segment) (gs : List Segment) → more_statements names (left (g ∷ gs)) ≡ more_statements names (left gs) ++ more_statements names (segment g)
one_more_segment names g gs = more_append names (left gs) (segment g)

-- one more segment was appended, from the last on
pub segment_put : (names : List Text) (gs : List Segment) (i : ℕ) (g : Segment) (base now new : Text) → 0 < i → i ≤ length gs → g ≡ get_or gs (i - 1) g
    → now ≡ base ++ more_statements names (left (drop i gs)) → new ≡ now ++ more_statements names (segment g)
    → new ≡ base ++ more_statements names (left (drop (i - 1) gs))
segment_put names gs i g base now new some within at before put =
    let k = i - 1 in
    let j : k + 1 ≡ i = omega arith in
    let last = more_statements names (segment g) in
    let front : more_statements names (left (drop k gs)) ≡ more_statements names (left (drop i gs)) ++ last =
    at_drop_more (λ xs. more_statements names (left xs)) gs k g (omega arith)
    ∙ ap (λ y. more_statements names (left (y ∷ drop (k + 1) gs))) (sym at)
    ∙ one_more_segment names g (drop (k + 1) gs)
    ∙ ap (λ n. more_statements names (left (drop n gs)) ++ last) j in
    put ∙ ap (λ t. t ++ last) before ∙ append_assoc base (more_statements names (left (drop i gs))) last ∙ ap (λ t. base ++ t) (sym front)
