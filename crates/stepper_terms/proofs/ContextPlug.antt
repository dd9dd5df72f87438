-- Contexts, the redex inside them, and another part that replaces it.
use Rattle.std.proofs.Common.{◌≡◌, refl, ap, sym, ◌∙◌, List, [], ◌∷◌, ◌++◌, length, arith}
use Rattle.pool_syntax.specs.declared.tree.Stmt.{Stmt}
use Rattle.pool_syntax.specs.Terms as T
use Rattle.pool_syntax.specs.Terms.{Expression, Expressions, Statements, Alternatives, append}
use Rattle.stepper_terms.specs.declared.contexts.Operand.{Operand}
use Rattle.stepper_terms.specs.declared.contexts.ExpressionContext.{ExpressionContext}
use Rattle.pool_syntax.specs.TreeOf.{statements_of}
use Rattle.stepper_terms.specs.declared.contexts.Guarded.{Guarded}
use Rattle.stepper_terms.specs.declared.contexts.Segment.{Segment}
use Rattle.stepper_terms.specs.Parts.{operand, operands, placed, nested, guarded, segment, left}

-- one more evaluated argument
pub operands_more : (vs : List Operand) (v : Operand) (es : Expressions) → operands (vs ++ v ∷ []) es ≡ operands vs (T.Arg (operand v) es)
operands_more [] v es = refl
operands_more (w ∷ vs) v es = ap (T.Arg (operand w)) (operands_more vs v es)

-- one more place inside
pub nested_more : (ks : List ExpressionContext) (k : ExpressionContext) (e : Expression) → nested (ks ++ k ∷ []) e ≡ nested ks (placed k e)
nested_more [] k e = refl
nested_more (j ∷ ks) k e = ap (placed j) (nested_more ks k e)

-- one more evaluated guard
pub guarded_more : (gs : List Guarded) (g : Guarded) (alts : Alternatives) → guarded (gs ++ g ∷ []) alts ≡ guarded gs (T.Alt (operand g.guard) g.alt.now.answer (statements_of g.alt.now.work) alts)
guarded_more [] g alts = refl
guarded_more (h ∷ gs) g alts = ap (T.Alt (operand h.guard) h.alt.now.answer (statements_of h.alt.now.work)) (guarded_more gs g alts)

pub append_nothing : (ss : Statements) → append ss T.Done ≡ ss
append_nothing T.Done = refl
append_nothing (T.Then s ss) = ap (T.Then s) (append_nothing ss)

pub append_append : (a b d : Statements) → append (append a b) d ≡ append a (append b d)
append_append T.Done b d = refl
append_append (T.Then s ss) b d = ap (T.Then s) (append_append ss b d)

-- one more segment
pub left_more : (gs : List Segment) (g : Segment) → left (gs ++ g ∷ []) ≡ append (segment g) (left gs)
left_more [] g = sym (append_nothing (segment g))
left_more (h ∷ gs) g = ap (λ ss. append ss (segment h)) (left_more gs g) ∙ append_append (segment g) (left gs) (segment h)

-- no statement is left in an empty list
pub nothing_left : (ss : List Stmt) → length ss ≡ 0 → statements_of ss ≡ T.Done
nothing_left [] h = refl
nothing_left (s ∷ ss) h = absurd (omega arith)
