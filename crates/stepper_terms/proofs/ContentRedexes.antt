-- The redex of a content, and the content after another part has replaced it.
use Rattle.std.specs.Prelude.{◌≡◌, Bool, false, not}
use Rattle.pool_syntax.specs.Terms as T
use Rattle.pool_syntax.specs.Terms.{Store}
use Rattle.pool_relation.specs.Reducible.{Reducible, At, Contractum, is_value, fill_expression, fill_statements, expression_redex, statements_redex}
use Rattle.stepper_terms.specs.Parts.{Content, Running, Valued, Over}
use Rattle.stepper_terms.specs.Reduced.{assigns}

-- the redex of a content under the temps t is r, with the temps u
abbrev pub Finds : Store → Content → Reducible → Store → Type 0
Finds t (Running ss) r u = statements_redex t ss ≡ At r u
Finds t (Valued e) r u = expression_redex t e ≡ At r u
Finds t (Over v) r u = ⊥

-- whether a content has a redex whose replacement changes no temps
abbrev pub is_plain : Content → Bool
is_plain (Running T.Done) = false
is_plain (Running (T.Then s ss)) = not (assigns s)
is_plain (Valued e) = not (is_value e)
is_plain (Over v) = false

-- a content with another part in the place of its redex
abbrev pub refilled_content : Content → Contractum → Content
refilled_content (Running ss) x = Running (fill_statements ss x)
refilled_content (Valued e) x = Valued (fill_expression e x)
refilled_content (Over v) x = Over v
