-- The action of an object at the end of a method or of its body.
use Rattle.std.proofs.Common.{◌≡◌, ap, ◌∙◌, ℕ, ◌-◌, [], length, slice_get, Some, None, true}
use Rattle.pool_syntax.specs.Terms.{ProgramTree}
use Rattle.pool_relation.specs.Reducible.{statements_redex}
use Rattle.pool_relation.specs.Action as A
use Rattle.pool_relation.specs.Action.{Object, action, redex_action}
use Rattle.stepper_terms.specs.declared.contexts.Activation.{Activation}
use Rattle.stepper_terms.specs.declared.contexts.Continuation.{Continuation}
use Rattle.stepper_terms.specs.Parts.{term_of}
use Rattle.stepper_terms.specs.Reduced.{last_redex}
use Rattle.stepper_terms.specs.Changes.{is_end, end_value}
use Rattle.stepper_terms.proofs.Laws.{last_next, end_at_bottom, action_at, action_none}

pub last_acts : (p : ProgramTree) (o : ℕ) (w : Continuation) (a : Activation) (x : Object) → is_end w.next ≡ true → slice_get w.calls.items (length w.calls.items - 1) ≡ Some a
    → x.term ≡ term_of w → action p o x ≡ redex_action p o x a.temps.items (last_redex a (end_value a.stage w.next))
last_acts p o w a x h g e =
    action_at p o x (last_redex a (end_value a.stage w.next)) a.temps.items (ap (statements_redex []) e ∙ last_next w.calls.items a w.next h g)

pub body_acts : (p : ProgramTree) (o : ℕ) (w : Continuation) (x : Object) → is_end w.next ≡ true → slice_get w.calls.items (length w.calls.items - 1) ≡ None
    → x.term ≡ term_of w → action p o x ≡ A.Finished
body_acts p o w x h g e = action_none p o x (ap (statements_redex []) e ∙ end_at_bottom w.calls.items w.next h g)
