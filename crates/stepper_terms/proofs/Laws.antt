-- The lemmas that other crates cite.
pub use Rattle.stepper_terms.proofs.NextAction.{statement_next, last_next, end_at_bottom, action_at, action_none, temps_last, none_last, expression_next}
pub use Rattle.stepper_terms.proofs.Lengths.{length_values, nil_guard, other_guard, true_guard}
