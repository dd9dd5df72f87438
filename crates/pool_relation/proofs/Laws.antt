-- The lemmas that other crates cite.

-- runs
pub use Rattle.pool_relation.proofs.Runs.{joined, none_joined}
-- a lone object that is not ready
pub use Rattle.pool_relation.proofs.UnreadyHasNoStep.{Runs, not_there, there, runs, no_transition}
-- programs of the grammar, and the configuration that a program starts in
pub use Rattle.pool_relation.proofs.FewParameters.{classes_few, few_parameters}
pub use Rattle.pool_relation.proofs.Start.{start_typed, starts, last_first, class_parts}
-- preservation and progress
pub use Rattle.pool_relation.proofs.preservation.EachTransition.{typed_kept, run_kept}
pub use Rattle.pool_relation.proofs.Progress.{not_wrong, goes_on_or_meets}
pub use Rattle.pool_relation.proofs.TypedFromTruncation.{typed}
-- typed objects: what their next actions need and leave
pub use Rattle.pool_relation.proofs.Invariant.{Invariant, classes, FitsAt, invariant_of, typed_of}
pub use Rattle.pool_relation.proofs.action.TypedAction.{place, VarsFit, CanReceive, TypedAction, TypedObject}
pub use Rattle.pool_relation.proofs.action.NextAction.{action_typed}
pub use Rattle.pool_relation.proofs.action.NextWaits.{is_waits, does_not_wait}
pub use Rattle.pool_relation.proofs.preservation.ObjectUpdates.{object_grown}
pub use Rattle.pool_relation.proofs.preservation.OneObject.{stepped, object_typed_at}
pub use Rattle.pool_relation.proofs.preservation.NewObject.{new_object_typed}
pub use Rattle.pool_relation.proofs.preservation.Messages.{fit_values_of, offers, first_fits, taken_fit, serving_typed}
pub use Rattle.pool_relation.proofs.FaultlessObject.{running_is}
-- typed terms
pub use Rattle.pool_relation.proofs.typing.TypedTerm.{is_broken, Holds, Nothing, Methods, Waits, TypedExpression, TypedStatements, past, TypedArguments, TypedStatement, TypedAlternatives}
unfoldable pub use Rattle.pool_relation.proofs.typing.TypedTerm.{fits_outcome, gives, has_no_sort, fits_need, fit_operands, takes, is_destination}
pub use Rattle.pool_relation.proofs.typing.Weakening.{nothing_below, statements_weaker}
pub use Rattle.pool_relation.proofs.typing.AddedObjects.{Grows}
pub use Rattle.pool_relation.proofs.typing.MethodStart.{running_scope}
pub use Rattle.pool_relation.proofs.typing.Faults.{none2, none3, none4, no_fault_if}
pub use Rattle.pool_relation.proofs.redex.TypedRedex.{at, FitValues, TypedChoices}
-- classes and methods whose kinds are known
pub use Rattle.pool_relation.proofs.typing.DeclaredStores.{AllKnown, OutcomeKnown, MethodKnown, Known}
pub use Rattle.pool_relation.proofs.typing.CheckedProgram.{vars_known, methods_checked, class_known, CheckedMethod, CheckedClass, class_checked}
-- the search for the redex: where it ends, and what has none
pub use Rattle.pool_relation.proofs.redex.RedexSearch.{passed, literal_is, not_value, value_found, not_values, not_guards, done_is, not_done, arguments_are, guards_are, at_is_no_value}
-- what is under way in a term, and what its redex ends
pub use Rattle.pool_relation.proofs.redex.Idle.{statements_idle}
pub use Rattle.pool_relation.proofs.redex.Activities.{Ends, is_statement}
pub use Rattle.pool_relation.proofs.redex.TermActivities.{statements_activities}
-- objects and messages of a configuration after one was put
pub use Rattle.pool_relation.proofs.Lookup.{Put, New, Old, put_cases, objects_in_order, PutMessages, NewMessages, OldMessages, put_messages_cases, messages_in_order}
