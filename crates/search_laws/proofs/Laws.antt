-- The lemmas that other crates cite.

-- names
pub use Rattle.search_laws.proofs.SearchCompleteness.{step_leads, step_none, at_end_kept, all_are_seen, never_stuck, never_unfinished, never_faulty}
pub use Rattle.search_laws.proofs.Nameless.{nameless, expression_nameless, list_nameless, body_nameless}
pub use Rattle.search_laws.proofs.NextName.{at_end_by_next}
-- transitions that need no choice
pub use Rattle.search_laws.proofs.Commutation.{Alone, commutes}
pub use Rattle.search_laws.proofs.Earlier.{earlier}
pub use Rattle.search_laws.proofs.OneLabel.{partner}
pub use Rattle.search_laws.proofs.ChoiceFreeRuns.{sorted_after, start_sorted, never_stuck_after_settling, never_unfinished_after_settling}
pub use Rattle.search_laws.proofs.KeptOnTheWay.{never_faulty_after_settling, never_dead_after_settling}
pub use Rattle.search_laws.proofs.AllLabels.{all_labels}
pub use Rattle.search_laws.proofs.AllLabelsTried.{among_those, top, below_top, is_in_states, served_keeps_names, silent_keeps_nothing, whole_by_trying, whole_with_writes}
-- dead objects
pub use Rattle.search_laws.proofs.Dead.{unchanged_by, dead_for_good, stuck_is_dead, not_dead}
pub use Rattle.search_laws.proofs.DeadByList.{nobody_dead, dead_by_list}
pub use Rattle.search_laws.proofs.GoesOn.{all_go_on, all_go_on_by_choices}
pub use Rattle.search_laws.proofs.Known.{known_reached}
pub use Rattle.search_laws.proofs.Caught.{caught_is_dead}
pub use Rattle.search_laws.proofs.CaughtWalk.{caught_tells, is_told_caught}
-- what is written
pub use Rattle.search_laws.proofs.Alike.{ends_alike}
pub use Rattle.search_laws.proofs.Outcomes.{every_end_is_kept, items_are, nothing_else_is_written, nothing_else_whatever_the_names}
pub use Rattle.search_laws.proofs.ChosenOutcomes.{every_end_is_kept_by_choices, nothing_else_by_choices, whatever_the_names_by_choices}
-- stubborn sets and creations
pub use Rattle.search_laws.proofs.Births.{brought_first}
pub use Rattle.search_laws.proofs.Enough.{who_is_awaited_is_enough}
pub use Rattle.search_laws.proofs.Choices.{never_stuck_by_choices, never_unfinished_by_choices}
pub use Rattle.search_laws.proofs.PutOff.{in_the_end_by_places}
pub use Rattle.search_laws.proofs.ByChoices.{for_ends, never_faulty_by_choices, nobody_dead_by_choices, dead_by_choices}
