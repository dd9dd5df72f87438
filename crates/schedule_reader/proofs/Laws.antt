-- The lemmas that other crates may cite.
pub use Rattle.schedule_reader.proofs.ScheduleFitsMesh.{plan_is_for}
pub use Rattle.schedule_reader.proofs.EventRuns.{get_repeat, length_events, length_repeat}
