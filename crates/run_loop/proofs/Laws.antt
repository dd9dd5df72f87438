-- The lemmas that other crates may cite.
pub use Rattle.run_loop.proofs.DriveLaws.{Follows, front_of_both, front_of_first, then, wrote_both}
pub use Rattle.run_loop.proofs.PlanLaws.{plan_is_on}
