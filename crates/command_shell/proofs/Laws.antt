-- The lemmas that other crates may cite.
pub use Rattle.command_shell.proofs.EndLaws.{writes_as, text_ends, usage_ends, stop_ends, text_completes, stop_completes}
pub use Rattle.command_shell.proofs.ReadingLaws.{may_at, none_opened, two_opened, three_opened, opened_within, none_within, stays_for, stops_at}
pub use Rattle.command_shell.proofs.ReachLaws.{reaches_first, reaches_second, reaches_third, Allow, all_within}
