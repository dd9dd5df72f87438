-- The lemmas that crates above may cite.
pub use Rattle.command_inputs.proofs.ReadLaws.{stops_as, was_read, passed_on, judged, judges_refusal, fits_is, judge_passed, program_judged, since, input_passed_on, input_judged, record_refused}
pub use Rattle.command_inputs.proofs.NameCount.{parsed_few}
