-- The lemmas that other crates cite.

-- code of a program beside its terms
pub use Rattle.compiler_correctness.proofs.Records.{code_simulates, code_start, code_record, code_record_on_wires, code_standing, code_cycles}
pub use Rattle.compiler_correctness.proofs.SuitsImpliesFits.{suits_fits}
pub use Rattle.compiler_correctness.proofs.ParsedIsText.{parsed_checked}
pub use Rattle.compiler_correctness.proofs.ReachableHasCode.{has_code}
pub use Rattle.compiler_correctness.proofs.OneMachine.{machine_has_code}
-- the file of a program is shaped, and verified
pub use Rattle.compiler_correctness.proofs.CompiledFiles.{file_is_shaped}
pub use Rattle.compiler_correctness.proofs.CompileThenLoad.{grammatical_verified, read_back}
-- the unit of a verified file is proper, and its code lawful
pub use Rattle.compiler_correctness.proofs.ProperUnits.{verified_is_proper}
pub use Rattle.compiler_correctness.proofs.TypePreservation.{verified_lawful, asked_class}
pub use Rattle.compiler_correctness.proofs.TypeSafety.{nobody_goes_wrong, start_typed, record_is_code_run, record_is_code_run_on_wires}
-- each line of its record has the number of the post that it answers
pub use Rattle.compiler_correctness.proofs.WaitingCode.{code_answers, code_answers_on_wires}
-- records are readable
pub use Rattle.compiler_correctness.proofs.ReadableRuns.{ShowsNames, KeepsNames, record_reads, record_reads_on_wires}
pub use Rattle.compiler_correctness.proofs.SpelledCode.{code_is_spelled, named_reads, string_reads}
pub use Rattle.compiler_correctness.proofs.ReadablePrograms.{parsed_spelled, program_reads, program_reads_on_wires}
pub use Rattle.compiler_correctness.proofs.RecordRoundTrip.{parsed_distinct, reads_back}
pub use Rattle.compiler_correctness.proofs.WritableLines.{record_writable}
pub use Rattle.compiler_correctness.proofs.Objects.{kept_of, class_from_is}
pub use Rattle.compiler_correctness.proofs.SendDestination.{Asks}
pub use Rattle.compiler_correctness.proofs.ShapedKinds.{class_shaped, class_there, kinds_of_class, kinds_of_method, class_parts}
