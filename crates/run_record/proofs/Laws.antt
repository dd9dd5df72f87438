-- The lemmas that other crates may cite. They are of lines that carry a request number, of the lines of a record one at
-- a time, and of texts without fault.
pub use Rattle.run_record.proofs.RequestSuffix.{asked_words}
pub use Rattle.run_record.proofs.ParsedLines.{rows_step}
pub use Rattle.run_record.proofs.ReadIsReadable.{FitsLine, FitsTold, IsReadableLine, line_there, record_again, told_fit, told_of, what_short}
pub use Rattle.run_record.proofs.NameRoundTrip.{lines_back, record_placed}
pub use Rattle.run_record.proofs.LineRoundTrip.{text_read}
pub use Rattle.run_record.proofs.SecondFormRoundTrip.{text2_read}
