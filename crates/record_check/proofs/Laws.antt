-- The lemmas that other crates cite: lines that are followed, and lines that stop.
pub use Rattle.record_check.proofs.RunExtension.{line_more, stops_of}
pub use Rattle.record_check.proofs.OneVerdict.{labels_split, no_run, same_start}
