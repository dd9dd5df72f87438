-- The lemmas that other crates cite: what a judge has read, and streams with more bytes after them.
pub use Rattle.stream_check.proofs.ReadIsFollowed.{read_is_followed, read_is_fresh}
pub use Rattle.stream_check.proofs.StreamLaws.{ended_faultless, same_fault, same_lines}
