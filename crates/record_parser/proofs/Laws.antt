-- The lemmas that other crates may cite: the parts of a text, and words with others appended.
pub use Rattle.record_parser.proofs.LeadingBytes.{parts_joint, parts_length, what_more, write_rest}
