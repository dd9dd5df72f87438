-- The lemmas that other crates cite: runs of bytes that pass a test, and look-ups by text.
pub use Rattle.text_scan.proofs.TableTexts.{listed_is}
pub use Rattle.text_scan.proofs.ByteRuns.{every_front, every_past}
