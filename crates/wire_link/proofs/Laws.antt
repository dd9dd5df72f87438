-- The lemmas that other crates cite.
pub use Rattle.wire_link.proofs.WriteThenRead.{frame_read}
pub use Rattle.wire_link.proofs.ReadThenWrite.{frame_written}
pub use Rattle.wire_link.proofs.WantedNumbers.{link_wanted}
