-- The lemmas that other crates cite.
pub use Rattle.station_frames.proofs.ReadBack.{frame_read, frame_written, same_frames}
