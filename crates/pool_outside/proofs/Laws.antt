-- The lemmas that other crates cite: on prefixes of texts that are written one after another, and on counts of
-- faults.
pub use Rattle.pool_outside.proofs.WrittenPrefixes.{cut_at, cut_first, cut_second, joined, rose_later, rose_before, append_nothing}
