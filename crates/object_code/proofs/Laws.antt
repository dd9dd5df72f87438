-- The lemmas that other crates may cite.

-- a proper unit can be listed
pub use Rattle.object_code.proofs.ProperKnown.{proper_known}
-- the bytes of a file say it, and bytes that say a file are its bytes
pub use Rattle.object_code.proofs.WholeFile.{decode_encode, encode_decode, writable_is_shaped, firsts_pairs, seconds_pairs}
-- the first byte that is not allowed: the bytes before it begin a file, and with it they begin none
pub use Rattle.object_code.proofs.AcceptedPrefix.{begins_file}
pub use Rattle.object_code.proofs.PrefixStability.{bad_byte_stays}
-- a shaped and short file of numbers of its types has bytes, and a file that has bytes is short
pub use Rattle.object_code.proofs.Shorts.{short_is_writable, writable_is_short, are_bytes}
