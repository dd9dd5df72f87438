-- The lemmas that other crates may cite.

-- the verdict is good exactly where the file is verified, and else tells its first fault
pub use Rattle.code_typing.proofs.WholeVerdict.{good_is_verified, verified_is_good, heading_is}
pub use Rattle.code_typing.proofs.FirstFaults.{header_is_first, no_bad_heading}
pub use Rattle.code_typing.proofs.FirstCodes.{code_is_first}
pub use Rattle.code_typing.proofs.UniqueFault.{no_class, first_is_header, first_is_code}
-- silent instructions come back to none exactly where each chain of them is short
pub use Rattle.code_typing.proofs.CodeTestSound.{no_circle_is, is_calm, chain_goes_on, chain_front, rounds, silent_within, circle_at}
-- how many visits may still come
pub use Rattle.code_typing.proofs.ReachedStacks.{followed_is, unset, set_less, all_unset, next_count}
-- that a file is shaped has at most one proof
pub use Rattle.code_typing.proofs.Propositions.{shaped_is_fact}
pub use Rattle.code_typing.proofs.TextNumbers.{passes_below}
