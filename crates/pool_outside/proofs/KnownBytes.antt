-- Lemmas on bytes that may or may not be known.
use Rattle.std.proofs.Common.{◌≡◌, ℕ, ◌+◌, ◌-◌, List, ◌++◌, length, take, drop, Option, None, Some, option_map, ap, sym, ◌∙◌, append_assoc, arith}
use Rattle.std.proofs.Math.Seq.{take-add}
use Rattle.std.proofs.lemmas.Grind.{common_steps}

-- what stands from a place on, as the code's slice
from_place : (piece : List ℕ) (at : ℕ) → take (length piece - at) (drop at piece) ≡ drop at piece
from_place piece at = grind (arith, common_steps)

-- the front that is written grows by a write of what follows it
more : (old now new : Option (List ℕ)) (piece : List ℕ) (at n : ℕ) → now ≡ option_map (λ w. w ++ take at piece) old → new ≡ option_map (λ w. w ++ take n (drop at piece)) now → new ≡ option_map (λ w. w ++ take (at + n) piece) old
more None now new piece at n e h = h ∙ ap (option_map (λ w. w ++ take n (drop at piece))) e
more (Some w) now new piece at n e h =
    h ∙ ap (option_map (λ w. w ++ take n (drop at piece))) e
    ∙ ap Some (append_assoc w (take at piece) (take n (drop at piece)) ∙ ap (λ t. w ++ t) (sym (take-add at n piece)))

-- two writes in a row are one write of both fronts
pub write_more : (old now new : Option (List ℕ)) (piece : List ℕ) (at n : ℕ) → now ≡ option_map (λ w. w ++ take at piece) old → new ≡ option_map (λ w. w ++ take n (take (length piece - at) (drop at piece))) now → new ≡ option_map (λ w. w ++ take (at + n) piece) old
write_more old now new piece at n e h =
    more old now new piece at n e (h ∙ ap (λ rest. option_map (λ w. w ++ take n rest) now) (from_place piece at))
