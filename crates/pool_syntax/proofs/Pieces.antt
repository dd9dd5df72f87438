-- Bounds on the pieces of a text: their number, and the length of each.
use Rattle.std.proofs.Common.{◌≤◌, List, [], ◌∷◌, length, drop, arith, ◌≡◌, ℕ, Bool, true, false, Option, Some, None, nat_le, refl}
use Rattle.std.proofs.lemmas.List.{length-drop}
use Rattle.text_scan.specs.Text.{Text}
use Rattle.pool_syntax.specs.Tokens.{longest, IsPieces}
use Rattle.pool_syntax.specs.declared.token.LexFault.{LexFault}

-- the pieces of a text are no more than its bytes
pub pieces_count : (s : Text) (ws : List Text) → IsPieces s ws [] → length ws ≤ length s
pieces_count s [] p = omega arith
pieces_count [] (w ∷ ws) p = absurd (omega (arith, p.0))
pieces_count (b ∷ bs) (w ∷ ws) p =
    let others = pieces_count (drop (longest (b ∷ bs)) (b ∷ bs)) ws p.2 in
    let long = length-drop (longest (b ∷ bs)) (b ∷ bs) in
    omega (arith, p.0)

-- a piece without fault is no longer than it may be
pub piece_within : (limit n : ℕ) (fault : LexFault) → elim (nat_le n limit) as (λ b. Option LexFault) [ true ↦ None | false ↦ Some fault ] ≡ None → nat_le n limit ≡ true
piece_within limit n fault h = by (nat_le n limit) h
  where
    by : (b : Bool) → elim b as (λ b. Option LexFault) [ true ↦ None | false ↦ Some fault ] ≡ None → b ≡ true
    by true e = refl
    by false e = absurd (cc)
