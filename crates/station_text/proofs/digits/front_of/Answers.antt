use Rattle.std.proofs.Common.{◌≡◌, refl, ℕ, ◌<◌, ◌≤◌, List, [], ◌∷◌, length, arith}
use Rattle.station_text.proofs.digits.front_of.Goals as goal

only_one : (t : List ℕ) → 1 ≤ length t → length t < 2 → (a : ℕ) × (t ≡ a ∷ [])
only_one [] h k = absurd (omega (arith, h))
only_one (a ∷ []) h k = (a, refl)
only_one (a ∷ b ∷ t) h k = absurd (omega (arith, k))

pub returns-in-len1 : goal.returns-in-len1
returns-in-len1 c = only_one c.args.text.now c.in-len1.len_at_least c.in-len1.len_below
