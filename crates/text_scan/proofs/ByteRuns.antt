-- A prefix of a text consists of bytes that pass a test exactly if it is no longer than the first run of such bytes.
use Rattle.std.proofs.Common.{◌≡◌, ℕ, zero, suc, ◌<◌, ◌≤◌, Bool, true, false, [], ◌∷◌, length, take, refl, arith}
use Rattle.std.specs.List.{prefix_len}
use Rattle.text_scan.specs.Text.{Text, every}

-- every front up to the run's end is one
pub every_front : (p : ℕ → Bool) (k : ℕ) (s : Text) → k ≤ prefix_len p s → every p (take k s) ≡ true
every_front p zero s h = refl
every_front p (suc k) [] h = refl
every_front p (suc k) (b ∷ bs) h = grind (arith, every_front p k bs)

-- and none past it
pub every_past : (p : ℕ → Bool) (k : ℕ) (s : Text) → prefix_len p s < k → k ≤ length s → every p (take k s) ≡ false
every_past p zero s h long = absurd (omega arith)
every_past p (suc k) [] h long = absurd (omega arith)
every_past p (suc k) (b ∷ bs) h long = grind (arith, every_past p k bs)

-- the same of a whole text
pub every_all : (p : ℕ → Bool) (s : Text) → length s ≤ prefix_len p s → every p s ≡ true
every_all p [] h = refl
every_all p (b ∷ bs) h = grind (arith, every_all p bs)

pub every_not : (p : ℕ → Bool) (s : Text) → prefix_len p s < length s → every p s ≡ false
every_not p [] h = absurd (omega arith)
every_not p (b ∷ bs) h = grind (arith, every_not p bs)
