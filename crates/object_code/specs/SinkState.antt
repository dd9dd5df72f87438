-- The effect of writing a text to a sink, before and after a write has failed.
use Rattle.std.specs.Prelude.{◌≡◌, ℕ, ◌≤◌, ◌++◌, Bool, true, false, Option, option_map}
use Rattle.pool_outside.specs.Outside.{Rose, IsProperFront}
use Rattle.text_scan.specs.Text.{Text}

-- whether a write has failed, the bytes written so far if they are known, and the number of failed writes
pub record State : Type 0 where
  pub failed : Bool
  pub written : Option Text
  pub faults : ℕ

abbrev pub state : Bool → Option Text → ℕ → State
state b w n = record { failed = b; written = w; faults = n }

-- The text was written completely, or only a proper prefix of it because a write failed, or not at all because a write
-- had failed before.
pub data Writes (text : Text) (a b : State) : Type 0 where
  whole : (a.failed ≡ false) → (b.failed ≡ false) → (b.written ≡ option_map (λ w. w ++ text) a.written) → (b.faults ≡ a.faults) → Writes text a b
  cut : (a.failed ≡ false) → (b.failed ≡ true) → IsProperFront a.written text b.written → (a.faults ≤ b.faults) → Rose a.faults b.faults → Writes text a b
  idle : (a.failed ≡ true) → (b.failed ≡ true) → (b.written ≡ a.written) → (b.faults ≡ a.faults) → Writes text a b
