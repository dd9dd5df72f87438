-- The effect of a call on a sink: the bytes written and the faults.
use Rattle.std.specs.Prelude.{◌≡◌, ℕ, ◌++◌, Option, option_map}
use Rattle.pool_outside.specs.Outside.{Rose, IsProperFront}
use Rattle.text_scan.specs.Text.{Text}

-- the effect of a call on a sink: its bytes before and after, if they are known, and the number of faults before and
-- after
pub record Writing : Type 0 where
  pub before : Option Text
  pub after : Option Text
  pub faults : ℕ
  pub failed : ℕ

-- the effect of a call, from the functions that give the bytes and the faults of a sink, and the sink before and
-- after it
abbrev pub writing : {S : Type 0} → (S → Option Text) → (S → ℕ) → S → S → Writing
writing bytes count old new = record { before = bytes old; after = bytes new; faults = count old; failed = count new }

-- no write failed
abbrev pub AllWrote : Writing → Type 0
AllWrote k = k.failed ≡ k.faults

-- nothing was written, and no write failed
abbrev pub IsIdle : Writing → Type 0
IsIdle k = (k.after ≡ k.before) × AllWrote k

-- the whole text was written after what was there, and no write failed
abbrev pub Wrote : Writing → Text → Type 0
Wrote k s = (k.after ≡ option_map (λ w. w ++ s) k.before) × AllWrote k

-- a prefix of the text was written, not all of it, and then a write failed
pub record WroteFront (k : Writing) (s : Text) : Type 0 where
  pub front : IsProperFront k.before s k.after
  pub rose : Rose k.faults k.failed
