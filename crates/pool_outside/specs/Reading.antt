-- The effect of a call on files: the opens, the bytes given and the faults.
use Rattle.std.specs.Prelude.{◌≡◌, ℕ, Bool, Option}
use Rattle.text_scan.specs.Text.{Text}

-- the texts of names, where they are known
abbrev pub Told : Type 0
Told = Text → Option Text

-- the effect of a call on files: the known texts; the number of opens before and after the call; the bytes given
-- since the last open, and whether that text is still open; the number of faults before and after the call
pub record Reading : Type 0 where
  pub told : Told
  pub opens : ℕ
  pub opened : ℕ
  pub given : ℕ
  pub live : Bool
  pub faults : ℕ
  pub failed : ℕ

-- the effect of a call, from the functions that give the texts and the counts of files, and the files before and
-- after it
abbrev pub reading : {S : Type 0} → (S → Told) → (S → ℕ) → (S → ℕ) → (S → Bool) → (S → ℕ) → S → S → Reading
reading texts opens given live count old new =
    record { told = texts old; opens = opens old; opened = opens new; given = given new; live = live new; faults = count old; failed = count new }

-- no read failed
abbrev pub AllRead : Reading → Type 0
AllRead k = k.failed ≡ k.faults
