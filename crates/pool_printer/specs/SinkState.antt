-- The state of a sink and its printer, before and after a failed write.
use Rattle.std.specs.Prelude.{◌≡◌, ℕ, zero, suc, ◌≤◌, List, [], ◌∷◌, ◌++◌, Bool, true, false, Option, Some, option_map}
use Rattle.pool_outside.specs.Outside.{Rose, IsProperFront}
use Rattle.text_scan.specs.Text.{Text}
use Rattle.pool_syntax.specs.declared.token.Tok.{Tok}
use Rattle.pool_printer.specs.declared.token_writer.Progress.{Progress}
use Rattle.pool_printer.specs.Canonical.{text_behind}

-- the last token, whether a write has failed, the bytes written, if they are known, and the number of failed writes
pub record State : Type 0 where
  pub last : Option Tok
  pub failed : Bool
  pub written : Option Text
  pub faults : ℕ

-- the state of this progress, with these bytes written and this number of failed writes
abbrev pub state : Progress → Option Text → ℕ → State
state p w n = record { last = p.last; failed = p.failed; written = w; faults = n }

-- from a to b one of three things happened: the text was written whole; a proper prefix of it was written up to a
-- failed write; or nothing was written, since a write had failed before
pub data Puts (text : Text) (a b : State) : Type 0 where
  whole : (a.failed ≡ false) → (b.failed ≡ false) → (b.written ≡ option_map (λ w. w ++ text) a.written) → (b.faults ≡ a.faults) → Puts text a b
  cut : (a.failed ≡ false) → (b.failed ≡ true) → IsProperFront a.written text b.written → (a.faults ≤ b.faults) → Rose a.faults b.faults → Puts text a b
  idle : (a.failed ≡ true) → (b.failed ≡ true) → (b.written ≡ a.written) → (b.faults ≡ a.faults) → Puts text a b

-- the last token after more tokens
abbrev pub last_of : Option Tok → List Tok → Option Tok
last_of last [] = last
last_of last (t ∷ ts) = last_of (Some t) ts

-- from a to b the text of these tokens was written
pub record Prints (names : List Text) (ts : List Tok) (a b : State) : Type 0 where
  pub last : b.last ≡ last_of a.last ts
  pub text : Puts (text_behind names a.last ts) a b

-- the separator before the part at an index
abbrev pub separator_at : Tok → ℕ → List Tok
separator_at separator zero = []
separator_at separator (suc i) = separator ∷ []
