-- Files and sinks in memory, as contracts see them. A file is a pair of the bytes of its name and those of its text.
use Rattle.std.specs.Prelude.{ℕ, ◌+◌, ◌-◌, ◌^◌, ◌==◌, min, Bool, List, [], ◌∷◌, Option, None, Some, option_map, unwrap_or, slice_get, if◌then◌else◌}
use Rattle.std.specs.List.{list_any}
use Rattle.std.specs.Str.{bytes_eq}

-- a count after n more; it stops at the last value of its type, a u64
abbrev pub counted : ℕ → ℕ → ℕ
counted count n = min (count + n) (2 ^ 64 - 1)

-- whether the call with this number fails
abbrev pub is_failing : List ℕ → ℕ → Bool
is_failing failing number = list_any (λ n. n == number) failing

-- the first text with this name
abbrev pub text_under : List (List ℕ × List ℕ) → List ℕ → Option (List ℕ)
text_under [] name = None
text_under (t ∷ ts) name = if bytes_eq t.0 name then Some t.1 else text_under ts name

-- the text at an index, which is empty after the last one
abbrev pub text_at : List (List ℕ × List ℕ) → ℕ → List ℕ
text_at texts place = unwrap_or (option_map (λ t. t.1) (slice_get texts place)) []

-- texts, of which one may be open
pub record Texts : Type 0 where
  pub texts : List (List ℕ × List ℕ)
  -- the unread rest of the open text
  pub rest : Option (List ℕ)
  pub live : Bool
  pub given : ℕ
  pub opens : ℕ

-- texts that are given in small pieces
pub record Pieces : Type 0 where
  pub shelf : Texts
  -- the largest number of bytes that one read gives
  pub gives : ℕ

-- texts in memory whose calls may fail
pub record FilesState : Type 0 where
  pub texts : List (List ℕ × List ℕ)
  pub rest : Option (List ℕ)
  pub live : Bool
  pub given : ℕ
  pub opens : ℕ
  -- the numbers of the calls that fail
  pub failing : List ℕ
  -- the number of calls that were made
  pub calls : ℕ
  pub faults : ℕ

-- a sink in memory
pub record SinkState : Type 0 where
  pub bytes : List ℕ
  -- the number of bytes for which it still has room
  pub room : ℕ
  -- the largest number of bytes that one write takes
  pub takes : ℕ
  -- the numbers of the writes that fail
  pub failing : List ℕ
  -- the number of writes that were made
  pub calls : ℕ
  pub faults : ℕ
