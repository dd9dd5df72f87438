-- The inputs of a request in their order: which of them a call has reached, and how much the last one has given.
use Rattle.std.proofs.Common.{◌≡◌, ◌+◌, ◌≤◌, ℕ, zero, suc, List, [], ◌∷◌, Option, Some, None, false, slice_get, subst, arith}
use Rattle.text_scan.specs.Text.{Text}
use Rattle.pool_outside.specs.Reading.{Reading}
use Rattle.command_inputs.specs.declared.fault.Input.{Input}
use Rattle.command_inputs.specs.Inputs.{limit_of, one_read, IsReadAs}
use Rattle.command_shell.specs.Programs.{Program}
use Rattle.command_shell.specs.Ends.{Reaches, StaysWithin}

module _ (P : Program) (k : Reading) (r : P.Request) where
  abbrev pub reaches_first : (input : Input) (name : Text) (behind : List (Input × Text)) → P.inputs r ≡ (input, name) ∷ behind → k.opened ≡ k.opens + 1 → Reaches P k r input name
  reaches_first input name behind place opened = record { before = []; behind = behind; texts = []; place = place; accepted = tt; opened = opened }

  abbrev pub reaches_second : (first : Input × Text) (input : Input) (name : Text) (behind : List (Input × Text)) (s : Text) → P.inputs r ≡ first ∷ (input, name) ∷ behind
      → IsReadAs k.told first.0 first.1 s → P.IsAccepted [] first.0 s → k.opened ≡ k.opens + 2 → Reaches P k r input name
  reaches_second first input name behind s place read accepted opened =
      record { before = first ∷ []; behind = behind; texts = s ∷ []; place = place; accepted = (read, accepted, tt); opened = opened }

  abbrev pub reaches_third : (first second : Input × Text) (input : Input) (name : Text) (behind : List (Input × Text)) (s t : Text) → P.inputs r ≡ first ∷ second ∷ (input, name) ∷ behind
      → IsReadAs k.told first.0 first.1 s → P.IsAccepted [] first.0 s → IsReadAs k.told second.0 second.1 t → P.IsAccepted (s ∷ []) second.0 t → k.opened ≡ k.opens + 3 → Reaches P k r input name
  reaches_third first second input name behind s t place read accepted read_second accepted_second opened = record {
    before = first ∷ second ∷ [];
    behind = behind;
    texts = s ∷ t ∷ [];
    place = place;
    accepted = (read, accepted, (read_second, accepted_second, tt));
    opened = opened;
  }

-- none of the inputs has a smaller limit
abbrev pub Allow : ℕ → List (Input × Text) → Type 0
Allow n [] = Unit {0}
Allow n (i ∷ is) = (n ≤ limit_of i.0) × Allow n is

abbrev input_in : Input → Option (Input × Text) → Input
input_in d None = d
input_in d (Some i) = i.0

limit_at : (n : ℕ) (inputs : List (Input × Text)) → Allow n inputs → (place : ℕ) (input : Input) (name : Text) → slice_get inputs place ≡ Some (input, name) → n ≤ limit_of input
limit_at n [] a place input name e = absurd (cc)
limit_at n (i ∷ is) a zero input name e = subst (λ (x : Option (Input × Text)). n ≤ limit_of (input_in i.0 x)) e a.0
limit_at n (i ∷ is) a (suc place) input name e = limit_at n is a.1 place input name e

-- so it does not matter which of them was opened last
pub all_within : (opens opened given n : ℕ) (inputs : List (Input × Text)) → Allow n inputs → given ≤ n + one_read
    → StaysWithin (record { told = λ name. None; opens = opens; opened = opened; given = given; live = false; faults = 0; failed = 0 }) inputs
all_within opens opened given n inputs allow h place input name at count = let limit = limit_at n inputs allow place input name at in omega (arith, h, limit)
