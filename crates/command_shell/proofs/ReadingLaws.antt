-- The opens of a call, and the input at which a request stops.
use Rattle.std.proofs.Common.{◌≡◌, ◌∙◌, ◌+◌, ◌≤◌, ℕ, List, Option, Some, None, Bool, false, IsTrue, slice_get, Result, Ok, Err, refl, sym, ap, subst, arith}
use Rattle.text_scan.specs.Text.{Text}
use Rattle.pool_outside.specs.Reading.{Reading}
use Rattle.command_inputs.specs.declared.fault.Input.{Input}
use Rattle.command_inputs.specs.declared.fault.Fault.{Fault}
use Rattle.command_inputs.specs.declared.fault.InputError.{InputError}
use Rattle.command_inputs.specs.declared.fault.InputError.TheVariants as T
use Rattle.command_inputs.specs.Inputs.{limit_of, one_read}
use Rattle.command_inputs.specs.Readers as J
use Rattle.command_inputs.specs.Readers.{Reads}
use Rattle.command_inputs.proofs.Laws.{stops_as}
use Rattle.command_shell.specs.declared.status.Status.{Status}
use Rattle.command_shell.specs.Programs.{Program, MayOpen}
use Rattle.command_shell.specs.Ends.{Reaches, StaysWithin}
use Rattle.command_shell.specs.Results as R
use Rattle.command_shell.specs.Results.{ResultsIn}

-- the open at a place may be of the name of the input there
pub may_at : (may later : ℕ → Text → Bool) (inputs : List (Input × Text)) (opens now place : ℕ) (input : Input) (name : Text) → MayOpen may opens inputs → later ≡ may → now ≡ opens + place
    → slice_get inputs place ≡ Some (input, name) → IsTrue (later now name)
may_at may later inputs opens now place input name h same count at =
    subst (λ (f : ℕ → Text → Bool). IsTrue (f now name)) (sym same) (subst (λ (k : ℕ). IsTrue (may k name)) (sym count) (h place input name at))

pub none_opened : (opens : ℕ) → opens ≡ opens + 0
none_opened opens = omega arith

pub two_opened : (opens one two : ℕ) → one ≡ opens + 1 → two ≡ one + 1 → two ≡ opens + 2
two_opened opens one two a b = omega arith

pub three_opened : (opens one two three : ℕ) → one ≡ opens + 1 → two ≡ one + 1 → three ≡ two + 1 → three ≡ opens + 3
three_opened opens one two three a b c = omega arith

-- no more than the limit of the input that was opened last, of which only these three numbers speak

abbrev Within : ℕ → ℕ → ℕ → List (Input × Text) → Type 0
Within opens opened given inputs = StaysWithin (record { told = λ name. None; opens = opens; opened = opened; given = given; live = false; faults = 0; failed = 0 }) inputs

abbrev input_in : Input → Option (Input × Text) → Input
input_in d None = d
input_in d (Some i) = i.0

same_place : (opens opened place other : ℕ) → opened ≡ opens + (place + 1) → opened ≡ opens + (other + 1) → other ≡ place
same_place opens opened place other a b = omega (arith, a, b)

pub opened_within : (opens opened given : ℕ) (inputs : List (Input × Text)) (place : ℕ) (input : Input) (name : Text) → slice_get inputs place ≡ Some (input, name) → opened ≡ opens + (place + 1)
    → given ≤ limit_of input + one_read → Within opens opened given inputs
opened_within opens opened given inputs place input name at count h other input' name' at' count' =
    let here : slice_get inputs place ≡ Some (input', name') = subst (λ (n : ℕ). slice_get inputs n ≡ Some (input', name')) (same_place opens opened place other count count') at' in
    let same : ◌≡◌ {A = Option (Input × Text)} (Some (input, name)) (Some (input', name')) = sym at ∙ here in
    subst (λ (i : Input). given ≤ limit_of i + one_read) (ap (input_in input) same) h

-- where nothing was opened
pub none_within : (opens opened given : ℕ) (inputs : List (Input × Text)) → opened ≡ opens → Within opens opened given inputs
none_within opens opened given inputs same place input name e n = absurd (omega (arith, same, n))

pub stays_for : (opens opened given : ℕ) (inputs others : List (Input × Text)) → inputs ≡ others → Within opens opened given inputs → Within opens opened given others
stays_for opens opened given inputs others e h = subst (Within opens opened given) e h

module _ (P : Program) {B : Type 0} (text_of : B → Text) (status_of : B → Status) (IsWritable : B → Type 0) where
  module _ {A : Type 0} (k : Reading) (input : Input) (name : Text) (Accepted : Text → Type 0) (Faulty : Text → Fault → Type 0) (Is : Text → A → Type 0) where
    -- an input at which a request stops
    pub stops_at : (r : P.Request) (stop : InputError) (reached : Reaches P k r input name) → ((s : Text) (f : Fault) → Faulty s f → P.HasFault reached.texts input s f)
        → ((s : Text) → P.IsAccepted reached.texts input s → Accepted s) → Reads k input name Accepted Faulty Is (Err stop) → ResultsIn P text_of status_of IsWritable k r (Err stop)
    stops_at r stop reached fault accept (J.read s a e w i c) = absurd (cc)
    stops_at r stop reached fault accept (J.refused f e w c) =
        let same : stop ≡ T.Refused input f = cc in
        R.refused input f (ap Err same)
        (record { name = name; reached = reached; why = stops_as k input name Accepted (P.IsAccepted reached.texts input) Faulty (P.HasFault reached.texts input) f fault accept w; calm = c })
    stops_at r stop reached fault accept (J.unread e rose w) =
        let same : stop ≡ T.Unread input = cc in R.unread input (ap Err same) (record { name = name; reached = reached; rose = rose; within = w })
    stops_at r stop reached fault accept (J.memory e) = let same : stop ≡ T.Memory = cc in R.memory (ap Err same)
