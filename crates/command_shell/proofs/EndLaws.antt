-- How a call ends follows from the result for its inputs and from the text that was written.
use Rattle.std.proofs.Common.{◌≡◌, ◌∙◌, ◌⊎◌, inl, inr, ◌≤◌, ◌++◌, ℕ, List, [], ◌∷◌, length, Option, Some, None, Ok, Err, refl, sym, subst, arith}
use Rattle.std.proofs.lemmas.List.{append-nil, append_assoc}
use Rattle.pool_outside.specs.Outside.{Rose}
use Rattle.text_scan.specs.Text.{Text}
use Rattle.pool_outside.specs.Reading.{Told, Reading, AllRead}
use Rattle.command_inputs.specs.declared.fault.Input.{Input}
use Rattle.command_inputs.specs.declared.fault.Fault.{Fault}
use Rattle.command_inputs.specs.declared.fault.InputError.{InputError}
use Rattle.command_inputs.specs.declared.fault.InputError.TheVariants as T
use Rattle.command_inputs.specs.FaultText.{refusal_line, unread_line}
use Rattle.command_inputs.specs.Inputs.{limit_of, Stops, too_long, faulty}
use Rattle.command_shell.specs.declared.status.Status.{Status}
use Rattle.command_shell.specs.declared.status.Status.TheVariants as S
use Rattle.command_shell.specs.Programs.{Program, WereAccepted, AreServed}
use Rattle.command_shell.specs.Ends as E
use Rattle.command_shell.specs.Ends.{IsAnswered, IsRefused, IsUnmade, IsUnread, Says, Ends, WholeTextWritten}
use Rattle.command_shell.specs.Results as D
use Rattle.command_shell.specs.Results.{ResultsIn, ReportsInputError}
use Rattle.command_shell.specs.Writing as W
use Rattle.command_shell.specs.Writing.{Writing, IsIdle, Writes, Delivers}

-- the same text
pub writes_as : (k : Writing) (s t : Text) (planned status : Status) → s ≡ t → Writes k s planned status → Writes k t planned status
writes_as k s t planned status e h = subst (λ (x : Text). Writes k x planned status) e h

-- a sink on which nothing happened
abbrev quiet : Option Text → ℕ → Writing
quiet held faults = record { before = held; after = held; faults = faults; failed = faults }

module _ (P : Program) where
  -- a line, or a front of it
  line_ends : (words : Option P.Request) (k : Reading) (out err : Writing) (line : Text) (planned status : Status) → Says P k words line planned → Writes err line planned status → IsIdle out
      → Ends P words k out err status
  line_ends words k out err line planned status says (W.whole wrote e) idle = E.said line (subst (Says P k words line) (sym e) says) wrote idle
  line_ends words k out err line planned status says (W.cut front e) idle = E.line_cut line planned says front idle e

  pub usage_ends : (words : Option P.Request) (k : Reading) (out err : Writing) (status : Status) → words ≡ None → k.opened ≡ k.opens → AllRead k → Writes err P.usage S.Usage status → IsIdle out
      → Ends P words k out err status
  usage_ends words k out err status none opened calm w idle =
      line_ends words k out err P.usage S.Usage status (E.usage (record { none = none; opened = opened; calm = calm }) refl refl) w idle

  -- An input that is told, within the limit and accepted, does not stop a call.

  -- it is told, within the limit and accepted behind the texts that were read before it
  record IsServed (told : Told) (earlier : List Text) (i : Input) (name : Text) : Type 0 where
    pub text : Text
    pub is : told name ≡ Some text
    pub within : length text ≤ limit_of i
    pub accepted : P.IsAccepted earlier i text

  served_at : (told : Told) (earlier : List Text) (before behind : List (Input × Text)) (texts : List Text) (i : Input) (name : Text) → WereAccepted P.IsAccepted told earlier before texts
      → AreServed P.IsAccepted told earlier (before ++ (i, name) ∷ behind) → IsServed told (earlier ++ texts) i name
  served_at told earlier [] behind [] i name w h =
      subst (λ (e : List Text). IsServed told e i name) (sym (append-nil earlier)) (record { text = h.0; is = h.1; within = h.2; accepted = h.3 })
  served_at told earlier [] behind (t ∷ ts) i name w h = absurd w
  served_at told earlier (b ∷ before) behind [] i name w h = absurd w
  served_at told earlier (b ∷ before) behind (t ∷ ts) i name w h =
      let same : t ≡ h.0 = rw h.1 at w.0.0 in
      let rest = subst (λ (x : Text). AreServed P.IsAccepted told (earlier ++ x ∷ []) (before ++ (i, name) ∷ behind)) (sym same) h.4 in
      subst (λ (e : List Text). IsServed told e i name) (append_assoc earlier (t ∷ []) ts) (served_at told (earlier ++ t ∷ []) before behind ts i name w.2 rest)

  never_refused : (k : Reading) (r : P.Request) (i : Input) (f : Fault) → AreServed P.IsAccepted k.told [] (P.inputs r) → IsRefused P k r i f → ⊥
  never_refused k r i f served h = by h.why
    where
      here : IsServed k.told h.reached.texts i h.name
      here = served_at k.told [] h.reached.before h.reached.behind h.reached.texts i h.name h.reached.accepted (subst (AreServed P.IsAccepted k.told []) h.reached.place served)

      by : Stops k i h.name (P.IsAccepted h.reached.texts i) (P.HasFault h.reached.texts i) f → ⊥
      by (too_long e g l t) = let le : k.given ≤ length here.text = rw here.is at t in let short = here.within in omega arith
      by (faulty s w x refuses) = let same : s ≡ here.text = rw here.is at w.0.0 in refuses (subst (P.IsAccepted h.reached.texts i) (sym same) here.accepted)

  never_said : (k : Reading) (words : Option P.Request) (line : Text) (status : Status) (r : P.Request) → words ≡ Some r → AreServed P.IsAccepted k.told [] (P.inputs r)
      → ((i : Input) (f : Fault) → P.IsUnfit r i f → ⊥) → ¬ (Rose k.faults k.failed) → Says P k words line status → ⊥
  never_said k words line status r is served fit read (E.usage none e s) = let z : Some r ≡ None = sym is ∙ none.none in cc
  never_said k words line status r is served fit read (E.refusal q i f at h e s) =
      let z : Some q ≡ Some r = sym at ∙ is in
      let same : q ≡ r = cc in
      never_refused k r i f served (subst (λ (x : P.Request). IsRefused P k x i f) same h)
  never_said k words line status r is served fit read (E.unmade q i f at h e s) =
      let z : Some q ≡ Some r = sym at ∙ is in
      let same : q ≡ r = cc in
      fit i f (subst (λ (x : P.Request). P.IsUnfit x i f) same h.why)
  never_said k words line status r is served fit read (E.unread q i at h e s) = read h.rose

  -- So words of a command, accepted inputs and no fault give the whole text, or nothing for want of memory.
  module _ (whole_output : (r : P.Request) (texts : List Text) (text : Text) (s : Status) → P.IsOutput r texts text s → WholeTextWritten s) where
    completes : (words : Option P.Request) (k : Reading) (out err : Writing) (status : Status) → Ends P words k out err status → (r : P.Request) → words ≡ Some r
        → AreServed P.IsAccepted k.told [] (P.inputs r) → ((i : Input) (f : Fault) → P.IsUnfit r i f → ⊥)
        → ¬ (Rose k.faults k.failed) → ¬ (Rose out.faults out.failed) → ¬ (Rose err.faults err.failed) → WholeTextWritten status ⊎ (status ≡ S.Memory)
    completes words k out err status (E.whole q text at made w idle) r is served fit read wrote told = inl (whole_output q made.texts text status made.output)
    completes words k out err status (E.said line says w idle) r is served fit read wrote told = absurd (never_said k words line status r is served fit read says)
    completes words k out err status (E.cut q text planned at made front idle e) r is served fit read wrote told = absurd (wrote front.rose)
    completes words k out err status (E.line_cut line planned says front idle e) r is served fit read wrote told = absurd (told front.rose)
    completes words k out err status (E.no_memory idle quiet e) r is served fit read wrote told = inr e

  module _ {A : Type 0} (text_of : A → Text) (status_of : A → Status) (IsWritable : A → Type 0) where
    -- what was asked for, or a front of it, or nothing for want of memory
    pub text_ends : (words : Option P.Request) (k : Reading) (out err : Writing) (r : P.Request) (o : A) (status : Status) → words ≡ Some r → ResultsIn P text_of status_of IsWritable k r (Ok o)
        → Delivers out (text_of o) (status_of o) status → IsIdle err → Ends P words k out err status
    text_ends words k out err r o status is (D.made p e made writable) w idle = let same : p ≡ o = cc in by w (subst (λ (x : A). IsAnswered P k r (text_of x) (status_of x)) same made)
      where
        by : Delivers out (text_of o) (status_of o) status → IsAnswered P k r (text_of o) (status_of o) → Ends P words k out err status
        by (W.written (W.whole wrote e)) made = E.whole r (text_of o) is (subst (λ (s : Status). IsAnswered P k r (text_of o) s) (sym e) made) wrote idle
        by (W.written (W.cut front e)) made = E.cut r (text_of o) (status_of o) is made front idle e
        by (W.nothing quiet e) made = E.no_memory quiet idle e
    text_ends words k out err r o status is (D.refused input f e h) w idle = absurd (cc)
    text_ends words k out err r o status is (D.unmade input f e h) w idle = absurd (cc)
    text_ends words k out err r o status is (D.unread input e h) w idle = absurd (cc)
    text_ends words k out err r o status is (D.memory e) w idle = absurd (cc)

    pub stop_ends : (words : Option P.Request) (k : Reading) (out err : Writing) (r : P.Request) (stop : InputError) (status : Status) → words ≡ Some r
        → ResultsIn P text_of status_of IsWritable k r (Err stop) → ReportsInputError err stop status → IsIdle out → Ends P words k out err status
    stop_ends words k out err r stop status is makes (D.refusal input f e w) idle = by makes
      where
        by : ResultsIn P text_of status_of IsWritable k r (Err stop) → Ends P words k out err status
        by (D.made o z made writable) = absurd (cc)
        by (D.refused i g z h) =
            let at : i ≡ input = cc in
            let fault : g ≡ f = cc in
            line_ends words k out err (refusal_line input f) S.Refused status
            (E.refusal r input f is (subst (λ (x : Fault). IsRefused P k r input x) fault (subst (λ (x : Input). IsRefused P k r x g) at h)) refl refl) w idle
        by (D.unmade i g z h) =
            let at : i ≡ input = cc in
            let fault : g ≡ f = cc in
            line_ends words k out err (refusal_line input f) S.Refused status
            (E.unmade r input f is (subst (λ (x : Fault). IsUnmade P k r input x) fault (subst (λ (x : Input). IsUnmade P k r x g) at h)) refl refl) w idle
        by (D.unread i z h) = absurd (let y : T.Refused input f ≡ T.Unread i = cc in cc)
        by (D.memory z) = absurd (let y : T.Refused input f ≡ T.Memory = cc in cc)
    stop_ends words k out err r stop status is makes (D.unread input e w) idle = by makes
      where
        by : ResultsIn P text_of status_of IsWritable k r (Err stop) → Ends P words k out err status
        by (D.made o z made writable) = absurd (cc)
        by (D.refused i g z h) = absurd (let y : T.Unread input ≡ T.Refused i g = cc in cc)
        by (D.unmade i g z h) = absurd (let y : T.Unread input ≡ T.Refused i g = cc in cc)
        by (D.unread i z h) =
            let at : i ≡ input = cc in
            line_ends words k out err (unread_line input) S.ReadFault status (E.unread r input is (subst (IsUnread P k r) at h) refl refl) w idle
        by (D.memory z) = absurd (let y : T.Unread input ≡ T.Memory = cc in cc)
    stop_ends words k out err r stop status is makes (D.memory e quiet) idle = E.no_memory idle quiet e

    -- the same of an output, and of a reason why there is none; the other sink stands as it was
    module _ (whole_output : (r : P.Request) (texts : List Text) (text : Text) (s : Status) → P.IsOutput r texts text s → WholeTextWritten s) where
      pub text_completes : (words : Option P.Request) (k : Reading) (out : Writing) (held : Option Text) (faults : ℕ) (q : P.Request) (o : A) (status : Status) → words ≡ Some q
          → ResultsIn P text_of status_of IsWritable k q (Ok o) → Delivers out (text_of o) (status_of o) status → (r : P.Request) → words ≡ Some r → AreServed P.IsAccepted k.told [] (P.inputs r)
          → ((i : Input) (f : Fault) → P.IsUnfit r i f → ⊥) → ¬ (Rose k.faults k.failed) → ¬ (Rose out.faults out.failed) → ¬ (Rose faults faults) → WholeTextWritten status ⊎ (status ≡ S.Memory)
      text_completes words k out held faults q o status is makes writes r at served fit read wrote told =
          completes whole_output words k out (quiet held faults) status (text_ends words k out (quiet held faults) q o status is makes writes (refl, refl)) r at served fit read wrote told

      pub stop_completes : (words : Option P.Request) (k : Reading) (err : Writing) (held : Option Text) (faults : ℕ) (q : P.Request) (stop : InputError) (status : Status) → words ≡ Some q
          → ResultsIn P text_of status_of IsWritable k q (Err stop) → ReportsInputError err stop status → (r : P.Request) → words ≡ Some r → AreServed P.IsAccepted k.told [] (P.inputs r)
          → ((i : Input) (f : Fault) → P.IsUnfit r i f → ⊥) → ¬ (Rose k.faults k.failed) → ¬ (Rose faults faults) → ¬ (Rose err.faults err.failed) → WholeTextWritten status ⊎ (status ≡ S.Memory)
      stop_completes words k err held faults q stop status is makes tells r at served fit read wrote told =
          completes whole_output words k (quiet held faults) err status (stop_ends words k (quiet held faults) err q stop status is makes tells (refl, refl)) r at served fit read wrote told
