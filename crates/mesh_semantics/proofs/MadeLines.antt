-- Each line of a record is that of the act of its event, at a sound configuration to which the lines before it lead.
use Rattle.std.proofs.Common.{◌≡◌, refl, subst, ◌∙◌, ℕ, ◌+◌, List, [], ◌∷◌, ◌++◌, Option, Some, None, Bool, true, false}
use Rattle.run_types.specs.declared.types.Event.{Event}
use Rattle.run_types.specs.declared.types.Event.TheVariants as Ev
use Rattle.run_types.specs.declared.types.Label.{Label}
use Rattle.run_types.specs.declared.types.What.{What}
use Rattle.run_types.specs.declared.types.What.TheVariants.{Idle}
use Rattle.run_types.specs.declared.types.End.{End}
use Rattle.run_types.specs.declared.types.End.TheVariants as E
use Rattle.run_types.specs.declared.types.Line.{Line}
use Rattle.run_types.specs.declared.types.Line.TheVariants as R
use Rattle.run_types.specs.declared.types.Placement.{Placement}
use Rattle.mesh_semantics.specs.Language.{Language}
use Rattle.mesh_semantics.specs.Lawful.{Lawful}
use Rattle.mesh_semantics.specs.Config.{Config}
use Rattle.mesh_semantics.specs.Moves.{moves}
use Rattle.mesh_semantics.specs.Delay.{Delay}
use Rattle.mesh_semantics.specs.Act.{Acted, Acts, Full, Nothing, act, is_quiet}
use Rattle.mesh_semantics.specs.EventSoundness.{After}
use Rattle.mesh_semantics.specs.Sound.{IsSound}
use Rattle.mesh_semantics.specs.Wired.{KeepsWires}
use Rattle.mesh_semantics.specs.Record.{after, shown, record_from, labels, labels_of}
use Rattle.mesh_semantics.specs.MadeLines.{ActsLead, AreMade, FindsNothing, IsMadeAt, LabelsLead}
use Rattle.mesh_semantics.proofs.Fit.{Fit}
use Rattle.mesh_semantics.proofs.Idle.{idle_turn, idle_link, idle_wire}
use Rattle.mesh_semantics.proofs.EventSoundness.{act_kept, moves_append}
use Rattle.mesh_semantics.proofs.EventWireInvariant.{KeepsOn, act_keeps_wires}

-- an event line stands in no list of an end line alone
none_in_end : (before behind : List Line) (n : ℕ) (e : Event) (what : What) (x : End) → before ++ (R.Event n e what ∷ behind) ≡ R.End x ∷ [] → ⊥
none_in_end [] behind n e what x h = let k : R.Event n e what ∷ behind ≡ R.End x ∷ [] = h in cc
none_in_end (y ∷ []) behind n e what x h = let k : y ∷ (R.Event n e what ∷ behind) ≡ R.End x ∷ [] = h in cc
none_in_end (y ∷ z ∷ ys) behind n e what x h = let k : y ∷ z ∷ (ys ++ (R.Event n e what ∷ behind)) ≡ R.End x ∷ [] = h in cc

-- what leads there in one sense also does in another
pub made_as : {S : Type 0} (g : Language S) (W : Config S → Type 0) (l : Placement) (q : ℕ) (A B : List Label → Config S → Type 0) (c : Config S) (d : Delay) (lines : List Line)
    → ((labs : List Label) (e : Config S) → A labs e → B labs e) → AreMade g W l q A c d lines → AreMade g W l q B c d lines
made_as g W l q A B c d lines also made before behind n e what h =
    let r = made before behind n e what h in
    record {
      config = r.config;
      delay = r.delay;
      way = r.way;
      leads = also (labels before) r.config r.leads;
      sound = r.sound;
      wires = r.wires;
      next = r.next;
      later = r.later;
      acts = r.acts;
      idle = r.idle;
    }

module _ {S : Type 0} (g : Language S) (W : Config S → Type 0) (law : Lawful g W) (l : Placement) (fit : Fit l) (q : ℕ) where
  -- an idle line was made where there was nothing to do
  idle_here : (c c' : Config S) (d d' : Delay) (e : Event) → KeepsWires d → act g l q c d e ≡ Acts Idle c' d' → FindsNothing g c d e
  idle_here c c' d d' (Ev.Turn k) wired a = (idle_turn g l q c c' d d' k a).0
  idle_here c c' d d' (Ev.Link i j) wired a = (idle_link g l q c c' d d' i j wired a).0
  idle_here c c' d d' (Ev.Wire w i j) wired a = (idle_wire g l q c c' d d' w i j a).0

  -- the line of an act
  line_here : (c c' : Config S) (d d' : Delay) (e : Event) (what : What) → IsSound g W l c d → KeepsWires d → act g l q c d e ≡ Acts what c' d'
      → IsMadeAt g W l q (LabelsLead g c) c d [] e what
  line_here c c' d d' e what s wired a = record {
    config = c;
    delay = d;
    way = (refl, refl);
    leads = refl;
    sound = s;
    wires = wired;
    next = c';
    later = d';
    acts = a;
    idle = λ i. idle_here c c' d d' e wired (subst (λ (z : What). act g l q c d e ≡ Acts z c' d') i a);
  }

  -- of the record from wherever the rest begins
  abbrev Rest : List Event → ℕ → Type 0
  Rest es done = (c : Config S) (d : Delay) → IsSound g W l c d → KeepsWires d → AreMade g W l q (LabelsLead g c) c d (record_from g l q c d done es).lines

  first_line : (c c' : Config S) (d d' : Delay) (m : ℕ) (f : Event) (w : What) (ls : List Line) → IsSound g W l c d → KeepsWires d → act g l q c d f ≡ Acts w c' d'
      → moves g c (shown w) ≡ Some c' → AreMade g W l q (LabelsLead g c') c' d' ls → AreMade g W l q (LabelsLead g c) c d (R.Event m f w ∷ ls)
  first_line c c' d d' m f w ls s wired a leads rest [] behind n e what h =
      let k : R.Event n e what ∷ behind ≡ R.Event m f w ∷ ls = h in
      let same : f ≡ e = cc in
      let told : w ≡ what = cc in
      line_here c c' d d' e what s wired (subst (λ (z : What). act g l q c d e ≡ Acts z c' d') told (subst (λ (z : Event). act g l q c d z ≡ Acts w c' d') same a))
  first_line c c' d d' m f w ls s wired a leads rest (y ∷ ys) behind n e what h =
      let k : y ∷ (ys ++ (R.Event n e what ∷ behind)) ≡ R.Event m f w ∷ ls = h in
      let same : R.Event m f w ≡ y = cc in
      let tail : ys ++ (R.Event n e what ∷ behind) ≡ ls = cc in
      let r = rest ys behind n e what tail in
      record {
        config = r.config;
        delay = r.delay;
        way = subst (λ (z : Line). ActsLead g l q c d (z ∷ ys) r.config r.delay) same (c', d', a, r.way);
        leads = subst (λ (z : Line). moves g c (labels_of z ++ labels ys) ≡ Some r.config) same (moves_append g c c' (shown w) (labels ys) leads ∙ r.leads);
        sound = r.sound;
        wires = r.wires;
        next = r.next;
        later = r.later;
        acts = r.acts;
        idle = r.idle;
      }

  pub lines_made : (es : List Event) (c : Config S) (d : Delay) (done : ℕ) → IsSound g W l c d → KeepsWires d → AreMade g W l q (LabelsLead g c) c d (record_from g l q c d done es).lines
  lines_made [] c d done s wired = by (is_quiet g c d) refl
    where
      by : (b : Bool) → is_quiet g c d ≡ b → AreMade g W l q (LabelsLead g c) c d (record_from g l q c d done []).lines
      by true i before behind n e what h = absurd (none_in_end before behind n e what (E.Quiet done) (rw (i, record_from) at h))
      by false i before behind n e what h = absurd (none_in_end before behind n e what (E.Schedule done) (rw (i, record_from) at h))
  lines_made (f ∷ es) c d done s wired = by (is_quiet g c d) refl (λ c' d' k v. lines_made es c' d' (done + 1) k v)
    where
      on : (x : Acted S) → act g l q c d f ≡ x → After g W l c x → Rest es (done + 1)
          → AreMade g W l q (LabelsLead g c) c d (after f done c d (λ c' d'. record_from g l q c' d' (done + 1) es) x).lines
      on (Acts w c' d') a k rest before behind m e what h =
          let kept : KeepsOn d.wires (Acts w c' d') = subst (KeepsOn d.wires) a (act_keeps_wires g l q c d f wired) in
          first_line c c' d d' (done + 1) f w (record_from g l q c' d' (done + 1) es).lines s wired a k.0 (rest c' d' k.1 kept.0) before behind m e what h
      on (Full k n) a z rest before behind m e what h = absurd (none_in_end before behind m e what (E.Full k n done) h)
      on Nothing a z rest before behind m e what h = absurd z

      by : (b : Bool) → is_quiet g c d ≡ b → Rest es (done + 1) → AreMade g W l q (LabelsLead g c) c d (record_from g l q c d done (f ∷ es)).lines
      by true i rest before behind n e what h = absurd (none_in_end before behind n e what (E.Quiet done) (rw (i, record_from) at h))
      by false i rest before behind n e what h =
          on (act g l q c d f) refl (act_kept g W law l fit c d q f s) rest before behind n e what (rw (i, record_from) at h)
