-- The status that a machine reports of a name is that of its object.
use Rattle.std.proofs.Common.{◌≡◌, ◌≢◌, ◌⊎◌, inl, inr, refl, sym, ap, ap₂, subst, ◌∙◌, ℕ, List, [], ◌∷◌, ◌++◌, Option, Some, None, Bool, true, false, ◌==◌, ◌&&◌, ◌||◌, if◌then◌else◌}
use Rattle.std.specs.List.{list_any}
use Rattle.run_types.specs.declared.types.Value.TheVariants as V
use Rattle.run_types.specs.declared.types.Error.{Error}
use Rattle.run_types.specs.declared.types.Placement.{Placement}
use Rattle.run_types.specs.Tables.{Pair}
use Rattle.run_types.proofs.Laws.{equals}
use Rattle.mesh_semantics.specs.Kind as K
use Rattle.mesh_semantics.specs.Kind.{Kind}
use Rattle.mesh_semantics.specs.Language.{Language}
use Rattle.mesh_semantics.specs.Config.{Config, object_of}
use Rattle.mesh_semantics.specs.Delay as D
use Rattle.mesh_semantics.specs.Delay.{Packet, Arrival, Holding, Delay, held, arrived_at}
use Rattle.mesh_semantics.specs.Act.{can_step}
use Rattle.mesh_semantics.specs.Sound.{Entry, Sent, Called, owns, sent_of, called_of, Owns, OwnedAt, entries, IsSound}
use Rattle.mesh_semantics.specs.Standing as T
use Rattle.mesh_semantics.specs.Standing.{Standing, standing, standing_by, standing_of}
use Rattle.mesh_semantics.specs.Lawful.{Lawful}
use Rattle.node_semantics.specs.Node.{Slot}
use Rattle.node_semantics.specs.Machine.{Machine}
use Rattle.mesh_semantics.specs.Requests.{Requests}
use Rattle.node_semantics.specs.StandsFor.{slot_at, AtName, MachineStandsFor}
use Rattle.node_semantics.specs.Standings.{slot_standing, SaysOf, brings, is_on_way, standing_in, machine_standing}
use Rattle.node_semantics.proofs.LinkTests.{any_on_links}
use Rattle.node_semantics.proofs.NamesAfterChange.{Found, found}
use Rattle.node_semantics.proofs.NodeStandings.{node_says}

abbrev is_due : Option Holding → Bool
is_due (Some (D.Due v)) = true
is_due _ = false

module _ (o : ℕ) where
  -- an entry that brings the object its value
  abbrev brought : Entry → Bool
  brought (Sent p) = brings o p
  brought (Called r a) = false

  other_brings : (p : Packet) → owns o p ≡ false → brings o p ≡ false
  other_brings (D.Create k goal class) h = refl
  other_brings (D.Created k name) h = h
  other_brings (D.Request k r m args) h = refl
  other_brings (D.Result k v) h = h
  other_brings (D.Async k r m args) h = refl

  none_called : (es : List (ℕ × Arrival)) → list_any brought (called_of o es) ≡ false
  none_called [] = refl
  none_called (e ∷ es) = by (e.1.is_call && e.1.sender == o) refl (none_called es)
    where
      by : (b : Bool) → (e.1.is_call && e.1.sender == o) ≡ b → list_any brought (called_of o es) ≡ false → list_any brought (called_of o (e ∷ es)) ≡ false
      by true z f = rw z f
      by false z f = rw z f

  any_entries : (ls : List (Pair × Packet)) (es : List (ℕ × Arrival)) → list_any brought (sent_of o ls ++ called_of o es) ≡ list_any (λ e. brings o e.1) ls
  any_entries [] es = none_called es
  any_entries (e ∷ ls) es = by (owns o e.1) refl (any_entries ls es)
    where
      by : (b : Bool) → owns o e.1 ≡ b → list_any brought (sent_of o ls ++ called_of o es) ≡ list_any (λ x. brings o x.1) ls
          → list_any brought (sent_of o (e ∷ ls) ++ called_of o es) ≡ list_any (λ x. brings o x.1) (e ∷ ls)
      by true z f = rw z (ap (λ w. brings o e.1 || w) f)
      by false z f = rw (z, other_brings e.1 z) f

  -- what an object owns brings it a value where it is due one
  owns_brought : (h : Option Holding) (k : Kind) (es : List Entry) → Owns o h k es → list_any brought es ≡ is_due h
  owns_brought None k es e = ap (list_any brought) e
  owns_brought (Some D.Posted) (K.New class) es e = ap (list_any brought) e.2
  owns_brought (Some D.Posted) (K.Send b m args) es (inl e) = ap (list_any brought) e
  owns_brought (Some D.Posted) (K.Send b m args) es (inr e) = ap (list_any brought) e
  owns_brought (Some D.Posted) K.Finished es e = absurd e
  owns_brought (Some D.Posted) K.Local es e = absurd e
  owns_brought (Some D.Posted) (K.Fault f) es e = absurd e
  owns_brought (Some D.Posted) (K.Async b m args) es e = absurd e
  owns_brought (Some D.Posted) (K.Write item) es e = absurd e
  owns_brought (Some D.Posted) (K.Select alts) es e = absurd e
  owns_brought (Some D.Posted) (K.Return k v) es e = absurd e
  owns_brought (Some D.Posted) (K.Waits b m) es e = absurd e
  owns_brought (Some D.Posted) K.Stuck es e = absurd e
  owns_brought (Some (D.Due v)) k es e = by e.1
    where
      by : (es ≡ Sent (D.Result o v) ∷ []) ⊎ ((n : ℕ) × (v ≡ V.Ref n) × (es ≡ Sent (D.Created o n) ∷ [])) → list_any brought es ≡ true
      by (inl i) = ap (list_any brought) i ∙ (rw (equals o) refl)
      by (inr i) = ap (list_any brought) i.2 ∙ (rw (equals o) refl)

module _ (d : Delay) (o : ℕ) where
  either : (b : Bool) → (if b then T.Ready else T.Awaits) ≢ T.Due
  either true h = cc
  either false h = cc

  not_due : (f : Option Error) (h : Option Holding) (k : Kind) → is_due h ≡ false → standing_of d o f h k ≢ T.Due
  not_due (Some e) h k z i = cc
  not_due None (Some (D.Due v)) k z i = cc
  not_due None None K.Finished z i = cc
  not_due None None K.Local z i = cc
  not_due None None (K.Fault e) z i = cc
  not_due None None (K.New class) z i = cc
  not_due None None (K.Send b m args) z i = cc
  not_due None None (K.Async b m args) z i = cc
  not_due None None (K.Write item) z i = cc
  not_due None None (K.Select alts) z i = either (can_step (arrived_at d o) (K.Select alts)) i
  not_due None None (K.Return k v) z i = cc
  not_due None None (K.Waits b m) z i = cc
  not_due None None K.Stuck z i = cc
  not_due None (Some D.Posted) K.Finished z i = cc
  not_due None (Some D.Posted) K.Local z i = cc
  not_due None (Some D.Posted) (K.Fault e) z i = cc
  not_due None (Some D.Posted) (K.New class) z i = cc
  not_due None (Some D.Posted) (K.Send b m args) z i = cc
  not_due None (Some D.Posted) (K.Async b m args) z i = cc
  not_due None (Some D.Posted) (K.Write item) z i = cc
  not_due None (Some D.Posted) (K.Select alts) z i = cc
  not_due None (Some D.Posted) (K.Return k v) z i = cc
  not_due None (Some D.Posted) (K.Waits b m) z i = cc
  not_due None (Some D.Posted) K.Stuck z i = cc

says_same : (s t : Standing) → t ≢ T.Due → SaysOf s t → s ≡ t
says_same s T.Due f h = absurd (f refl)
says_same s T.Ready f h = h
says_same s T.Finished f h = h
says_same s (T.Faulted e) f h = h
says_same s (T.Calls b m) f h = h
says_same s (T.Creates class node) f h = h
says_same s T.Awaits f h = h

module _ {S : Type 0} (g : Language S) (W : Config S → Type 0) (law : Lawful g W) (req : Requests g W) (l : Placement) (m : Machine S) (c : Config S) (d : Delay)
    (sound : IsSound g W l c d) (st : MachineStandsFor g l m c d) (o : ℕ) where
  pub object_stands : (x : S) → object_of c o ≡ Some x → machine_standing g m o ≡ Some (standing g d o x)
  object_stands x there = ap (standing_in g m o) f.here ∙ ap Some (by (held d o) refl (g.fault x) refl)
    where
      f : Found g l m c d st o x
      f = found g l m c d st o x there

      owned : OwnedAt g o (Some x) (held d o) (entries d o)
      owned = subst (λ z. OwnedAt g o z (held d o) (entries d o)) there (sound.state.owned o)

      way : is_on_way o m.links ≡ is_due (held d o)
      way = any_on_links (brings o) m.links d.links st.in_order st.links ∙ sym (any_entries o d.links d.arrived) ∙ owns_brought o (held d o) (g.kind o x) (entries d o) owned.0

      same : is_due (held d o) ≡ false → (if is_on_way o m.links then T.Due else slot_standing g o f.slot) ≡ standing_of d o (g.fault x) (held d o) (g.kind o x)
      same z = ap (λ b. if b then T.Due else slot_standing g o f.slot) (way ∙ z)
          ∙ says_same (slot_standing g o f.slot) (standing g d o x) (not_due d o (g.fault x) (held d o) (g.kind o x) z) (node_says g W law req l m c d sound st o x there f.slot f.here)

      by : (h : Option Holding) → held d o ≡ h → (e : Option Error) → g.fault x ≡ e
          → (if is_on_way o m.links then T.Due else slot_standing g o f.slot) ≡ standing_of d o (g.fault x) (held d o) (g.kind o x)
      by None i e z = same (ap is_due i)
      by (Some D.Posted) i e z = same (ap is_due i)
      by (Some (D.Due v)) i (Some e) z = absurd (let a : Some (D.Due v) ≡ None = sym i ∙ owned.1 e z in cc)
      by (Some (D.Due v)) i None z = ap (λ b. if b then T.Due else slot_standing g o f.slot) (way ∙ ap is_due i) ∙ sym (ap₂ (λ a b. standing_of d o a b (g.kind o x)) z i)

pub nothing_stands : {S : Type 0} (g : Language S) (l : Placement) (m : Machine S) (c : Config S) (d : Delay) → MachineStandsFor g l m c d → (o : ℕ) → object_of c o ≡ None
    → machine_standing g m o ≡ None
nothing_stands {S} g l m c d st o e = by (slot_at m o) refl
  where
    by : (s : Option (Slot S)) → slot_at m o ≡ s → machine_standing g m o ≡ None
    by None i = ap (standing_in g m o) i
    by (Some s) i = absurd (subst (λ z. AtName g o z None (held d o) (arrived_at d o)) i (subst (λ z. AtName g o (slot_at m o) z (held d o) (arrived_at d o)) e (st.named o)))
