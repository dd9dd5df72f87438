-- The request numbers in use belong to the objects that are posted, at a wait, or due.
use Rattle.std.proofs.Common.{◌≡◌, ◌≢◌, inl, inr, refl, sym, ap, subst, ◌∙◌, ℕ, List, [], ◌∷◌, Option, Some, None, true}
use Rattle.run_types.specs.declared.types.Placement.{Placement}
use Rattle.mesh_semantics.specs.Kind as K
use Rattle.mesh_semantics.specs.Kind.{Kind}
use Rattle.mesh_semantics.specs.Language.{Language}
use Rattle.mesh_semantics.specs.Config.{Config, object_of}
use Rattle.mesh_semantics.specs.Delay as D
use Rattle.mesh_semantics.specs.Delay.{Arrival, Holding, Delay, held, arrived_at}
use Rattle.mesh_semantics.specs.Sound.{is_wait}
use Rattle.run_types.specs.PathFacts.{In}
use Rattle.node_semantics.specs.Node.{Slot}
use Rattle.node_semantics.specs.Machine.{Machine}
use Rattle.mesh_semantics.specs.Requests.{Requests, AreServed}
use Rattle.node_semantics.specs.StandsFor.{slot_at, request_in, request_of, IsOut, SlotStandsFor, Free, Served, Posted, Due, AtName, AreNumbersOf, MachineStandsFor}
use Rattle.node_semantics.specs.Outstanding.{IsWaiting, Outstanding}
use Rattle.node_semantics.proofs.NamesAfterChange.{Found, found}

wait_of : (k : Kind) → is_wait k ≡ true → (b : ℕ) × (m : ℕ) × (k ≡ K.Waits b m)
wait_of (K.Waits b m) h = (b, m, refl)
wait_of K.Finished h = absurd (cc)
wait_of K.Local h = absurd (cc)
wait_of (K.Fault e) h = absurd (cc)
wait_of (K.New class) h = absurd (cc)
wait_of (K.Send b m args) h = absurd (cc)
wait_of (K.Async b m args) h = absurd (cc)
wait_of (K.Write item) h = absurd (cc)
wait_of (K.Select alts) h = absurd (cc)
wait_of (K.Return k v) h = absurd (cc)
wait_of K.Stuck h = absurd (cc)

-- a caller has the number that is kept for it
number_of : {S : Type 0} (m : Machine S) (ks os : List ℕ) (o : ℕ) → AreNumbersOf m ks os → In o os → IsOut (request_of m o)
number_of m [] [] o h i = absurd i
number_of m (k ∷ ks) (p ∷ os) o h (inl e) = (k, subst (λ z. request_of m z ≡ Some k) e h.0)
number_of m (k ∷ ks) (p ∷ os) o h (inr i) = number_of m ks os o h.1 i
number_of m [] (p ∷ os) o h i = absurd h
number_of m (k ∷ ks) [] o h i = absurd h

module _ {S : Type 0} (g : Language S) (W : Config S → Type 0) (req : Requests g W) (served : AreServed g W) (l : Placement) (m : Machine S) (c : Config S) (d : Delay) (w : W c)
    (st : MachineStandsFor g l m c d) where
  out_waits : (o k : ℕ) (s : Slot S) (x : S) (h : Option Holding) → held d o ≡ h → s.request ≡ Some k → SlotStandsFor g o s x h → IsWaiting g d o x
  out_waits o k s x None i r (Free e z) = absurd (let a : Some k ≡ None = sym r ∙ e in cc)
  out_waits o k s x None i r (Served b n args e z y) = inr (ap is_wait (ap (g.kind o) (sym y) ∙ req.waiting_kind o s.state b n args z))
  out_waits o k s x (Some D.Posted) i r (Posted e z) = inl (λ a. let b : Some D.Posted ≡ None = sym i ∙ a in cc)
  out_waits o k s x (Some (D.Due v)) i r (Due u e a z) = inl (λ q. let b : Some (D.Due v) ≡ None = sym i ∙ q in cc)

  waiting : (o k : ℕ) → request_of m o ≡ Some k → (x : S) × (object_of c o ≡ Some x) × IsWaiting g d o x
  waiting o k = by (slot_at m o) (object_of c o) refl (st.named o)
    where
      by : (s : Option (Slot S)) (x : Option S) → object_of c o ≡ x → AtName g o s x (held d o) (arrived_at d o) → request_in s ≡ Some k
          → (x : S) × (object_of c o ≡ Some x) × IsWaiting g d o x
      by (Some s) (Some x) e h r = (x, e, out_waits o k s x (held d o) refl r h.state)
      by None x e h r = absurd (cc)
      by (Some s) None e h r = absurd h

  held_out : (o : ℕ) (s : Slot S) (x : S) (h : Option Holding) → h ≢ None → SlotStandsFor g o s x h → IsOut s.request
  held_out o s x None n z = absurd (n refl)
  held_out o s x (Some _) n (Posted e z) = e
  held_out o s x (Some _) n (Due v e a z) = e

  out : (o : ℕ) (x : S) → object_of c o ≡ Some x → IsWaiting g d o x → IsOut (request_of m o)
  out o x there (inl h) =
      let f : Found g l m c d st o x = found g l m c d st o x there in
      subst (λ z. IsOut (request_in z)) (sym f.here) (held_out o f.slot x (held d o) h f.stands.state)
  out o x there (inr h) =
      let k = wait_of (g.kind o x) h in
      let y = served c o x k.0 k.1 w there k.2 in
      let f : Found g l m c d st k.0 y.0 = found g l m c d st k.0 y.0 y.1 in
      number_of m f.slot.callers (g.callers y.0) o f.callers y.2

  pub outstanding : (n : ℕ) → Outstanding g m c d n
  outstanding n = record {
    one = λ o p k i j. st.distinct o p k (i ∙ sym j);
    waiting = λ o k i. waiting o k;
    out = λ o x i. out o x;
  }
