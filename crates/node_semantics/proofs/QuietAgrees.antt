-- A machine is quiet exactly if the configuration that it represents is quiet.
use Rattle.std.proofs.Common.{◌≡◌, refl, sym, ap, ap₂, subst, ◌∙◌, IsTrue, ℕ, zero, suc, ◌+◌, ◌<◌, ◌==◌, List, [], ◌∷◌, Option, Some, None, is_some, Bool, true, false, not, ◌&&◌, ◌||◌, arith}
use Rattle.std.specs.Prelude.{slice_get, filter}
use Rattle.std.specs.List.{list_any}
use Rattle.std.specs.Ordering.{nat_cmp}
use Rattle.std.specs.declared.cmp.Ordering.{Ordering}
use Rattle.std.specs.declared.cmp.Ordering.TheVariants.{Less, Equal, Greater}
use Rattle.std.specs.FinMap.{find}
use Rattle.std.specs.FinMap.Entries.{is_sorted}
use Rattle.run_types.specs.declared.types.Placement.{Placement}
use Rattle.run_types.specs.Tables.{Pair, pair_cmp, list_at, has_some}
use Rattle.run_types.proofs.Laws.{equals, second, there_at}
use Rattle.mesh_semantics.specs.Language.{Language}
use Rattle.mesh_semantics.specs.Config.{Config}
use Rattle.run_types.specs.Paths.{on_link}
use Rattle.mesh_semantics.specs.Delay.{Packet, Delay}
use Rattle.mesh_semantics.specs.NumberedPackets.{NumberedPacket}
use Rattle.run_types.specs.ObjectNames.{node_of}
use Rattle.mesh_semantics.specs.Act.{is_acknowledged, is_quiet, is_ready, ready_at, first_of}
use Rattle.mesh_semantics.specs.Lawful.{Lawful}
use Rattle.mesh_semantics.specs.Sound.{Consistent}
use Rattle.node_semantics.specs.Node.{Slot, NodeState, ready_slots}
use Rattle.node_semantics.specs.Machine.{Machine, are_acknowledged, any_ready, is_machine_quiet}
use Rattle.mesh_semantics.specs.Requests.{Requests}
use Rattle.node_semantics.specs.StandsFor.{packets, MachineStandsFor}
use Rattle.node_semantics.proofs.LinkTests.{any_on_links}
use Rattle.node_semantics.proofs.LimitsAndTurn as Lim
use Rattle.node_semantics.proofs.LimitsAndTurn.{Chosen, NoOne, One}

-- Booleans that imply each other
pub same_bool : (a b : Bool) → (a ≡ true → b ≡ true) → (b ≡ true → a ≡ true) → a ≡ b
same_bool true b f h = sym (f refl)
same_bool false true f h = h refl
same_bool false false f h = refl

-- links

some_any : (xs : List NumberedPacket) → has_some xs ≡ list_any (λ p. true) xs
some_any [] = refl
some_any (x ∷ xs) = refl

links_any : (es : List (Pair × List NumberedPacket)) → list_any (λ e. has_some e.1) es ≡ list_any (λ e. list_any (λ p. true) e.1) es
links_any [] = refl
links_any (e ∷ es) = ap₂ (λ a b. a || b) (some_any e.1) (links_any es)

links_same : (links : List (Pair × List NumberedPacket)) (ls : List (Pair × Packet)) → IsTrue (is_sorted pair_cmp links) → ((k : Pair) → packets (list_at pair_cmp k links) ≡ on_link ls k)
    → list_any (λ e. has_some e.1) links ≡ list_any (λ e. true) ls
links_same links ls o h = links_any links ∙ any_on_links (λ p. true) links ls o h

-- objects that can step

first_some : {X : Type 0} (t : X → Bool) (xs : List X) → is_some (first_of (filter t xs)) ≡ list_any t xs
first_some t [] = refl
first_some t (x ∷ xs) = by (t x) refl (first_some t xs)
  where
    by : (b : Bool) → t x ≡ b → is_some (first_of (filter t xs)) ≡ list_any t xs → is_some (first_of (filter t (x ∷ xs))) ≡ list_any t (x ∷ xs)
    by true i k = rw i refl
    by false i k = rw i k

pub one_of : {X : Type 0} (t : X → Bool) (xs : List X) → list_any t xs ≡ true → (i : ℕ) × (x : X) × (slice_get xs i ≡ Some x) × (t x ≡ true)
one_of t [] h = absurd (cc)
one_of {X} t (x ∷ xs) h = by (t x) refl (one_of t xs)
  where
    by : (b : Bool) → t x ≡ b → (list_any t xs ≡ true → (i : ℕ) × (y : X) × (slice_get xs i ≡ Some y) × (t y ≡ true)) → (i : ℕ) × (y : X) × (slice_get (x ∷ xs) i ≡ Some y) × (t y ≡ true)
    by true i k = (zero, x, refl, i)
    by false i k = let z = k (rw i at h) in (suc z.0, z.1, z.2, z.3)

pub of_one : {X : Type 0} (t : X → Bool) (xs : List X) (i : ℕ) (x : X) → slice_get xs i ≡ Some x → t x ≡ true → list_any t xs ≡ true
of_one t [] i x h e = absurd (cc)
of_one t (y ∷ xs) zero x h e = let z : y ≡ x = cc in rw (z, e) refl
of_one t (y ∷ xs) (suc i) x h e = by (t y) (of_one t xs i x h e)
  where
    by : (b : Bool) → list_any t xs ≡ true → (b || list_any t xs) ≡ true
    by true r = refl
    by false r = r

pub key_there : {X : Type 0} (es : List (ℕ × X)) (i : ℕ) (e : ℕ × X) → slice_get es i ≡ Some e → (x : X) × (find nat_cmp e.0 es ≡ Some x)
key_there [] i e h = absurd (cc)
key_there {X} (y ∷ es) zero e h = by (nat_cmp e.0 y.0) refl
  where
    same : y ≡ e
    same = cc

    by : (r : Ordering) → nat_cmp e.0 y.0 ≡ r → (x : X) × (find nat_cmp e.0 (y ∷ es) ≡ Some x)
    by Equal i = (y.1, rw i refl)
    by Less i = absurd (let z : e.0 ≡ y.0 = ap (λ (w : ℕ × X). w.0) (sym same) in grind (arith, i, z))
    by Greater i = absurd (let z : e.0 ≡ y.0 = ap (λ (w : ℕ × X). w.0) (sym same) in grind (arith, i, z))
key_there {X} (y ∷ es) (suc i) e h = by (nat_cmp e.0 y.0) refl (key_there es i e h)
  where
    by : (r : Ordering) → nat_cmp e.0 y.0 ≡ r → (x : X) × (find nat_cmp e.0 es ≡ Some x) → (x : X) × (find nat_cmp e.0 (y ∷ es) ≡ Some x)
    by Equal i k = (y.1, rw i refl)
    by Less i k = (k.0, rw i k.1)
    by Greater i k = (k.0, rw i k.1)

module _ {S : Type 0} (g : Language S) where
  any_out : (n : ℕ) (ns : List (NodeState S)) → any_ready g n ns ≡ true → (i : ℕ) × (x : NodeState S) × (slice_get ns i ≡ Some x) × (is_some (first_of (ready_slots g (n + i) x)) ≡ true)
  any_out n [] h = absurd (cc)
  any_out n (x ∷ ns) h = by (is_some (first_of (ready_slots g n x))) refl (any_out (n + 1) ns)
    where
      none : n + 0 ≡ n
      none = omega arith

      by : (b : Bool) → is_some (first_of (ready_slots g n x)) ≡ b
          → (any_ready g (n + 1) ns ≡ true → (i : ℕ) × (y : NodeState S) × (slice_get ns i ≡ Some y) × (is_some (first_of (ready_slots g (n + 1 + i) y)) ≡ true))
          → (i : ℕ) × (y : NodeState S) × (slice_get (x ∷ ns) i ≡ Some y) × (is_some (first_of (ready_slots g (n + i) y)) ≡ true)
      by true e k = (zero, x, refl, subst (λ z. is_some (first_of (ready_slots g z x)) ≡ true) (sym none) e)
      by false e k =
          let z = k (rw e at h) in
          let j : n + 1 + z.0 ≡ n + suc z.0 = omega arith in
          (suc z.0, z.1, z.2, subst (λ w. is_some (first_of (ready_slots g w z.1)) ≡ true) j z.3)

  any_in : (n : ℕ) (ns : List (NodeState S)) (i : ℕ) (x : NodeState S) → slice_get ns i ≡ Some x → is_some (first_of (ready_slots g (n + i) x)) ≡ true → any_ready g n ns ≡ true
  any_in n [] i x h e = absurd (cc)
  any_in n (y ∷ ns) zero x h e =
      let none : n + 0 ≡ n = omega arith in
      let z : is_some (first_of (ready_slots g n y)) ≡ true = subst (λ w. is_some (first_of (ready_slots g w y)) ≡ true) none (subst (λ w. is_some (first_of (ready_slots g (n + 0) w)) ≡ true) (sym (same_node y x h)) e) in
      rw z refl
    where
      same_node : (y x : NodeState S) → Some y ≡ Some x → y ≡ x
      same_node y x h = cc
  any_in n (y ∷ ns) (suc i) x h e =
      let j : n + suc i ≡ n + 1 + i = omega arith in
      by (is_some (first_of (ready_slots g n y))) (any_in (n + 1) ns i x h (subst (λ w. is_some (first_of (ready_slots g w x)) ≡ true) j e))
    where
      by : (b : Bool) → any_ready g (n + 1) ns ≡ true → (b || any_ready g (n + 1) ns) ≡ true
      by true k = refl
      by false k = k

module _ {S : Type 0} (g : Language S) (W : Config S → Type 0) (law : Lawful g W) (req : Requests g W) (l : Placement) (m : Machine S) (c : Config S) (d : Delay)
    (state : Consistent g W l c d) (st : MachineStandsFor g l m c d) where
  here : (n : ℕ) (x : NodeState S) → slice_get m.nodes n ≡ Some x
      → is_some (first_of (ready_slots g n x)) ≡ list_any (λ e. node_of e.0 == n && is_ready g d e.0 e.1) c.objects
  here n x node =
      by (first_of (ready_at g c d n)) (first_of (ready_slots g n x)) (Lim.any_ready g W law req l m c d st n x node state.typed)
      ∙ first_some (λ e. node_of e.0 == n && is_ready g d e.0 e.1) c.objects
    where
      by : (a : Option (ℕ × S)) (b : Option (ℕ × Slot S)) → Chosen g W law req l m c d st n x node state.typed a b → is_some b ≡ is_some a
      by None None NoOne = refl
      by (Some a) (Some b) (One j s k i p q r) = refl
      by None (Some b) h = elim h [ ]
      by (Some a) None h = elim h [ ]

  ready_same : any_ready g 0 m.nodes ≡ list_any (λ e. is_ready g d e.0 e.1) c.objects
  ready_same = same_bool _ _ forth back
    where
      none : (i : ℕ) → 0 + i ≡ i
      none i = omega arith

      forth : any_ready g 0 m.nodes ≡ true → list_any (λ e. is_ready g d e.0 e.1) c.objects ≡ true
      forth h =
          let a = any_out g 0 m.nodes h in
          let b : is_some (first_of (ready_slots g a.0 a.1)) ≡ true = subst (λ z. is_some (first_of (ready_slots g z a.1)) ≡ true) (none a.0) a.3 in
          let e = one_of (λ e. node_of e.0 == a.0 && is_ready g d e.0 e.1) c.objects (sym (here a.0 a.1 a.2) ∙ b) in
          of_one (λ e. is_ready g d e.0 e.1) c.objects e.0 e.1 e.2 (second (node_of e.1.0 == a.0) (is_ready g d e.1.0 e.1.1) e.3)

      back : list_any (λ e. is_ready g d e.0 e.1) c.objects ≡ true → any_ready g 0 m.nodes ≡ true
      back h =
          let e = one_of (λ e. is_ready g d e.0 e.1) c.objects h in
          let n = node_of e.1.0 in
          let x = there_at m.nodes (node_of e.1.0) (subst (λ z. node_of e.1.0 < z) (sym st.nodes) (state.names e.1.0 (key_there c.objects e.0 e.1 e.2)).0) in
          let t : (node_of e.1.0 == node_of e.1.0 && is_ready g d e.1.0 e.1.1) ≡ true = rw (equals (node_of e.1.0), e.3) refl in
          let r = here (node_of e.1.0) x.0 x.1 ∙ of_one (λ e'. node_of e'.0 == node_of e.1.0 && is_ready g d e'.0 e'.1) c.objects e.0 e.1 e.2 t in
          any_in g 0 m.nodes (node_of e.1.0) x.0 x.1 (subst (λ z. is_some (first_of (ready_slots g z x.0)) ≡ true) (sym (none (node_of e.1.0))) r)

  pub quiet_agrees : (list_any (λ e. has_some e.1) m.links ≡ false → are_acknowledged m.wires ≡ is_acknowledged d.wires) → is_machine_quiet g m ≡ is_quiet g c d
  quiet_agrees same =
      by (list_any (λ e. has_some e.1) m.links) refl ∙ ap₂ (λ a b. not a && (is_acknowledged d.wires && not b)) (links_same m.links d.links st.in_order st.links) ready_same
    where
      by : (b : Bool) → list_any (λ e. has_some e.1) m.links ≡ b
          → (not (list_any (λ e. has_some e.1) m.links) && (are_acknowledged m.wires && not (any_ready g 0 m.nodes))) ≡ (not (list_any (λ e. has_some e.1) m.links) && (is_acknowledged d.wires && not (any_ready g 0 m.nodes)))
      by true e = rw e refl
      by false e = ap (λ a. not (list_any (λ e. has_some e.1) m.links) && (a && not (any_ready g 0 m.nodes))) (same e)
