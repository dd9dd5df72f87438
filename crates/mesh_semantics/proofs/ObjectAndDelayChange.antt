-- A change of one object, or a new object, with a change of the delay for this object alone.
use Rattle.std.proofs.Common.{◌≡◌, ◌≢◌, ◌⊎◌, inl, inr, refl, sym, ap, subst, ◌∙◌, IsTrue, ℕ, ◌+◌, ◌*◌, ◌<◌, ◌≤◌, ◌==◌, Option, Some, None, false, if◌then◌else◌, arith}
use Rattle.std.specs.Ordering.{nat_cmp}
use Rattle.std.specs.Cmp.{nat_cmp_total}
use Rattle.std.specs.FinMap.{is_sorted}
use Rattle.std.specs.FinMap.Entries.{is_sorted-put}
use Rattle.run_types.specs.declared.types.Placement.{Placement}
use Rattle.run_types.proofs.Laws.{equals, decide, differ, T_true, true_T, find_put_same, find_put_other, total_put_new}
use Rattle.mesh_semantics.specs.Language.{Language}
use Rattle.mesh_semantics.specs.Config.{Config, object_of, put_object}
use Rattle.mesh_semantics.specs.Delay.{Delay, held}
use Rattle.run_types.specs.ObjectNames.{node_of, slot_of}
use Rattle.mesh_semantics.specs.Act.{object_count, frame_count, next_name}
use Rattle.run_types.specs.Tables.{Each}
use Rattle.mesh_semantics.specs.Sound.{entries, OwnedAt, letters, notes, CallsLast, IsThere, IsPlaced, Consistent}
use Rattle.mesh_semantics.proofs.ObjectChange.{there_put, placed_grow, arrivals_grow, names_put}

-- nothing is asked of a configuration alone
abbrev pub Any : {S : Type 0} → Config S → Type 0
Any c = Unit {0}

pub sorted_put : {S : Type 0} (c : Config S) (o : ℕ) (y : S) → IsTrue (is_sorted nat_cmp c.objects) → IsTrue (is_sorted nat_cmp (put_object c o y).objects)
sorted_put c o y h = T_true _ (is_sorted-put nat_cmp nat_cmp_total o y c.objects (true_T _ h))

module _ {S : Type 0} (g : Language S) (l : Placement) where
  pub shape_of : (W : Config S → Type 0) (c : Config S) (d : Delay) → Consistent g W l c d → Consistent g Any l c d
  shape_of W c d s = record { typed = tt; names = s.names; owned = s.owned; packets = s.packets; arrivals = s.arrivals; lists = s.lists; order = s.order }

  pub of_shape : (W : Config S → Type 0) (c : Config S) (d : Delay) → Consistent g Any l c d → W c → Consistent g W l c d
  of_shape W c d s k = record { typed = k; names = s.names; owned = s.owned; packets = s.packets; arrivals = s.arrivals; lists = s.lists; order = s.order }

  -- the delay changes for o alone
  pub record Shifts (c : Config S) (d e : Delay) (o : ℕ) : Type 0 where
    pub held_others : (q : ℕ) → q ≢ o → held e q ≡ held d q
    pub others : (q : ℕ) → q ≢ o → entries e q ≡ entries d q
    pub packets : Each (IsPlaced l c) e.links
    pub arrivals : Each (λ a. IsThere c a.1.sender) e.arrived
    pub lists : (s r : ℕ) → notes (letters l e s r) ≡ notes (letters l d s r)
    pub order : (s r : ℕ) → CallsLast (letters l e s r)

  pub unshifted : (c : Config S) (d : Delay) (o : ℕ) → Consistent g Any l c d → Shifts c d d o
  unshifted c d o s = record { held_others = λ q n. refl; others = λ q n. refl; packets = s.packets; arrivals = s.arrivals; lists = λ a b. refl; order = s.order }

  -- an object becomes another one
  pub change : (c : Config S) (d e : Delay) (o : ℕ) (x y : S) → Consistent g Any l c d → IsTrue (is_sorted nat_cmp c.objects) → object_of c o ≡ Some x
      → Shifts c d e o → OwnedAt g o (Some y) (held e o) (entries e o) → Consistent g Any l (put_object c o y) e
  change c d e o x y s k f h own = record {
    typed = tt;
    names = names_put g l c o x y k f s.names;
    owned = λ q. at q (decide q o);
    packets = placed_grow g l c (put_object c o y) (there_put g c o y) e.links h.packets;
    arrivals = arrivals_grow g c (put_object c o y) (there_put g c o y) e.arrived h.arrivals;
    lists = λ a b. s.lists a b ∙ sym (h.lists a b);
    order = h.order;
  }
    where
      at : (q : ℕ) → (q ≡ o) ⊎ (q ≢ o) → OwnedAt g q (object_of (put_object c o y) q) (held e q) (entries e q)
      at q (inl i) = subst (λ n. OwnedAt g n (object_of (put_object c o y) n) (held e n) (entries e n)) (sym i) (rw (find_put_same o y c.objects) own)
      at q (inr i) = rw (find_put_other q o y c.objects i, h.held_others q i, h.others q i) (s.owned q)

  -- only the delay changes
  pub shift : (c : Config S) (d e : Delay) (o : ℕ) → Consistent g Any l c d → Shifts c d e o → OwnedAt g o (object_of c o) (held e o) (entries e o) → Consistent g Any l c e
  shift c d e o s h own = record {
    typed = tt;
    names = s.names;
    owned = λ q. at q (decide q o);
    packets = h.packets;
    arrivals = h.arrivals;
    lists = λ a b. s.lists a b ∙ sym (h.lists a b);
    order = h.order;
  }
    where
      at : (q : ℕ) → (q ≡ o) ⊎ (q ≢ o) → OwnedAt g q (object_of c q) (held e q) (entries e q)
      at q (inl i) = subst (λ n. OwnedAt g n (object_of c n) (held e n) (entries e n)) (sym i) own
      at q (inr i) = rw (h.held_others q i, h.others q i) (s.owned q)

  -- the next name of a node

  pub node_next : (n k : ℕ) → k < 65536 → node_of (n * 65536 + k) ≡ n
  node_next n k h = omega arith

  pub slot_next : (n k : ℕ) → k < 65536 → slot_of (n * 65536 + k) ≡ k
  slot_next n k h = omega arith

  pub next_free : (c : Config S) (d : Delay) (n : ℕ) → Consistent g Any l c d → object_count c n < 65536 → object_of c (next_name c n) ≡ None
  next_free c d n s h = by (object_of c (next_name c n)) refl
    where
      by : (z : Option S) → object_of c (next_name c n) ≡ z → z ≡ None
      by None e = refl
      by (Some x) e = absurd (
          let r = s.names (next_name c n) (x, e) in
          let i : slot_of (next_name c n) ≡ object_count c n = slot_next n (object_count c n) h in
          let j : node_of (next_name c n) ≡ n = node_next n (object_count c n) h in
          let k : slot_of (next_name c n) < object_count c n = subst (λ m. slot_of (next_name c n) < object_count c m) j r.1 in
          omega (arith, i, k))

  -- a new object at the next name of a node
  pub add : (c : Config S) (d : Delay) (n : ℕ) (y : S) → Consistent g Any l c d → object_count c n < 65536 → n < l.width * l.height
      → Consistent g Any l (put_object c (next_name c n) y) d
  add c d n y s h inside = record {
    typed = tt;
    names = λ q t. name q t (decide q p);
    owned = λ q. at q (decide q p);
    packets = placed_grow g l c (put_object c p y) (there_put g c p y) d.links s.packets;
    arrivals = arrivals_grow g c (put_object c p y) (there_put g c p y) d.arrived s.arrivals;
    lists = s.lists;
    order = s.order;
  }
    where
      p : ℕ
      p = next_name c n

      free : object_of c (next_name c n) ≡ None
      free = next_free c d n s h

      counted : (m : ℕ) → object_count (put_object c (next_name c n) y) m ≡ (if node_of (next_name c n) == m then 1 else 0) + object_count c m
      counted m = total_put_new (λ e. if node_of e.0 == m then 1 else 0) (next_name c n) y c.objects free

      grown : (m : ℕ) → object_count c m ≤ object_count (put_object c (next_name c n) y) m
      grown m = let i = counted m in omega (arith, i)

      name : (q : ℕ) → IsThere (put_object c (next_name c n) y) q → (q ≡ next_name c n) ⊎ (q ≢ next_name c n)
          → (node_of q < l.width * l.height) × (slot_of q < object_count (put_object c (next_name c n) y) (node_of q))
      name q t (inl e) =
          let at : node_of q ≡ n = ap node_of e ∙ node_next n (object_count c n) h in
          let slot : slot_of q ≡ object_count c n = ap slot_of e ∙ slot_next n (object_count c n) h in
          let one : object_count (put_object c (next_name c n) y) n ≡ 1 + object_count c n = counted n ∙ ap (λ b. (if b then 1 else 0) + object_count c n) (ap (λ m. m == n) (node_next n (object_count c n) h) ∙ equals n) in
          (subst (λ m. m < l.width * l.height) (sym at) inside, subst (λ m. slot_of q < object_count (put_object c (next_name c n) y) m) (sym at) (omega (arith, slot, one)))
      name q t (inr e) =
          let r = s.names q (t.0, sym (find_put_other q (next_name c n) y c.objects e) ∙ t.1) in
          let m = grown (node_of q) in (r.0, omega (arith, r.1, m))

      new : OwnedAt g (next_name c n) (Some y) (held d (next_name c n)) (entries d (next_name c n))
      new = let z : OwnedAt g (next_name c n) None (held d (next_name c n)) (entries d (next_name c n)) = subst (λ (z : Option S). OwnedAt g (next_name c n) z (held d (next_name c n)) (entries d (next_name c n))) free (s.owned (next_name c n)) in
          rw z.0 (z.1, λ e i. refl)

      at : (q : ℕ) → (q ≡ next_name c n) ⊎ (q ≢ next_name c n) → OwnedAt g q (object_of (put_object c (next_name c n) y) q) (held d q) (entries d q)
      at q (inl i) = subst (λ m. OwnedAt g m (object_of (put_object c (next_name c n) y) m) (held d m) (entries d m)) (sym i) (rw (find_put_same (next_name c n) y c.objects) new)
      at q (inr i) = rw (find_put_other q (next_name c n) y c.objects i) (s.owned q)

  -- and the counts of the other nodes
  pub counts_beside : (c : Config S) (n : ℕ) (y : S) (m : ℕ) → object_count c n < 65536 → object_of c (next_name c n) ≡ None → m ≢ n
      → (object_count (put_object c (next_name c n) y) m ≡ object_count c m) × (frame_count g (put_object c (next_name c n) y) m ≡ frame_count g c m)
  counts_beside c n y m h f i =
      let z : (node_of (next_name c n) == m) ≡ false = differ (node_of (next_name c n)) m (λ e. i (sym e ∙ node_next n (object_count c n) h)) in (
        total_put_new (λ e. if node_of e.0 == m then 1 else 0) (next_name c n) y c.objects f ∙ ap (λ b. (if b then 1 else 0) + object_count c m) z ∙ (omega arith),
        total_put_new (λ e. if node_of e.0 == m then 1 + g.frames e.1 else 0) (next_name c n) y c.objects f ∙ ap (λ b. (if b then 1 + g.frames y else 0) + frame_count g c m) z ∙ (omega arith),
      )
