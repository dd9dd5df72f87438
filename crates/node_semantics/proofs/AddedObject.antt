-- A node after an object is added, after the last slot is set, and after a made object is counted.
use Rattle.std.proofs.Common.{◌≡◌, ◌≢◌, ◌⊎◌, inl, inr, refl, sym, ap, ap₂, subst, ◌∙◌, ℕ, ◌+◌, ◌<◌, ◌≤◌, [], ◌∷◌, length, length-append, Option, Some, None, cond, arith}
use Rattle.std.specs.Prelude.{slice_get}
use Rattle.std.specs.Option.{unwrap_or}
use Rattle.std.specs.Ordering.{nat_cmp, eq_by_cmp}
use Rattle.std.specs.FinMap.{find, put}
use Rattle.std.specs.FinMap.Entries.{find-put}
use Rattle.std.proofs.lemmas.Option.{slice_get_past}
use Rattle.run_types.specs.declared.types.Placement.{Placement}
use Rattle.run_types.specs.Tables.{Pair, pair_cmp, list_at}
use Rattle.run_types.proofs.Laws.{decide, find_put_same, find_put_other, tied_pair, untied_pair, pair_total}
use Rattle.mesh_semantics.specs.Language.{Language}
use Rattle.mesh_semantics.specs.Config.{Config, object_of, put_object}
use Rattle.run_types.specs.Paths.{on_link}
use Rattle.mesh_semantics.specs.Delay.{Delay, arrived_at, held, made_by, count_made}
use Rattle.run_types.specs.ObjectNames.{node_of, slot_of}
use Rattle.mesh_semantics.specs.Sound.{entries}
use Rattle.run_types.specs.PathFacts.{In}
use Rattle.node_semantics.specs.Node.{NodeState, set_at, name_at, made_here, add_slot, fresh_slot, count_one}
use Rattle.node_semantics.specs.Machine.{Machine}
use Rattle.mesh_semantics.specs.Requests.{Requests}
use Rattle.node_semantics.specs.StandsFor.{slot_at, request_of, request_in, Free, AtName, HasSlot, AreNumbersOf, CountsMade, MachineStandsFor}
use Rattle.mesh_semantics.specs.Act.{class_place}
use Rattle.node_semantics.proofs.ClassPlaces.{class_at, same_place, as_long}
use Rattle.node_semantics.proofs.NamesAndSlots.{set_same, set_other, set_length, last_there, front_there, whole_name, name_node, name_slot, at_node, elsewhere, before, after}
use Rattle.node_semantics.proofs.KeptNumbers.{Same, same_slot}
use Rattle.node_semantics.proofs.NamesAfterChange.{Spot, spot, Refers, refers_but, But, spot_kept, spot_same, link_kept}
use Rattle.node_semantics.proofs.StandsForParts.{assemble}
use Rattle.node_semantics.proofs.SmallChanges.{aside_stands}

module _ {S : Type 0} (g : Language S) (l : Placement) (m : Machine S) (c : Config S) (d : Delay) (st : MachineStandsFor g l m c d) (n : ℕ) (x : NodeState S) (node : slice_get m.nodes n ≡ Some x) where
  pub last_stands : (i : ℕ) → MachineStandsFor g l (record m { nodes = set_at m.nodes n (record x { last = Some i }); links = m.links }) c (record d { last = put nat_cmp n i d.last })
  last_stands i = aside_stands g l m c d st n x node (record x { last = Some i }) (put nat_cmp n i d.last) d.made refl
      (sym (find_put_same n i d.last)) (λ b e. find_put_other b n i d.last e) (st.made n x node) (λ b k e. refl)

  pub count_stands : (k : ℕ) → In k g.classes → MachineStandsFor g l (record m { nodes = set_at m.nodes n (count_one g k x); links = m.links }) c (count_made n k d)
  count_stands k class = aside_stands g l m c d st n x node (count_one g k x) d.last (count_made n k d).made refl
      (st.last n x node) (λ b e. refl) own others
    where
      count : made_here g x k ≡ made_by d n k
      count = (st.made n x node).1 k class

      there : (z : ℕ) × (slice_get x.made (class_place g.classes k) ≡ Some z)
      there = as_long g.classes x.made (class_place g.classes k) k (sym (st.made n x node).0) (class_at g.classes k class)

      looked : (b j : ℕ) → find pair_cmp (b, j) (put pair_cmp (n, k) (made_by d n k + 1) d.made)
          ≡ cond (eq_by_cmp pair_cmp (b, j) (n, k)) (Some (made_by d n k + 1)) (find pair_cmp (b, j) d.made)
      looked b j = find-put pair_cmp pair_total (b, j) (n, k) (made_by d n k + 1) d.made

      own_count : (j : ℕ) → In j g.classes → made_here g (count_one g k x) j ≡ made_by (count_made n k d) n j
      own_count j i = by (decide j k)
        where
          by : (j ≡ k) ⊎ (j ≢ k) → made_here g (count_one g k x) j ≡ made_by (count_made n k d) n j
          by (inl e) = subst (λ z. made_here g (count_one g k x) z ≡ made_by (count_made n k d) n z) (sym e) (
              ap (λ z. unwrap_or z 0) (set_same x.made (class_place g.classes k) there.0 (made_here g x k + 1) there.1) ∙ ap (λ z. z + 1) count
              ∙ sym (ap (λ z. unwrap_or z 0) (looked n k ∙ ap (λ b. cond b (Some (made_by d n k + 1)) (find pair_cmp (n, k) d.made)) (tied_pair (n, k)))))
          by (inr e) =
              ap (λ z. unwrap_or z 0) (set_other x.made (class_place g.classes k) (class_place g.classes j) (made_here g x k + 1) (λ f. e (same_place g.classes j k i class f))) ∙ (st.made n x node).1 j i
              ∙ sym (ap (λ z. unwrap_or z 0) (looked n j
              ∙ ap (λ b. cond b (Some (made_by d n k + 1)) (find pair_cmp (n, j) d.made)) (untied_pair (n, j) (n, k) (λ z. e (ap (λ (p : Pair). p.1) z)))))

      own : CountsMade g (count_one g k x) (count_made n k d) n
      own = (set_length x.made (class_place g.classes k) (made_here g x k + 1) ∙ (st.made n x node).0, own_count)

      others : (b j : ℕ) → b ≢ n → made_by (count_made n k d) b j ≡ made_by d b j
      others b j e = ap (λ z. unwrap_or z 0) (looked b j
          ∙ ap (λ y. cond y (Some (made_by d n k + 1)) (find pair_cmp (b, j) d.made)) (untied_pair (b, j) (n, k) (λ z. e (ap (λ (p : Pair). p.0) z))))

  -- the next name of the node
  abbrev pub next_of : ℕ
  next_of = name_at n (length x.slots)

  module _ (W : Config S → Type 0) (req : Requests g W) (small : length x.slots < 65536) where
    own : node_of next_of ≡ n
    own = name_node n (length x.slots) small

    empty : slot_at m next_of ≡ None
    empty = at_node m n x node next_of own ∙ ap (slice_get x.slots) (name_slot n (length x.slots) small) ∙ slice_get_past x.slots (length x.slots) (omega arith)

    pub record IsNew : Type 0 where
      pub object : object_of c next_of ≡ None
      pub free : held d next_of ≡ None
      pub box : arrived_at d next_of ≡ []

    pub is_new : IsNew
    is_new = by (object_of c next_of) refl (subst (λ z. AtName g next_of z (object_of c next_of) (held d next_of) (arrived_at d next_of)) empty (st.named next_of))
      where
        by : (y : Option S) → object_of c next_of ≡ y → AtName g next_of None y (held d next_of) (arrived_at d next_of) → IsNew
        by None e k = record { object = e; free = k.0; box = k.1 }
        by (Some y) e k = absurd k

    -- what is no object is no caller
    pub no_object : W c → (q : ℕ) → object_of c q ≡ None → (b : ℕ) (z : S) → object_of c b ≡ Some z → In q (g.callers z) → ⊥
    no_object w q k b z e i = let a = req.served_waits c b z q w e i in let f = a.2 in cc

    -- the other slots stay
    pub add_there : (y : S) (q : ℕ) → q ≢ next_of → slot_at (record m { nodes = set_at m.nodes n (add_slot x y); links = m.links }) q ≡ slot_at m q
    add_there y q e = by (decide (node_of q) n)
      where
        x' : NodeState S
        x' = add_slot x y

        m' : Machine S
        m' = record m { nodes = set_at m.nodes n x'; links = m.links }

        by : (node_of q ≡ n) ⊎ (node_of q ≢ n) → slot_at m' q ≡ slot_at m q
        by (inr i) = elsewhere m m' n x x' node refl q i
        by (inl i) =
            after m m' n x x' node refl q i
            ∙ front_there x.slots (fresh_slot y) (slot_of q) (λ j. e (sym (whole_name q) ∙ ap₂ name_at i j))
            ∙ sym (before m m' n x x' node refl q i)

    pub add_stands : (y : S) → ((b : ℕ) (z : S) → object_of c b ≡ Some z → In next_of (g.callers z) → ⊥) → entries d next_of ≡ [] → g.callers y ≡ []
        → MachineStandsFor g l (record m { nodes = set_at m.nodes n (add_slot x y); links = m.links }) (put_object c next_of y) d
    add_stands y unserved none alone = assemble g l m c d st n x node x' m.links c' d few (st.last n x node) (λ b e. refl) (st.made n x node) (λ b k e. refl)
        (λ q. spots q (decide q next_of)) st.links st.in_order
        (λ z. link_kept g m m' (But next_of) keep (list_at pair_cmp z m.links) (on_link d.links z) (st.links z) (r.on_links z) grow (st.on_links z))
        (λ a b k i j f. st.distinct a b k i (still a k j) (still b k f))
      where
        x' : NodeState S
        x' = add_slot x y

        c' : Config S
        c' = put_object c next_of y

        m' : Machine S
        m' = record m { nodes = set_at m.nodes n x'; links = m.links }

        few : length x'.slots ≤ 65536
        few = let e = length-append x.slots (fresh_slot y ∷ []) in omega (arith, e, small)

        here : slot_at m' next_of ≡ Some (fresh_slot y)
        here = after m m' n x x' node refl next_of own ∙ ap (slice_get x'.slots) (name_slot n (length x.slots) small) ∙ last_there x.slots (fresh_slot y)

        there : (q : ℕ) → q ≢ next_of → slot_at m' q ≡ slot_at m q
        there q e = add_there y q e

        keep : (q : ℕ) → But next_of q → Same m m' q
        keep q e = same_slot m m' q (there q e)

        r : Refers g (But next_of) c d
        r = refers_but g c d next_of none unserved

        grow : (q : ℕ) → HasSlot m q → HasSlot m' q
        grow q h = by (decide q next_of)
          where
            by : (q ≡ next_of) ⊎ (q ≢ next_of) → HasSlot m' q
            by (inl e) = (fresh_slot y, ap (slot_at m') e ∙ here)
            by (inr e) = (h.0, there q e ∙ h.1)

        still : (q k : ℕ) → request_of m' q ≡ Some k → request_of m q ≡ Some k
        still q k e = by (decide q next_of)
          where
            by : (q ≡ next_of) ⊎ (q ≢ next_of) → request_of m q ≡ Some k
            by (inl f) = absurd (let z : request_of m' next_of ≡ Some k = subst (λ w. request_of m' w ≡ Some k) f e in let w : request_of m' next_of ≡ None = ap request_in here in cc)
            by (inr f) = sym (keep q f).request ∙ e

        mine : Spot g m' next_of (slot_at m' next_of) (object_of c' next_of) (held d next_of) (arrived_at d next_of)
        mine = spot_same g m' next_of {s = Some (fresh_slot y)} {x = Some y} {h = None} {b = []} here (find_put_same next_of y c.objects) is_new.free is_new.box (
          record { state = Free refl refl; mailbox = refl },
          tt,
          subst (AreNumbersOf m' []) (sym alone) tt,
        )

        spots : (q : ℕ) → (q ≡ next_of) ⊎ (q ≢ next_of) → Spot g m' q (slot_at m' q) (object_of c' q) (held d q) (arrived_at d q)
        spots q (inl e) = subst (λ b. Spot g m' b (slot_at m' b) (object_of c' b) (held d b) (arrived_at d b)) (sym e) mine
        spots q (inr e) = spot_same g m' q (there q e) (find_put_other q next_of y c.objects e) refl refl
            (spot_kept g m m' (But next_of) keep q (slot_at m q) (object_of c q) (held d q) (arrived_at d q) (r.in_boxes q) (λ z b f j. r.in_callers q z b f j) (spot g l m c d st q))
