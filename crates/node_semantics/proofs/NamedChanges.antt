-- Small changes by name: a request is posted, a message arrives or is taken, a number is settled, an object is added.
use Rattle.std.proofs.Common.{◌≡◌, ◌≢◌, ◌⊎◌, inl, inr, refl, sym, ap, subst, ◌∙◌, ℕ, ◌==◌, List, [], ◌∷◌, ◌++◌, append-nil, Option, Some, None, Bool, true, false}
use Rattle.std.specs.Prelude.{slice_get}
use Rattle.std.specs.Ordering.{nat_cmp}
use Rattle.std.specs.FinMap.{find, put}
use Rattle.run_types.specs.declared.types.Value.{Value}
use Rattle.run_types.specs.declared.types.Placement.{Placement}
use Rattle.run_types.specs.Tables.{without, Each}
use Rattle.run_types.proofs.Laws.{decide, equals, differ, same_some, find_put_same, find_put_other, find_without_same, find_without_other, each_append}
use Rattle.mesh_semantics.proofs.Laws.{under-append, under_taken, under_other, each_without}
use Rattle.mesh_semantics.specs.Kind.{has_name}
use Rattle.mesh_semantics.specs.Language.{Language}
use Rattle.mesh_semantics.specs.Config.{Config, object_of, put_object}
use Rattle.run_types.specs.Paths.{under, without_first}
use Rattle.mesh_semantics.specs.Delay as D
use Rattle.mesh_semantics.specs.Delay.{Packet, Arrival, Holding, Delay, arrived_at, held, made_by, count_made, is_for}
use Rattle.run_types.specs.ObjectNames.{node_of}
use Rattle.mesh_semantics.specs.Sound.{entries}
use Rattle.run_types.specs.PathFacts.{In}
use Rattle.node_semantics.specs.Node.{Slot, NumberedArrival, NodeState, arrivals, is_on}
use Rattle.node_semantics.specs.Machine.{Machine}
use Rattle.mesh_semantics.specs.Requests.{posts_request}
use Rattle.node_semantics.specs.StandsFor.{slot_at, request_of, request_in, Occupied, SlotStandsFor, Free, Served, Posted, Due, IsNumberOf, AreNumbersOf, caller_of, MachineStandsFor}
use Rattle.node_semantics.proofs.KeptNumbers.{Same, number_kept}
use Rattle.node_semantics.proofs.NamesAfterChange.{Spot, spot, Refers, refers_any, refers_but, Any, But, spot_same, box_kept, served_kept}
use Rattle.node_semantics.proofs.SettledNumber.{given_to}
use Rattle.node_semantics.proofs.SmallChanges.{slot_stands, slot_here, slot_keeps, others_keep, still_distinct, mₛ}

messages_append : (es : List NumberedArrival) (e : NumberedArrival) → arrivals (es ++ e ∷ []) ≡ arrivals es ++ e.message ∷ []
messages_append [] e = refl
messages_append (x ∷ es) e = ap (λ (ms : List Arrival). x.message ∷ ms) (messages_append es e)

messages_without : (names : List ℕ) (es : List NumberedArrival) → arrivals (without_first (is_on names) es) ≡ without_first (λ a. has_name names a.method) (arrivals es)
messages_without names [] = refl
messages_without names (e ∷ es) = by (has_name names e.message.method) refl (messages_without names es)
  where
    by : (b : Bool) → has_name names e.message.method ≡ b → arrivals (without_first (is_on names) es) ≡ without_first (λ a. has_name names a.method) (arrivals es)
        → arrivals (without_first (is_on names) (e ∷ es)) ≡ without_first (λ a. has_name names a.method) (arrivals (e ∷ es))
    by true i k = rw i refl
    by false i k = rw i (ap (λ (ms : List Arrival). e.message ∷ ms) k)

module _ {S : Type 0} (g : Language S) (l : Placement) where
  -- how a slot stands looks at its state and its request alone
  pub stands_as : (o : ℕ) (s s' : Slot S) (x : S) (h : Option Holding) → s'.state ≡ s.state → s'.request ≡ s.request → SlotStandsFor g o s x h → SlotStandsFor g o s' x h
  stands_as o s s' x None e f (Free a b) = Free (f ∙ a) (e ∙ b)
  stands_as o s s' x None e f (Served b m args a k w) = Served b m args (a.0, f ∙ a.1) (ap (g.kind o) e ∙ k) (ap (λ z. g.waiting z b m) e ∙ w)
  stands_as o s s' x (Some D.Posted) e f (Posted a b) = Posted (a.0, f ∙ a.1) (e ∙ b)
  stands_as o s s' x (Some (D.Due u)) e f (Due v a k w) = Due v (a.0, f ∙ a.1) (ap (λ z. posts_request (g.kind o z)) e ∙ k) (ap (λ z. g.given z v) e ∙ w)

  module _ (m : Machine S) (c : Config S) (d : Delay) (st : MachineStandsFor g l m c d) (n : ℕ) (x : NodeState S) (node : slice_get m.nodes n ≡ Some x) where
    module _ (o : ℕ) (own : node_of o ≡ n) (s : Slot S) (here : slot_at m o ≡ Some s) where
      -- the object in this slot
      pub record Placed : Type 0 where
        pub object : S
        pub there : object_of c o ≡ Some object
        pub stands : Occupied g o s object (held d o) (arrived_at d o)
        pub mailbox : Each (λ e. IsNumberOf m e.number (caller_of e.message)) s.mailbox
        pub callers : AreNumbersOf m s.callers (g.callers object)

      pub placed_here : Placed
      placed_here = by (object_of c o) refl (subst (λ z. Spot g m o z (object_of c o) (held d o) (arrived_at d o)) here (spot g l m c d st o))
        where
          by : (y : Option S) → object_of c o ≡ y → Spot g m o (Some s) y (held d o) (arrived_at d o) → Placed
          by None e k = absurd k.0
          by (Some y) e k = record { object = y; there = e; stands = k.0; mailbox = k.1; callers = k.2 }

      -- a request goes out
      module _ (there : object_of c o ≡ Some s.state) (free : held d o ≡ None) (none : entries d o ≡ [])
          (unserved : (b : ℕ) (y : S) → object_of c b ≡ Some y → In o (g.callers y) → ⊥)
          (fresh goal : ℕ) (is_fresh : (q : ℕ) → node_of q ≡ n → request_of m q ≢ Some fresh) where
        abbrev pub asking : Slot S
        asking = record s { request = Some fresh; goal = goal }

        abbrev mₐ : Machine S
        mₐ = mₛ g l m c d st n x node o own s asking here

        p : Placed
        p = placed_here

        same : p.object ≡ s.state
        same = same_some (sym p.there ∙ there)

        r : Refers g (But o) c d
        r = refers_but g c d o none unserved

        keep : (q : ℕ) → But o q → Same m mₐ q
        keep = others_keep g l m c d st n x node o own s asking here

        mine : Spot g mₐ o (Some asking) (object_of c o) (find nat_cmp o (put nat_cmp o D.Posted d.holding)) (arrived_at d o)
        mine = spot_same g mₐ o {s = Some asking} {x = Some s.state} {h = Some D.Posted} {b = arrived_at d o} refl there (find_put_same o D.Posted d.holding) refl (
          record { state = Posted (fresh, refl) refl; mailbox = p.stands.mailbox },
          box_kept g m mₐ (But o) keep s (arrived_at d o) p.stands.mailbox (r.in_boxes o) p.mailbox,
          served_kept g m mₐ (But o) keep s.callers (g.callers s.state) (λ q e. r.in_callers o s.state q there e)
              (subst (λ z. AreNumbersOf m s.callers (g.callers z)) same p.callers),
        )

        now_o : request_of mₐ o ≡ Some fresh
        now_o = ap request_in (slot_here g l m c d st n x node o own s asking here)

        distinct : (a b k : ℕ) → node_of a ≡ node_of b → request_of mₐ a ≡ Some k → request_of mₐ b ≡ Some k → a ≡ b
        distinct a b k e i j = by (decide a o) (decide b o)
          where
            clash : (q z : ℕ) → q ≢ o → z ≡ o → node_of q ≡ node_of z → request_of mₐ q ≡ Some k → request_of mₐ z ≡ Some k → ⊥
            clash q z f h u v w =
                let a : request_of mₐ o ≡ Some k = subst (λ y. request_of mₐ y ≡ Some k) h w in
                let b : Some k ≡ Some fresh = sym a ∙ now_o in
                is_fresh q (u ∙ ap node_of h ∙ own) (sym (keep q f).request ∙ v ∙ b)

            by : (a ≡ o) ⊎ (a ≢ o) → (b ≡ o) ⊎ (b ≢ o) → a ≡ b
            by (inl f) (inl h) = f ∙ sym h
            by (inl f) (inr h) = absurd (clash b a h f (sym e) j i)
            by (inr f) (inl h) = absurd (clash a b f h e i j)
            by (inr f) (inr h) = st.distinct a b k e (sym (keep a f).request ∙ i) (sym (keep b h).request ∙ j)

        pub ask_stands : MachineStandsFor g l (mₛ g l m c d st n x node o own s asking here) c (record d { holding = put nat_cmp o D.Posted d.holding })
        ask_stands = slot_stands g l m c d st n x node o own s asking here c (put nat_cmp o D.Posted d.holding) d.arrived
            (λ q e. refl) (λ q e. find_put_other q o D.Posted d.holding e) (λ q e. refl) (But o) keep r mine distinct

      -- a message comes
      module _ (a : NumberedArrival) (number : IsNumberOf m a.number (caller_of a.message)) where
        abbrev pub with_arrival : Slot S
        with_arrival = record s { mailbox = s.mailbox ++ a ∷ [] }

        abbrev mₗ : Machine S
        mₗ = mₛ g l m c d st n x node o own s with_arrival here

        q : Placed
        q = placed_here

        keepₗ : (b : ℕ) → Any b → Same m mₗ b
        keepₗ b z = slot_keeps g l m c d st n x node o own s with_arrival here refl refl b

        any : Refers g Any c d
        any = refers_any g c d

        box : List (ℕ × Arrival)
        box = d.arrived ++ (o, a.message) ∷ []

        box_here : under (λ z. z == o) (d.arrived ++ (o, a.message) ∷ []) ≡ arrived_at d o ++ a.message ∷ []
        box_here = under-append (λ z. z == o) d.arrived ((o, a.message) ∷ []) ∙ rw (equals o) refl

        box_there : (b : ℕ) → b ≢ o → under (λ z. z == b) (d.arrived ++ (o, a.message) ∷ []) ≡ arrived_at d b
        box_there b e = under-append (λ z. z == b) d.arrived ((o, a.message) ∷ []) ∙ rw (differ o b (λ i. e (sym i))) (append-nil (arrived_at d b))

        arrival_mine : Spot g mₗ o (Some with_arrival) (object_of c o) (held d o) (under (λ z. z == o) (d.arrived ++ (o, a.message) ∷ []))
        arrival_mine = spot_same g mₗ o {s = Some with_arrival} {x = Some q.object} {h = held d o} {b = arrived_at d o ++ a.message ∷ []} refl q.there refl box_here (
          record {
            state = stands_as o s with_arrival q.object (held d o) refl refl q.stands.state;
            mailbox = messages_append s.mailbox a ∙ ap (λ (ms : List Arrival). ms ++ a.message ∷ []) q.stands.mailbox;
          },
          each_append _ s.mailbox a (box_kept g m mₗ Any keepₗ s (arrived_at d o) q.stands.mailbox (any.in_boxes o) q.mailbox)
              (number_kept m mₗ a.number (caller_of a.message) (λ b e. (keepₗ b tt).request) number),
          served_kept g m mₗ Any keepₗ s.callers (g.callers q.object) (λ b e. tt) q.callers,
        )

        pub arrival_stands : MachineStandsFor g l (mₛ g l m c d st n x node o own s with_arrival here) c (record d { arrived = d.arrived ++ (o, a.message) ∷ [] })
        arrival_stands = slot_stands g l m c d st n x node o own s with_arrival here c d.holding (d.arrived ++ (o, a.message) ∷ [])
            (λ b e. refl) (λ b e. refl) box_there Any keepₗ any arrival_mine
            (still_distinct g l m c d st n x node o own s with_arrival here (λ b k e. sym (keepₗ b tt).request ∙ e))

      -- a message is taken, and the object becomes y
      module _ (names : List ℕ) (y : S) (ks : List ℕ) (idle : s.request ≡ None) (free : held d o ≡ None) (fit : AreNumbersOf m ks (g.callers y)) where
        abbrev pub taking : Slot S
        taking = record s { state = y; callers = ks; mailbox = without_first (is_on names) s.mailbox }

        abbrev mₜ : Machine S
        mₜ = mₛ g l m c d st n x node o own s taking here

        pₜ : Placed
        pₜ = placed_here

        keepₜ : (b : ℕ) → Any b → Same m mₜ b
        keepₜ b z = slot_keeps g l m c d st n x node o own s taking here refl refl b

        anyₜ : Refers g Any (put_object c o y) d
        anyₜ = refers_any g (put_object c o y) d

        taken_mine : Spot g mₜ o (Some taking) (object_of (put_object c o y) o) (held d o) (under (λ z. z == o) (without_first (is_for o names) d.arrived))
        taken_mine = spot_same g mₜ o {s = Some taking} {x = Some y} {h = None} {b = without_first (λ a. has_name names a.method) (arrived_at d o)}
            refl (find_put_same o y c.objects) free (under_taken names o d.arrived) (
              record { state = Free idle refl; mailbox = messages_without names s.mailbox ∙ ap (without_first (λ a. has_name names a.method)) pₜ.stands.mailbox },
              each_without _ (is_on names) s.mailbox (box_kept g m mₜ Any keepₜ s (arrived_at d o) pₜ.stands.mailbox (anyₜ.in_boxes o) pₜ.mailbox),
              served_kept g m mₜ Any keepₜ ks (g.callers y) (λ b e. tt) fit,
            )

        pub take_stands : MachineStandsFor g l (mₛ g l m c d st n x node o own s taking here) (put_object c o y) (record d { arrived = without_first (is_for o names) d.arrived })
        take_stands = slot_stands g l m c d st n x node o own s taking here (put_object c o y) d.holding (without_first (is_for o names) d.arrived)
            (λ b e. find_put_other b o y c.objects e) (λ b e. refl) (λ b e. under_other names o b d.arrived e) Any keepₜ anyₜ taken_mine
            (still_distinct g l m c d st n x node o own s taking here (λ b k e. sym (keepₜ b tt).request ∙ e))

      -- the value of its request comes
      module _ (number : ℕ) (v : Value) (there : object_of c o ≡ Some (g.given s.state v)) (none : entries d o ≡ [])
          (unserved : (b : ℕ) (y : S) → object_of c b ≡ Some y → In o (g.callers y) → ⊥) where
        abbrev pub settling : Slot S
        settling = given_to g number v s

        abbrev mₓ : Machine S
        mₓ = mₛ g l m c d st n x node o own s settling here

        pₓ : Placed
        pₓ = placed_here

        keepₓ : (b : ℕ) → But o b → Same m mₓ b
        keepₓ = others_keep g l m c d st n x node o own s settling here

        rₓ : Refers g (But o) c d
        rₓ = refers_but g c d o none unserved

        settled_mine : Spot g mₓ o (Some settling) (object_of c o) (find nat_cmp o (without nat_cmp o d.holding)) (arrived_at d o)
        settled_mine = spot_same g mₓ o {s = Some settling} {x = Some (g.given s.state v)} {h = None} {b = arrived_at d o} refl there (find_without_same o d.holding) refl (
          record { state = Free refl refl; mailbox = pₓ.stands.mailbox },
          box_kept g m mₓ (But o) keepₓ s (arrived_at d o) pₓ.stands.mailbox (rₓ.in_boxes o) pₓ.mailbox,
          served_kept g m mₓ (But o) keepₓ s.callers (g.callers (g.given s.state v)) (λ b e. rₓ.in_callers o (g.given s.state v) b there e)
              (subst (λ z. AreNumbersOf m s.callers (g.callers z)) (same_some (sym pₓ.there ∙ there)) pₓ.callers),
        )

        pub settle_stands : MachineStandsFor g l (mₛ g l m c d st n x node o own s settling here) c (record d { holding = without nat_cmp o d.holding })
        settle_stands = slot_stands g l m c d st n x node o own s settling here c (without nat_cmp o d.holding) d.arrived
            (λ b e. refl) (λ b e. find_without_other b o d.holding e) (λ b e. refl) (But o) keepₓ rₓ settled_mine
            (still_distinct g l m c d st n x node o own s settling here fewer)
          where
            fewer : (b k : ℕ) → request_of mₓ b ≡ Some k → request_of m b ≡ Some k
            fewer b k e = by (decide b o)
              where
                by : (b ≡ o) ⊎ (b ≢ o) → request_of m b ≡ Some k
                by (inl f) = absurd (
                    let z : request_of mₓ o ≡ Some k = subst (λ w. request_of mₓ w ≡ Some k) f e in
                    let w : request_of mₓ o ≡ None = ap request_in (slot_here g l m c d st n x node o own s settling here) in cc)
                by (inr f) = sym (keepₓ b f).request ∙ e
