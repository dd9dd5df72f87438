-- The moves of links keep a state consistent.
use Rattle.std.proofs.Common.{◌≡◌, ◌≢◌, inl, inr, refl, sym, ap, subst, ◌∙◌, ℕ, ◌*◌, ◌<◌, ◌≤◌, ◌==◌, List, [], ◌∷◌, Option, Some, None, Bool, true, false, if◌then◌else◌, arith}
use Rattle.run_types.specs.declared.types.Value.{Value}
use Rattle.run_types.specs.declared.types.Value.TheVariants as V
use Rattle.run_types.specs.declared.types.Error.{Error}
use Rattle.run_types.specs.declared.types.Label.TheVariants as L
use Rattle.run_types.specs.declared.types.What.TheVariants as W'
use Rattle.run_types.specs.declared.types.Placement.{Placement}
use Rattle.run_types.proofs.Laws.{equal, equals, differ, find_put_same, find_without_same, find_without_other, each_append}
use Rattle.mesh_semantics.specs.Kind as K
use Rattle.mesh_semantics.specs.Kind.{Kind}
use Rattle.mesh_semantics.specs.Language.{Language}
use Rattle.mesh_semantics.specs.Config.{Config, object_of}
use Rattle.run_types.specs.Paths.{next, path, is_link, on_link, move_head}
use Rattle.mesh_semantics.specs.Delay as D
use Rattle.mesh_semantics.specs.Delay.{Packet, Arrival, Holding, Delay, post, arrive, held, hold, free, cell_count}
use Rattle.run_types.specs.ObjectNames.{node_of}
use Rattle.mesh_semantics.specs.Act.{id, Acts, first_of, next_name, goal_node, received, passed, link_move}
use Rattle.run_types.specs.Tables.{Each}
use Rattle.mesh_semantics.specs.Sound.{Entry, Sent, Called, entries, owns, call_by, Owns, OwnedAt, letter, letters, notes, CallsLast, sender_of, OnPath, Has, IsThere, IsPlaced, Consistent, IsWithin, IsSound}
use Rattle.mesh_semantics.proofs.Fit.{Fit}
use Rattle.mesh_semantics.specs.Lawful.{Lawful}
use Rattle.mesh_semantics.specs.EventSoundness.{After}
use Rattle.mesh_semantics.proofs.PathTraffic.{Where, End, Before, where_is, second_there}
use Rattle.mesh_semantics.proofs.OwnedTraffic.{moved, moved_other, moved_own, moved_some, post_other, post_own, arrive_other, arrive_own}
use Rattle.mesh_semantics.proofs.PairTraffic.{letters_moved, letters_passed, letters_delivered}
use Rattle.mesh_semantics.proofs.ObjectChange.{each_without, each_head, total_less}
use Rattle.mesh_semantics.proofs.PostedPackets.{posts_silent, cells_post, cells_arrive}
use Rattle.mesh_semantics.proofs.ObjectAndDelayChange.{Any, shape_of, of_shape, Shifts, shift, next_free}
use Rattle.mesh_semantics.proofs.TurnInvariant.{Nearly, within_after, owned_is, one_label}
use Rattle.mesh_semantics.proofs.RendezvousTurns.{few, made, made_beside}
use Rattle.mesh_semantics.proofs.Sends.{holds}

module _ {S : Type 0} (g : Language S) (W : Config S → Type 0) (law : Lawful g W) (l : Placement) (fit : Fit l) where
  module _ (c : Config S) (d : Delay) (s : IsSound g W l c d) (a b : ℕ) (x : Packet) (head : first_of (on_link d.links (a, b)) ≡ Some x) where
    is : IsPlaced l c ((a, b), x)
    is = each_head (IsPlaced l c) (a, b) d.links x head s.state.packets

    packets_left : Each (IsPlaced l c) (move_head (a, b) d.links)
    packets_left = each_without (IsPlaced l c) (λ e. is_link a b e.0) d.links s.state.packets

    inside : (q : ℕ) → IsThere c q → node_of q < l.width * l.height
    inside q t = (s.state.names q t).0

    cells_moved : (m : ℕ) → cell_count (moved (a, b) d) m ≤ cell_count d m
    cells_moved m = let r = total_less (λ e. if e.0.0 == m then 1 else 0) (λ e. is_link a b e.0) d.links in omega (arith, r)

    -- the limits of the other nodes, where no cell of theirs is taken
    beside : (e : Delay) (m : ℕ) → cell_count e m ≡ cell_count (moved (a, b) d) m → IsWithin g l c e m
    beside e m h = let r = s.limits m in let z = cells_moved m in (r.0, r.1, (let t = r.2 in omega (arith, h, z, t)))

    -- the packet is all that its owner has
    one_entry : (q : ℕ) (z : S) (t : Option Holding) (k : Kind) (es : List Entry) → Owns q t k es → es ≢ [] → (e : Entry) × (es ≡ e ∷ [])
    one_entry q z None k es h n = absurd (n h)
    one_entry q z (Some D.Posted) (K.New class) es h n = (Sent (D.Create q h.0 class), h.2)
    one_entry q z (Some D.Posted) (K.Send r m args) es h n = elim h as (λ u. (e : Entry) × (es ≡ e ∷ [])) [ inl e ↦ (Sent (D.Request q r m args), e) | inr e ↦ (Called r (call_by q m args), e) ]
    one_entry q z (Some D.Posted) _ es h n = absurd h
    one_entry q z (Some (D.Due v)) k es h n = elim h.1 as (λ u. (e : Entry) × (es ≡ e ∷ [])) [ inl e ↦ (Sent (D.Result q v), e) | inr e ↦ (Sent (D.Created q e.0), e.2) ]

    sole : (q : ℕ) → owns q x ≡ true → IsThere c q → (entries d q ≡ Sent x ∷ []) × (entries (moved (a, b) d) q ≡ [])
    sole q o t =
        let w = owned_is g W law l fit.ways c d q t.0 (held d q) s.state t.1 refl in
        let e = one_entry q t.0 (held d q) (g.kind q t.0) (entries d q) w.0 (moved_some (a, b) x d head q o) in
        let r = moved_own (a, b) x d head q e.0 o e.1 in
        (e.1 ∙ ap (λ z. z ∷ []) r.0, r.1)

    -- a packet goes on
    next_on : b ≢ goal_node x → OnPath l (a, b) x → OnPath l (b, next l b (goal_node x)) x
    next_on n = by x refl
      where
        along_path : (o r : ℕ) → node_of o < l.width * l.height → node_of r < l.width * l.height → b ≢ node_of r → Has (path l (node_of o) (node_of r)) (a, b)
            → Has (path l (node_of o) (node_of r)) (b, next l b (node_of r))
        along_path o r p q far h = on (where_is (next l) (node_of r) (node_of o) (path l (node_of o) (node_of r)) (a, b) (fit.ways.leads (node_of o) (node_of r) p q) h).2
          where
            on : Where (next l) (node_of r) (path l (node_of o) (node_of r)) (a, b) → Has (path l (node_of o) (node_of r)) (b, next l b (node_of r))
            on (End e u) = absurd (far e)
            on (Before e u) = second_there (path l (node_of o) (node_of r)) (a, b) (b, next l b (node_of r)) u

        by : (y : Packet) → x ≡ y → OnPath l (a, b) x → OnPath l (b, next l b (goal_node x)) x
        by (D.Create o goal class) e h = rw e tt
        by (D.Created o name) e h = rw e tt
        by (D.Result o v) e h = rw e tt
        by (D.Request o r m args) e h = rw e (along_path o r (inside o (subst (λ (z : Packet). IsThere c (sender_of z)) e is.sender)) (subst (λ (z : Packet). goal_node z < l.width * l.height) e is.goal)
            (subst (λ (z : Packet). b ≢ goal_node z) e n) (subst (λ (z : Packet). OnPath l (a, b) z) e h))
        by (D.Async o r m args) e h = rw e (along_path o r (inside o (subst (λ (z : Packet). IsThere c (sender_of z)) e is.sender)) (subst (λ (z : Packet). goal_node z < l.width * l.height) e is.goal)
            (subst (λ (z : Packet). b ≢ goal_node z) e n) (subst (λ (z : Packet). OnPath l (a, b) z) e h))

    owner_is : (q : ℕ) (y : Packet) → owns q y ≡ true → sender_of y ≡ q
    owner_is q (D.Create o goal class) h = equal o q h
    owner_is q (D.Created o name) h = equal o q h
    owner_is q (D.Request o r m args) h = equal o q h
    owner_is q (D.Result o v) h = equal o q h
    owner_is q (D.Async o r m args) h = absurd (let z : false ≡ true = h in cc)

    pub pass_kept : b ≢ goal_node x → Nearly g W law l fit.ways b c (Acts W'.Pass c (post l b (goal_node x) x (moved (a, b) d)))
    pass_kept n = (
      refl,
      record {
        typed = s.state.typed;
        names = s.state.names;
        owned = λ q. owned q (owns q x) refl;
        packets = each_append (IsPlaced l c) (move_head (a, b) d.links) ((b, next l b (goal_node x)), x) packets_left
            (record { sender = is.sender; goal = is.goal; link = (fit.ways.link b (goal_node x) is.link.to is.goal n); way = (n, refl); on_path = next_on n is.on_path });
        arrivals = s.state.arrivals;
        lists = λ p q. s.state.lists p q ∙ sym (ap notes (same p q));
        order = λ p q. subst CallsLast (sym (same p q)) (s.state.order p q);
      },
      λ m i. beside (post l b (goal_node x) x (moved (a, b) d)) m (cells_post l b (goal_node x) x (moved (a, b) d) m i),
    )
      where
        same : (p q : ℕ) → letters l (post l b (goal_node x) x (moved (a, b) d)) p q ≡ letters l d p q
        same p q = letters_passed l fit.ways d p q (a, b) x (λ e. inside p (subst (IsThere c) (sym e) is.sender)) is.goal n is.on_path head

        owned : (q : ℕ) (t : Bool) → owns q x ≡ t → OwnedAt g q (object_of c q) (held d q) (entries (post l b (goal_node x) x (moved (a, b) d)) q)
        owned q false e = rw (post_other l (moved (a, b) d) b (goal_node x) x q e, moved_other (a, b) x d head q e) (s.state.owned q)
        owned q true e =
            let r = sole q e (subst (IsThere c) (owner_is q x e) is.sender) in
            rw (post_own l (moved (a, b) d) b (goal_node x) x q e r.1) (subst (OwnedAt g q (object_of c q) (held d q)) r.0 (s.state.owned q))

    -- a value comes to its owner
    freed : (o : ℕ) → owns o x ≡ true → ((q : ℕ) → q ≢ o → owns q x ≡ false) → ((p q : ℕ) → letter p q x ≡ [])
        → Consistent g W l c (free o (moved (a, b) d)) × ((m : ℕ) → m ≢ b → IsWithin g l c (free o (moved (a, b) d)) m)
    freed o mine others silent =
        let there : IsThere c o = subst (IsThere c) (owner_is o x mine) is.sender in
        let same : (p q : ℕ) → letters l (moved (a, b) d) p q ≡ letters l d p q = λ p q. letters_moved l fit.ways d p q (a, b) x head (silent p q) in (
          of_shape g l W c (free o (moved (a, b) d)) (shift g l c d (free o (moved (a, b) d)) o (shape_of g l W c d s.state) (record {
            held_others = λ q i. find_without_other q o d.holding i;
            others = λ q i. moved_other (a, b) x d head q (others q i);
            packets = packets_left;
            arrivals = s.state.arrivals;
            lists = λ p q. ap notes (same p q);
            order = λ p q. subst CallsLast (sym (same p q)) (s.state.order p q);
          }) (rw (there.1, find_without_same o d.holding) ((sole o mine there).1, λ e i. refl))) s.state.typed,
          λ m i. beside (free o (moved (a, b) d)) m refl,
        )

  -- a packet at its goal
  module _ (c : Config S) (d : Delay) (s : IsSound g W l c d) (a b : ℕ) where
    pub created_kept : (o name : ℕ) → first_of (on_link d.links (a, b)) ≡ Some (D.Created o name) → Nearly g W law l fit.ways b c (received g l c (moved (a, b) d) b (D.Created o name))
    created_kept o name h = let r = freed c d s a b (D.Created o name) h o (equals o) (λ q i. differ o q (λ e. i (sym e))) (λ p q. refl) in (refl, r.0, r.1)

    pub result_kept : (o : ℕ) (v : Value) → first_of (on_link d.links (a, b)) ≡ Some (D.Result o v) → Nearly g W law l fit.ways b c (received g l c (moved (a, b) d) b (D.Result o v))
    result_kept o v h = let r = freed c d s a b (D.Result o v) h o (equals o) (λ q i. differ o q (λ e. i (sym e))) (λ p q. refl) in (refl, r.0, r.1)

    -- a call arrives
    pub request_kept : (o r m : ℕ) (args : List Value) → node_of r ≡ b → first_of (on_link d.links (a, b)) ≡ Some (D.Request o r m args)
        → Nearly g W law l fit.ways b c (received g l c (moved (a, b) d) b (D.Request o r m args))
    request_kept o r m args at h = (
      refl,
      of_shape g l W c (arrive r (call_by o m args) (moved (a, b) d)) whole s.state.typed,
      λ i j. beside c d s a b (D.Request o r m args) h (arrive r (call_by o m args) (moved (a, b) d)) i (cells_arrive r (call_by o m args) (moved (a, b) d) i (λ e. j (e ∙ at))),
    )
      where
        x : Packet
        x = D.Request o r m args

        placed : IsPlaced l c ((a, b), D.Request o r m args)
        placed = is c d s a b (D.Request o r m args) h

        entry : (entries d o ≡ Sent (D.Request o r m args) ∷ []) × (entries (moved (a, b) d) o ≡ [])
        entry = sole c d s a b (D.Request o r m args) h o (equals o) placed.sender

        now : entries (arrive r (call_by o m args) (moved (a, b) d)) o ≡ Called r (call_by o m args) ∷ []
        now = arrive_own l (moved (a, b) d) r (call_by o m args) o (equals o) entry.1

        same : (p q : ℕ) → letters l (arrive r (call_by o m args) (moved (a, b) d)) p q ≡ letters l d p q
        same p q = letters_delivered l fit.ways d p q (a, b) (D.Request o r m args) r (call_by o m args) (λ e. (s.state.names p (subst (IsThere c) (sym e) placed.sender)).0)
            placed.goal (sym at) placed.on_path h (λ u v. refl)

        -- the caller stays posted
        stays : (t : Option Holding) (k : Kind) → Owns o t k (Sent (D.Request o r m args) ∷ []) → Owns o t k (Called r (call_by o m args) ∷ [])
        stays None k w = absurd (cc)
        stays (Some D.Posted) (K.Send z n vs) (inl e) = let i : r ≡ z = cc in let j : m ≡ n = cc in let f : args ≡ vs = cc in inr (λ t. Called (i t) (call_by o (j t) (f t)) ∷ [])
        stays (Some D.Posted) (K.Send z n vs) (inr e) = absurd (cc)
        stays (Some D.Posted) (K.New class) w = absurd (let e = w.2 in cc)
        stays (Some D.Posted) _ w = absurd w
        stays (Some (D.Due v)) k w = absurd (elim w.1 as (λ u. ⊥) [ inl e ↦ cc | inr e ↦ let z = e.2 in cc ])

        owned : (z : Option S) → OwnedAt g o z (held d o) (Sent (D.Request o r m args) ∷ []) → OwnedAt g o z (held d o) (Called r (call_by o m args) ∷ [])
        owned None w = absurd (let e = w.1 in cc)
        owned (Some z) w = (stays (held d o) (g.kind o z) w.0, w.1)

        whole : Consistent g Any l c (arrive r (call_by o m args) (moved (a, b) d))
        whole = shift g l c d (arrive r (call_by o m args) (moved (a, b) d)) o (shape_of g l W c d s.state) (record {
          held_others = λ q i. refl;
          others = λ q i. arrive_other l (moved (a, b) d) r (call_by o m args) q (differ o q (λ e. i (sym e)))
              ∙ moved_other (a, b) (D.Request o r m args) d h q (differ o q (λ e. i (sym e)));
          packets = packets_left c d s a b (D.Request o r m args) h;
          arrivals = each_append (λ e. IsThere c e.1.sender) d.arrived (r, call_by o m args) s.state.arrivals placed.sender;
          lists = λ p q. ap notes (same p q);
          order = λ p q. subst CallsLast (sym (same p q)) (s.state.order p q);
        }) (rw now (owned (object_of c o) (subst (OwnedAt g o (object_of c o) (held d o)) entry.0 (s.state.owned o))))

    -- an asynchronous message arrives
    pub async_kept : (o r m : ℕ) (args : List Value) → node_of r ≡ b → first_of (on_link d.links (a, b)) ≡ Some (D.Async o r m args)
        → Nearly g W law l fit.ways b c (received g l c (moved (a, b) d) b (D.Async o r m args))
    async_kept o r m args at h = (
      refl,
      of_shape g l W c (arrive r note (moved (a, b) d)) whole s.state.typed,
      λ i j. beside c d s a b (D.Async o r m args) h (arrive r note (moved (a, b) d)) i (cells_arrive r note (moved (a, b) d) i (λ e. j (e ∙ at))),
    )
      where
        note : Arrival
        note = record { sender = o; is_call = false; method = m; args = args }

        placed : IsPlaced l c ((a, b), D.Async o r m args)
        placed = is c d s a b (D.Async o r m args) h

        same : (p q : ℕ) → letters l (arrive r (record { sender = o; is_call = false; method = m; args = args }) (moved (a, b) d)) p q ≡ letters l d p q
        same p q = letters_delivered l fit.ways d p q (a, b) (D.Async o r m args) r (record { sender = o; is_call = false; method = m; args = args }) (λ e. (s.state.names p (subst (IsThere c) (sym e) placed.sender)).0)
            placed.goal (sym at) placed.on_path h (λ u v. refl)

        kept : (q : ℕ) → entries (arrive r (record { sender = o; is_call = false; method = m; args = args }) (moved (a, b) d)) q ≡ entries d q
        kept q = arrive_other l (moved (a, b) d) r (record { sender = o; is_call = false; method = m; args = args }) q refl ∙ moved_other (a, b) (D.Async o r m args) d h q refl

        whole : Consistent g Any l c (arrive r (record { sender = o; is_call = false; method = m; args = args }) (moved (a, b) d))
        whole = shift g l c d (arrive r (record { sender = o; is_call = false; method = m; args = args }) (moved (a, b) d)) o (shape_of g l W c d s.state) (record {
          held_others = λ q i. refl;
          others = λ q i. kept q;
          packets = packets_left c d s a b (D.Async o r m args) h;
          arrivals = each_append (λ e. IsThere c e.1.sender) d.arrived (r, record { sender = o; is_call = false; method = m; args = args }) s.state.arrivals placed.sender;
          lists = λ p q. ap notes (same p q);
          order = λ p q. subst CallsLast (sym (same p q)) (s.state.order p q);
        }) (rw (kept o) (s.state.owned o))

    -- an object is made for another node
    pub create_arrives : (o k : ℕ) → b < l.width * l.height → first_of (on_link d.links (a, b)) ≡ Some (D.Create o b k)
        → Nearly g W law l fit.ways b c (received g l c (moved (a, b) d) b (D.Create o b k))
    create_arrives o k inside h = at (held d o) (g.kind o z) refl refl (subst (λ es. OwnedAt g o (Some z) (held d o) es) entry.0 (owned_is g W law l fit.ways c d o z (held d o) s.state placed.sender.1 refl))
      where
        placed : IsPlaced l c ((a, b), D.Create o b k)
        placed = is c d s a b (D.Create o b k) h

        z : S
        z = placed.sender.0

        entry : (entries d o ≡ Sent (D.Create o b k) ∷ []) × (entries (moved (a, b) d) o ≡ [])
        entry = sole c d s a b (D.Create o b k) h o (equals o) placed.sender

        silent : (p q : ℕ) → letters l (moved (a, b) d) p q ≡ letters l d p q
        silent p q = letters_moved l fit.ways d p q (a, b) (D.Create o b k) h refl

        -- the creator is posted at this new
        on : g.kind o placed.sender.0 ≡ K.New k → held d o ≡ Some D.Posted → b ≢ node_of o → g.fault placed.sender.0 ≡ None
            → Nearly g W law l fit.ways b c (received g l c (moved (a, b) d) b (D.Create o b k))
        on kind i far sane =
            let y = law.can_make c o placed.sender.0 k s.state.typed placed.sender.1 kind in
            let v : Value = V.Ref (next_name c b) in
            let new : Packet = D.Created o (next_name c b) in
            let gv = law.given_name c o placed.sender.0 k (next_name c b) s.state.typed placed.sender.1 kind (next_free g l c d b (shape_of g l W c d s.state) (few g W law l fit c d b s)) in
            let p = posts_silent l fit.ways c (moved (a, b) d) (packets_left c d s a b (D.Create o b k) h) s.state.arrivals (λ p q. subst CallsLast (sym (silent p q)) (s.state.order p q)) b o entry.1 placed.sender new (equals o)
            (λ q j. differ o q (λ e. j (sym e))) (record { sender = placed.sender; goal = (s.state.names o placed.sender).0; link = (fit.ways.link b (node_of o) inside (s.state.names o placed.sender).0 far); way = (far, refl); on_path = tt }) (λ p q. refl) in
            let e : Delay = hold o (D.Due v) (post l b (node_of o) new (moved (a, b) d)) in
            let h1 = holds g W law l fit c (moved (a, b) d) (post l b (node_of o) new (moved (a, b) d)) b o (Sent new) (D.Due v) p in
            let shifts : Shifts g l c d e o = record {
              held_others = h1.held_others;
              others = λ q j. h1.others q j ∙ moved_other (a, b) (D.Create o b k) d h q (differ o q (λ e. j (sym e)));
              packets = h1.packets;
              arrivals = h1.arrivals;
              lists = λ p q. h1.lists p q ∙ ap notes (silent p q);
              order = h1.order;
            } in
            let own : OwnedAt g o (Some (g.given placed.sender.0 v)) (held e o) (entries e o) =
            rw (find_put_same o (D.Due v) d.holding, p.own) ((gv.2, inr (next_name c b, refl, refl)), λ f j. absurd (let q = sym (gv.1 ∙ sane) ∙ j in cc)) in
            let r = made g W law l fit c d e b o placed.sender.0 y.0 k s placed.sender.1 sane kind y.1 inside shifts own in
            one_label g W law l fit.ways b c (L.New o (next_name c b) (id k)) _ e r.0 r.1
            (λ m j. let q = made_beside g W law l fit c d b o placed.sender.0 (g.given placed.sender.0 v) y.0 m s placed.sender.1 gv.0 j in
            let u = p.cells m j in let w = cells_moved c d s a b (D.Create o b k) h m in let t = (s.limits m).2 in
            (q.0, q.1, omega (arith, u, w, t)))

        at : (t : Option Holding) (q : Kind) → held d o ≡ t → g.kind o placed.sender.0 ≡ q → OwnedAt g o (Some placed.sender.0) (held d o) (Sent (D.Create o b k) ∷ [])
            → Nearly g W law l fit.ways b c (received g l c (moved (a, b) d) b (D.Create o b k))
        at None q i j w = absurd (let e = (rw i at w).0 in cc)
        at (Some D.Posted) (K.New class) i j w =
            let v : Owns o (Some D.Posted) (K.New class) (Sent (D.Create o b k) ∷ []) = (rw (i, j) at w).0 in
            let e = v.2 in
            let same : k ≡ class = cc in
            let goal : b ≡ v.0 = cc in
            on (j ∙ ap K.New (sym same)) i (λ f. v.1 (sym goal ∙ f)) (fine (g.fault placed.sender.0) refl)
          where
            fine : (t : Option Error) → g.fault placed.sender.0 ≡ t → t ≡ None
            fine None e = refl
            fine (Some f) e = absurd (let u = w.1 f e in let z = sym i ∙ u in cc)
        at (Some D.Posted) (K.Send r m args) i j w = absurd (let v : Owns o (Some D.Posted) (K.Send r m args) (Sent (D.Create o b k) ∷ []) = (rw (i, j) at w).0 in
            elim v as (λ u. ⊥) [ inl e ↦ cc | inr e ↦ cc ])
        at (Some D.Posted) _ i j w = absurd (let v = (rw (i, j) at w).0 in v)
        at (Some (D.Due v)) q i j w = absurd (let u : Owns o (Some (D.Due v)) (g.kind o placed.sender.0) (Sent (D.Create o b k) ∷ []) = (rw i at w).0 in
            elim u.1 as (λ u. ⊥) [ inl e ↦ cc | inr e ↦ let z = e.2 in cc ])

  -- a move of a link's head
  pub link_kept : (c : Config S) (d : Delay) (a b : ℕ) → IsSound g W l c d → After g W l c (link_move g l c d a b (first_of (on_link d.links (a, b))))
  link_kept c d a b s = by (first_of (on_link d.links (a, b))) refl
    where
      by : (f : Option Packet) → first_of (on_link d.links (a, b)) ≡ f → After g W l c (link_move g l c d a b f)
      by None h = (refl, s)
      by (Some x) h = within_after g W law l fit.ways b c (passed g l c (moved (a, b) d) b x) (goes (goal_node x == b) refl)
        where
          placed : IsPlaced l c ((a, b), x)
          placed = is c d s a b x h

          at_goal : (y : Packet) → x ≡ y → goal_node y ≡ b → Nearly g W law l fit.ways b c (received g l c (moved (a, b) d) b x)
          at_goal (D.Create o goal k) e g' = subst (λ (z : Packet). Nearly g W law l fit.ways b c (received g l c (moved (a, b) d) b z)) (sym (e ∙ ap (λ n. D.Create o n k) g'))
              (create_arrives c d s a b o k (subst (λ n. n < l.width * l.height) g' (subst (λ (z : Packet). goal_node z < l.width * l.height) e placed.goal)) (h ∙ ap Some (e ∙ ap (λ n. D.Create o n k) g')))
          at_goal (D.Created o name) e g' = subst (λ (z : Packet). Nearly g W law l fit.ways b c (received g l c (moved (a, b) d) b z)) (sym e) (created_kept c d s a b o name (h ∙ ap Some e))
          at_goal (D.Request o r m args) e g' = subst (λ (z : Packet). Nearly g W law l fit.ways b c (received g l c (moved (a, b) d) b z)) (sym e) (request_kept c d s a b o r m args g' (h ∙ ap Some e))
          at_goal (D.Result o v) e g' = subst (λ (z : Packet). Nearly g W law l fit.ways b c (received g l c (moved (a, b) d) b z)) (sym e) (result_kept c d s a b o v (h ∙ ap Some e))
          at_goal (D.Async o r m args) e g' = subst (λ (z : Packet). Nearly g W law l fit.ways b c (received g l c (moved (a, b) d) b z)) (sym e) (async_kept c d s a b o r m args g' (h ∙ ap Some e))

          goes : (t : Bool) → (goal_node x == b) ≡ t → Nearly g W law l fit.ways b c (passed g l c (moved (a, b) d) b x)
          goes true i = rw i (at_goal x refl (equal (goal_node x) b i))
          goes false i = rw i (pass_kept c d s a b x h (λ e. absurd (let j : (goal_node x == b) ≡ true = rw (← e) (equals b) in grind (arith, i, j))))
