-- Turns that send a message, return a value, or take an arrived message.
use Rattle.std.proofs.Common.{◌≡◌, ◌≢◌, ◌⊎◌, inl, inr, refl, sym, ap, subst, ◌∙◌, IsTrue, ℕ, ◌*◌, ◌<◌, ◌≤◌, ◌==◌, List, [], ◌∷◌, ◌++◌, append-nil, Option, Some, None, Bool, true, false, ◌&&◌, arith}
use Rattle.std.specs.Ordering.{nat_cmp}
use Rattle.std.specs.FinMap.{find, is_sorted}
use Rattle.run_types.specs.declared.types.Value.{Value}
use Rattle.run_types.specs.declared.types.Error.{Error}
use Rattle.run_types.specs.declared.types.Label.TheVariants as L
use Rattle.run_types.specs.declared.types.Placement.{Placement}
use Rattle.run_types.proofs.Laws.{first, second, both, equal, equals, decide, differ, same_some, value_itself, values_itself, find_put_same, find_put_other, find_without_same, find_without_other, each_append}
use Rattle.mesh_semantics.specs.Kind as K
use Rattle.mesh_semantics.specs.Kind.{Kind, Alternative, has_name, answered, answers, alternatives}
use Rattle.mesh_semantics.specs.Language.{Language}
use Rattle.mesh_semantics.specs.Config.{Config, object_of, put_object, messages_of, put_messages}
use Rattle.mesh_semantics.specs.Moves.{move}
use Rattle.run_types.specs.Paths.{next, path}
use Rattle.mesh_semantics.specs.Delay as D
use Rattle.mesh_semantics.specs.Delay.{Packet, Arrival, Holding, Delay, post, arrive, is_for, take_arrival, arrived_at, held, hold, free, cell_count}
use Rattle.run_types.specs.ObjectNames.{node_of}
use Rattle.mesh_semantics.specs.Act.{id, labelled, send_turn, return_turn}
use Rattle.run_types.specs.Tables.{Each}
use Rattle.mesh_semantics.specs.Sound.{Entry, Sent, entries, is_wait, Owns, OwnedAt, letter_if, letters, notes, CallsLast, Has, IsThere, IsPlaced, Consistent, IsWithin, IsSound}
use Rattle.mesh_semantics.proofs.Fit.{Fit}
use Rattle.mesh_semantics.specs.Lawful.{Lawful}
use Rattle.mesh_semantics.proofs.MessageMaps.{messages_same, messages_other}
use Rattle.mesh_semantics.proofs.PathTraffic.{begins}
use Rattle.mesh_semantics.proofs.OwnedTraffic.{post_other, arrive_other}
use Rattle.mesh_semantics.proofs.PairTraffic.{letters_post, letters_here}
use Rattle.mesh_semantics.proofs.ObjectChange.{there_put, runs, placed_grow, arrivals_grow, count_put, frames_put, frames_elsewhere, names_put}
use Rattle.mesh_semantics.proofs.PostedPackets.{Posts, posts_silent, notes_append, note_last, note_alone, no_calls, cells_post, cells_arrive}
use Rattle.mesh_semantics.proofs.ObjectAndDelayChange.{Any, sorted_put, shape_of, of_shape, Shifts, unshifted, change}
use Rattle.mesh_semantics.proofs.TurnInvariant.{Nearly, Acting, owned_is, owns_nothing, own_elsewhere, one_label}

module _ {S : Type 0} (g : Language S) (W : Config S → Type 0) (law : Lawful g W) (l : Placement) (fit : Fit l) where
  -- a message of o to b has come on its way from the node n
  record Mails (c : Config S) (d e : Delay) (n o b m : ℕ) (args : List Value) : Type 0 where
    holding : e.holding ≡ d.holding
    same : (q : ℕ) → entries e q ≡ entries d q
    packets : Each (IsPlaced l c) e.links
    arrivals : Each (λ a. IsThere c a.1.sender) e.arrived
    letters : (s r : ℕ) → letters l e s r ≡ letters l d s r ++ letter_if (o == s && b == r) false m args
    cells : (z : ℕ) → z ≢ n → cell_count e z ≡ cell_count d z

  -- the list of the pair has one message more, and every other list is as it was
  note_sent : (c : Config S) (o b m : ℕ) (args : List Value) (s r : ℕ) (t : Bool) → (o == s && b == r) ≡ t
      → messages_of (put_messages c o b (messages_of c o b ++ record { method = m; args = args } ∷ [])) s r ≡ messages_of c s r ++ notes (letter_if t false m args)
  note_sent c o b m args s r true e =
      let i = equal o s (first (o == s) (b == r) e) in
      let j = equal b r (second (o == s) (b == r) e) in
      subst (λ z. messages_of (put_messages c o b (messages_of c o b ++ record { method = m; args = args } ∷ [])) z r ≡ messages_of c z r ++ record { method = m; args = args } ∷ []) i
      (subst (λ z. messages_of (put_messages c o b (messages_of c o b ++ record { method = m; args = args } ∷ [])) o z ≡ messages_of c o z ++ record { method = m; args = args } ∷ []) j
      (messages_same c o b (messages_of c o b ++ record { method = m; args = args } ∷ [])))
  note_sent c o b m args s r false e =
      messages_other c o b (messages_of c o b ++ record { method = m; args = args } ∷ []) s r (λ i j. absurd (
      let k : (o == s && b == r) ≡ true = both (o == s) (b == r) (rw i (equals o)) (rw j (equals b)) in grind (arith, e, k)))
      ∙ sym (append-nil (messages_of c s r))

  mailed : (c : Config S) (d e : Delay) (n o : ℕ) (x : S) (b m : ℕ) (args : List Value) → IsSound g W l c d → Acting g W law l fit.ways c d n o x → g.kind o x ≡ K.Async b m args
      → Mails c d e n o b m args → Nearly g W law l fit.ways n c (labelled g c (L.Send o b (id m) args) e)
  mailed c d e n o x b m args s a is h =
      let can = law.can_send c o x b m args s.state.typed a.found is in
      let c' : Config S = put_messages (put_object c o (g.done x)) o b (messages_of c o b ++ record { method = m; args = args } ∷ []) in
      let go : move g c (L.Send o b (id m) args) ≡ Some c' = rw (runs g c o x a.found a.sane, is, equals b, equals m, values_itself args, can.1) refl in
      one_label g W law l fit.ways n c (L.Send o b (id m) args) c' e go (record {
        typed = law.kept c c' (L.Send o b (id m) args) s.state.typed go;
        names = names_put g l c o x (g.done x) (law.sorted c s.state.typed) a.found s.state.names;
        owned = λ q. at q (decide q o);
        packets = placed_grow g l c c' (λ q t. there_put g c o (g.done x) q t) e.links h.packets;
        arrivals = arrivals_grow g c c' (λ q t. there_put g c o (g.done x) q t) e.arrived h.arrivals;
        lists = λ r q. note_sent (put_object c o (g.done x)) o b m args r q (o == r && b == q) refl
            ∙ ap (λ ms. ms ++ notes (letter_if (o == r && b == q) false m args)) (s.state.lists r q)
            ∙ sym (ap notes (h.letters r q) ∙ notes_append (letters l d r q) (letter_if (o == r && b == q) false m args));
        order = λ r q. subst CallsLast (sym (h.letters r q)) (ordered r q (o == r && b == q) refl);
      }) (λ z i. let q = own_elsewhere g W law l fit.ways c d o x (g.done x) (law.sorted c s.state.typed) a.found z (λ j. i (j ∙ a.at)) (s.limits z) in
      (q.0, q.1, subst (λ k. k ≤ l.cells) (sym (h.cells z i)) q.2))
    where
      nothing : entries d o ≡ []
      nothing = owns_nothing g W law l fit.ways c d o x s.state a.found a.free

      mine : OwnedAt g o (object_of (put_object c o (g.done x)) o) (held e o) (entries e o)
      mine = rw (find_put_same o (g.done x) c.objects, h.holding, a.free, h.same o) (nothing, λ f i. refl)

      at : (q : ℕ) → (q ≡ o) ⊎ (q ≢ o) → OwnedAt g q (object_of (put_object c o (g.done x)) q) (held e q) (entries e q)
      at q (inl i) = subst (λ z. OwnedAt g z (object_of (put_object c o (g.done x)) z) (held e z) (entries e z)) (sym i) mine
      at q (inr i) = rw (find_put_other q o (g.done x) c.objects i, h.holding, h.same q) (s.state.owned q)

      ordered : (r q : ℕ) (t : Bool) → (o == r && b == q) ≡ t → CallsLast (letters l d r q ++ letter_if t false m args)
      ordered r q true i =
          let j = equal o r (first (o == r) (b == q) i) in
          note_last (letters l d r q) (letter_if true false m args) (no_calls l d r q (subst (λ z. entries d z ≡ []) j nothing)) (note_alone true m args)
      ordered r q false i = subst CallsLast (sym (append-nil (letters l d r q))) (s.state.order r q)

  -- a turn that sends a message, here or by a packet
  pub send_kept : (c : Config S) (d : Delay) (n o : ℕ) (x : S) (b m : ℕ) (args : List Value) → IsSound g W l c d → Acting g W law l fit.ways c d n o x → g.kind o x ≡ K.Async b m args
      → Nearly g W law l fit.ways n c (send_turn g l c d n o b m args)
  send_kept c d n o x b m args s a is = by (node_of b == n) refl
    where
      inside : node_of b < l.width * l.height
      inside = let r = law.can_send c o x b m args s.state.typed a.found is in (s.state.names b (r.0, r.1)).0

      here : n < l.width * l.height
      here = subst (λ z. z < l.width * l.height) a.at (s.state.names o (x, a.found)).0

      arrival : Arrival
      arrival = record { sender = o; is_call = false; method = m; args = args }

      on : n ≢ node_of b → Has (path l (node_of o) (node_of b)) (n, next l n (node_of b))
      on far = let z = begins l fit.ways n (node_of b) here inside far in subst (λ q. Has (path l q (node_of b)) (n, next l n (node_of b))) (sym a.at) (rw z.is (inl refl))

      by : (t : Bool) → (node_of b == n) ≡ t → Nearly g W law l fit.ways n c (send_turn g l c d n o b m args)
      by true i =
          let near = equal (node_of b) n i in
          let z : Arrival = record { sender = o; is_call = false; method = m; args = args } in
          rw i (mailed c d (arrive b z d) n o x b m args s a is (record {
            holding = refl;
            same = λ q. arrive_other l d b z q refl;
            packets = s.state.packets;
            arrivals = each_append (λ y. IsThere c y.1.sender) d.arrived (b, z) s.state.arrivals (x, a.found);
            letters = λ r q. letters_here l fit.ways d r q b z inside (a.at ∙ sym near);
            cells = λ k j. cells_arrive b z d k (λ f. j (f ∙ near));
          }))
      by false i =
          let far : n ≢ node_of b = λ e. absurd (let j : (node_of b == n) ≡ true = rw e (equals (node_of b)) in grind (arith, i, j)) in
          let z : Packet = D.Async o b m args in
          rw i (mailed c d (post l n (node_of b) z d) n o x b m args s a is (record {
            holding = refl;
            same = λ q. post_other l d n (node_of b) z q refl;
            packets = each_append (IsPlaced l c) d.links ((n, next l n (node_of b)), z) s.state.packets (record { sender = (x, a.found); goal = inside; link = (fit.ways.link n (node_of b) here inside far); way = (far, refl); on_path = on far });
            arrivals = s.state.arrivals;
            letters = λ r q. letters_post l fit.ways d r q n z here inside far (λ f. sym a.at ∙ ap node_of (sym f));
            cells = λ k j. cells_post l n (node_of b) z d k j;
          }))

  -- what is held for an object whose entry has come on its way
  pub holds : (c : Config S) (d e : Delay) (n o : ℕ) (entry : Entry) (t : Holding) → Posts l c d e n o entry → Shifts g l c d (hold o t e) o
  holds c d e n o entry t p = record {
    held_others = λ q i. find_put_other q o t e.holding i ∙ ap (find nat_cmp q) p.holding;
    others = p.others;
    packets = p.packets;
    arrivals = p.arrivals;
    lists = p.lists;
    order = p.order;
  }

  -- an object at a wait is free
  waiter_free : (c : Config S) (d : Delay) (k : ℕ) (z : S) (b m : ℕ) → Consistent g W l c d → object_of c k ≡ Some z → g.kind k z ≡ K.Waits b m → held d k ≡ None
  waiter_free c d k z b m s f is = by (held d k) refl
    where
      by : (t : Option Holding) → held d k ≡ t → t ≡ None
      by None i = refl
      by (Some D.Posted) i = absurd (subst (λ (q : Kind). Owns k (Some D.Posted) q (entries d k)) is (owned_is g W law l fit.ways c d k z (Some D.Posted) s f i).0)
      by (Some (D.Due v)) i = absurd (
          let r = subst (λ (q : Kind). Owns k (Some (D.Due v)) q (entries d k)) is (owned_is g W law l fit.ways c d k z (Some (D.Due v)) s f i).0 in
          let q = r.0 in cc)

  pub not_fault : (c : Config S) (k : ℕ) (z : S) → W c → object_of c k ≡ Some z → ((e : Error) → g.kind k z ≢ K.Fault e) → g.fault z ≡ None
  not_fault c k z s f n = by (g.fault z) refl
    where
      by : (t : Option Error) → g.fault z ≡ t → t ≡ None
      by None i = refl
      by (Some e) i = absurd (n e (law.fault_kind c k z e s f i))

  -- a turn that gives a value back, here or by a packet
  pub return_kept : (c : Config S) (d : Delay) (n o : ℕ) (x : S) (k : ℕ) (v : Value) → IsSound g W l c d → Acting g W law l fit.ways c d n o x → g.kind o x ≡ K.Return k v
      → Nearly g W law l fit.ways n c (return_turn g l c d n o k v)
  return_kept c d n o x k v s a is = by (law.has_wait c o x k v s.state.typed a.found is)
    where
      by : (z : S) × (m : ℕ) × (object_of c k ≡ Some z) × (g.kind k z ≡ K.Waits o m) → Nearly g W law l fit.ways n c (return_turn g l c d n o k v)
      by (z, m, f, wait) = at (node_of k == n) refl
        where
          c1 : Config S
          c1 = put_object c o (g.returned x)

          sorted : IsTrue (is_sorted nat_cmp c.objects)
          sorted = law.sorted c s.state.typed

          apart : k ≢ o
          apart e = let q : Some z ≡ Some x = sym f ∙ ap (object_of c) e ∙ a.found in
              let i : z ≡ x = same_some q in
              let j : K.Waits o m ≡ K.Return k v = sym wait ∙ ap (g.kind k) i ∙ ap (λ b. g.kind b x) e ∙ is in cc

          free_k : held d k ≡ None
          free_k = waiter_free c d k z o m s.state f wait

          none : entries d k ≡ []
          none = owns_nothing g W law l fit.ways c d k z s.state f free_k

          sane : g.fault z ≡ None
          sane = not_fault c k z s.state.typed f (λ e i. let j : K.Waits o m ≡ K.Fault e = sym wait ∙ i in cc)

          after : Config S
          after = put_object (put_object c o (g.returned x)) k (g.given z v)

          go : move g c (L.Return o k v) ≡ Some (put_object (put_object c o (g.returned x)) k (g.given z v))
          go = rw (runs g c o x a.found a.sane, runs g c k z f sane, is, wait, equals k, value_itself v, equals o) refl

          shape : Consistent g Any l (put_object c o (g.returned x)) d
          shape = change g l c d d o x (g.returned x) (shape_of g l W c d s.state) sorted a.found (unshifted g l c d o (shape_of g l W c d s.state))
              (rw a.free (owns_nothing g W law l fit.ways c d o x s.state a.found a.free, λ e i. refl))

          still : object_of (put_object c o (g.returned x)) k ≡ Some z
          still = find_put_other k o (g.returned x) c.objects apart ∙ f

          given : (g.frames (g.given z v) ≡ g.frames z) × (g.fault (g.given z v) ≡ g.fault z) × (is_wait (g.kind k (g.given z v)) ≡ false)
          given = law.given_back c o k m x z v s.state.typed a.found is f wait

          beside : (e : Delay) → ((i : ℕ) → i ≢ n → cell_count e i ≡ cell_count d i) → (i : ℕ) → i ≢ n → IsWithin g l (put_object (put_object c o (g.returned x)) k (g.given z v)) e i
          beside e cells i j = (
            subst (λ q. q ≤ l.objects) (sym (count_put g (put_object c o (g.returned x)) k z (g.given z v) i (sorted_put c o (g.returned x) sorted) still ∙ count_put g c o x (g.returned x) i sorted a.found)) (s.limits i).0,
            subst (λ q. q ≤ l.frames) (sym (frames_put g (put_object c o (g.returned x)) k z (g.given z v) i (sorted_put c o (g.returned x) sorted) still given.0 ∙ frames_elsewhere g c o x (g.returned x) i sorted a.found (λ q. j (q ∙ a.at)))) (s.limits i).1,
            subst (λ q. q ≤ l.cells) (sym (cells i j)) (s.limits i).2,
          )

          finish : (e : Delay) → Shifts g l (put_object c o (g.returned x)) d e k → OwnedAt g k (Some (g.given z v)) (held e k) (entries e k) → ((i : ℕ) → i ≢ n → cell_count e i ≡ cell_count d i)
              → Nearly g W law l fit.ways n c (labelled g c (L.Return o k v) e)
          finish e h own cells = one_label g W law l fit.ways n c (L.Return o k v) (put_object (put_object c o (g.returned x)) k (g.given z v)) e go
              (of_shape g l W (put_object (put_object c o (g.returned x)) k (g.given z v)) e
              (change g l (put_object c o (g.returned x)) d e k z (g.given z v) shape (sorted_put c o (g.returned x) sorted) still h own)
              (law.kept c (put_object (put_object c o (g.returned x)) k (g.given z v)) (L.Return o k v) s.state.typed go))
              (beside e cells)

          at : (t : Bool) → (node_of k == n) ≡ t → Nearly g W law l fit.ways n c (return_turn g l c d n o k v)
          at true i = rw i (finish (free k d) (record {
            held_others = λ q j. find_without_other q k d.holding j;
            others = λ q j. refl;
            packets = shape.packets;
            arrivals = shape.arrivals;
            lists = λ p q. refl;
            order = shape.order;
          }) (rw (find_without_same k d.holding) (none, λ e j. refl)) (λ p j. refl))
          at false i =
              let far : n ≢ node_of k = λ e. absurd (let j : (node_of k == n) ≡ true = rw e (equals (node_of k)) in grind (arith, i, j)) in
              let there : IsThere (put_object c o (g.returned x)) k = (z, still) in
              let here : n < l.width * l.height = subst (λ m. m < l.width * l.height) a.at (s.state.names o (x, a.found)).0 in
              let p = posts_silent l fit.ways (put_object c o (g.returned x)) d shape.packets shape.arrivals shape.order n k none there (D.Result k v) (equals k)
              (λ q j. differ k q (λ u. j (sym u))) (record { sender = there; goal = (s.state.names k (z, f)).0; link = (fit.ways.link n (node_of k) here (s.state.names k (z, f)).0 far); way = (far, refl); on_path = tt }) (λ p q. refl) in
              rw i (finish (hold k (D.Due v) (post l n (node_of k) (D.Result k v) d))
              (holds (put_object c o (g.returned x)) d (post l n (node_of k) (D.Result k v) d) n k (Sent (D.Result k v)) (D.Due v) p)
              (rw (find_put_same k (D.Due v) d.holding, p.own) ((given.2, inl refl), λ e j. absurd (let q = sym (given.1 ∙ sane) ∙ j in cc)))
              p.cells)
