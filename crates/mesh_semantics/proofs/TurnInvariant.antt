-- The turns of an object keep a state consistent.
use Rattle.std.proofs.Common.{◌≡◌, ◌≢◌, ◌⊎◌, inl, inr, refl, sym, subst, ◌∙◌, IsTrue, ℕ, ◌*◌, ◌<◌, ◌≤◌, ◌==◌, List, [], ◌∷◌, Option, Some, None, Bool, true, false, nat_lt, arith}
use Rattle.std.specs.Ordering.{nat_cmp}
use Rattle.std.specs.FinMap.{is_sorted}
use Rattle.run_types.specs.declared.types.Value.{Value}
use Rattle.run_types.specs.declared.types.Item.{Item}
use Rattle.run_types.specs.declared.types.Error.{Error}
use Rattle.run_types.specs.declared.types.Label.{Label}
use Rattle.run_types.specs.declared.types.Label.TheVariants as L
use Rattle.run_types.specs.declared.types.Placement.{Placement}
use Rattle.run_types.proofs.Laws.{equal, equals, decide, find_put_same, find_put_other, item_itself, error_itself}
use Rattle.mesh_semantics.specs.Kind as K
use Rattle.mesh_semantics.specs.Kind.{Kind, Alternative, is_local, alternatives, is_plain}
use Rattle.mesh_semantics.specs.Language.{Language}
use Rattle.mesh_semantics.specs.Config.{Config, object_of, put_object}
use Rattle.mesh_semantics.specs.Moves.{move, moves, numbered, can_pick}
use Rattle.mesh_semantics.specs.Delay as D
use Rattle.mesh_semantics.specs.Delay.{Packet, Arrival, Holding, Delay, post, arrive, held, hold, free, count_made, stepped_last, cell_count}
use Rattle.run_types.specs.ObjectNames.{node_of}
use Rattle.mesh_semantics.specs.Act.{Acted, Acts, Full, Nothing, within, shows, labelled, object_count, frame_count, call_turn}
use Rattle.mesh_semantics.specs.Sound.{Entry, Sent, Called, entries, call_by, Owns, OwnedAt, IsThere, Consistent, IsWithin, IsSound}
use Rattle.run_types.specs.PathFacts.{Ways}
use Rattle.mesh_semantics.specs.Lawful.{Lawful}
use Rattle.mesh_semantics.specs.EventSoundness.{After}
use Rattle.mesh_semantics.specs.Record.{shown}
use Rattle.mesh_semantics.proofs.ObjectChange.{there_put, runs, placed_grow, arrivals_grow, count_put, frames_elsewhere, names_put}
use Rattle.mesh_semantics.proofs.PostedPackets.{Posts, posts_request, posts_call}

not_over : (a b : ℕ) → nat_lt a b ≡ false → b ≤ a
not_over a b h = grind (arith, h)

module _ {S : Type 0} (g : Language S) (W : Config S → Type 0) (law : Lawful g W) (l : Placement) (w : Ways l) where
  -- what is after a step of the node n, before the limits of n are asked
  abbrev pub Nearly : ℕ → Config S → Acted S → Type 0
  Nearly n c (Acts what e f) = (moves g c (shown what) ≡ Some e) × Consistent g W l e f × ((m : ℕ) → m ≢ n → IsWithin g l e f m)
  Nearly n c (Full kind m) = Unit {0}
  Nearly n c Nothing = ⊥

  pub within_after : (n : ℕ) (c : Config S) (a : Acted S) → Nearly n c a → After g W l c (within g l n a)
  within_after n c Nothing h = h
  within_after n c (Full kind m) h = tt
  within_after n c (Acts what e f) h = by (nat_lt l.objects (object_count e n)) (nat_lt l.frames (frame_count g e n)) (nat_lt l.cells (cell_count f n)) refl refl refl
    where
      at : (nat_lt l.objects (object_count e n) ≡ false) → (nat_lt l.frames (frame_count g e n) ≡ false) → (nat_lt l.cells (cell_count f n) ≡ false)
          → (m : ℕ) → (m ≡ n) ⊎ (m ≢ n) → IsWithin g l e f m
      at i j k m (inl s) = subst (IsWithin g l e f) (sym s) (not_over _ _ i, not_over _ _ j, not_over _ _ k)
      at i j k m (inr s) = h.2 m s

      by : (t u v : Bool) → nat_lt l.objects (object_count e n) ≡ t → nat_lt l.frames (frame_count g e n) ≡ u → nat_lt l.cells (cell_count f n) ≡ v
          → After g W l c (within g l n (Acts what e f))
      by true u v i j k = rw i tt
      by false true v i j k = rw (i, j) tt
      by false false true i j k = rw (i, j, k) tt
      by false false false i j k = rw (i, j, k) (h.0, record { state = h.1; limits = λ m. at i j k m (decide m n) })

  -- the object that steps
  pub record Acting (c : Config S) (d : Delay) (n o : ℕ) (x : S) : Type 0 where
    pub found : object_of c o ≡ Some x
    pub at : node_of o ≡ n
    pub free : held d o ≡ None
    pub sane : g.fault x ≡ None

  pub owned_is : (c : Config S) (d : Delay) (o : ℕ) (x : S) (t : Option Holding) → Consistent g W l c d → object_of c o ≡ Some x → held d o ≡ t → OwnedAt g o (Some x) t (entries d o)
  owned_is c d o x t s f h = subst (λ (z : Option S). OwnedAt g o z t (entries d o)) f (subst (λ (z : Option Holding). OwnedAt g o (object_of c o) z (entries d o)) h (s.owned o))

  pub owns_nothing : (c : Config S) (d : Delay) (o : ℕ) (x : S) → Consistent g W l c d → object_of c o ≡ Some x → held d o ≡ None → entries d o ≡ []
  owns_nothing c d o x s f h = (owned_is c d o x None s f h).0

  -- a free object becomes another one
  pub own_change : (c : Config S) (d : Delay) (o : ℕ) (x y : S) → Consistent g W l c d → object_of c o ≡ Some x → held d o ≡ None
      → W (put_object c o y) → Consistent g W l (put_object c o y) d
  own_change c d o x y s f h k = record {
    typed = k;
    names = names_put g l c o x y (law.sorted c s.typed) f s.names;
    owned = λ q. at q (decide q o);
    packets = placed_grow g l c (put_object c o y) (there_put g c o y) d.links s.packets;
    arrivals = arrivals_grow g c (put_object c o y) (there_put g c o y) d.arrived s.arrivals;
    lists = s.lists;
    order = s.order;
  }
    where
      mine : OwnedAt g o (object_of (put_object c o y) o) (held d o) (entries d o)
      mine = rw (find_put_same o y c.objects, h) (owns_nothing c d o x s f h, λ e i. refl)

      at : (q : ℕ) → (q ≡ o) ⊎ (q ≢ o) → OwnedAt g q (object_of (put_object c o y) q) (held d q) (entries d q)
      at q (inl e) = subst (λ n. OwnedAt g n (object_of (put_object c o y) n) (held d n) (entries d n)) (sym e) mine
      at q (inr e) = rw (find_put_other q o y c.objects e) (s.owned q)

  pub own_elsewhere : (c : Config S) (d : Delay) (o : ℕ) (x y : S) → IsTrue (is_sorted nat_cmp c.objects) → object_of c o ≡ Some x → (m : ℕ) → m ≢ node_of o
      → IsWithin g l c d m → IsWithin g l (put_object c o y) d m
  own_elsewhere c d o x y s f m n h = (
    subst (λ k. k ≤ l.objects) (sym (count_put g c o x y m s f)) h.0,
    subst (λ k. k ≤ l.frames) (sym (frames_elsewhere g c o x y m s f n)) h.1,
    h.2,
  )

  -- a step that makes the transition of one label
  pub one_label : (n : ℕ) (c : Config S) (lab : Label) (e : Config S) (f : Delay) → move g c lab ≡ Some e → Consistent g W l e f
      → ((m : ℕ) → m ≢ n → IsWithin g l e f m) → Nearly n c (labelled g c lab f)
  one_label n c lab e f h s b = subst (λ z. Nearly n c (shows lab 1 f z)) (sym h) (rw h refl, s, b)

  -- a label that changes the acting object alone
  pub own_label : (c : Config S) (d : Delay) (n o : ℕ) (x y : S) (lab : Label) → IsSound g W l c d → Acting c d n o x → move g c lab ≡ Some (put_object c o y)
      → Nearly n c (labelled g c lab d)
  own_label c d n o x y lab s a h =
      one_label n c lab (put_object c o y) d h (own_change c d o x y s.state a.found a.free (law.kept c (put_object c o y) lab s.state.typed h))
      (λ m z. own_elsewhere c d o x y (law.sorted c s.state.typed) a.found m (λ i. z (i ∙ a.at)) (s.limits m))

  pub write_turn : (c : Config S) (d : Delay) (n o : ℕ) (x : S) (item : Item) → IsSound g W l c d → Acting c d n o x → g.kind o x ≡ K.Write item
      → Nearly n c (labelled g c (L.Write o item) d)
  write_turn c d n o x item s a k = own_label c d n o x (g.done x) (L.Write o item) s a (rw (runs g c o x a.found a.sane, k, item_itself item) refl)

  pub fault_turn : (c : Config S) (d : Delay) (n o : ℕ) (x : S) (e : Error) → IsSound g W l c d → Acting c d n o x → g.kind o x ≡ K.Fault e
      → Nearly n c (labelled g c (L.Fault o e) d)
  fault_turn c d n o x e s a k = own_label c d n o x (g.faulted x e) (L.Fault o e) s a (rw (runs g c o x a.found a.sane, k, error_itself e) refl)

  pub pick_turn : (c : Config S) (d : Delay) (n o : ℕ) (x : S) (alts : List Alternative) (i : ℕ) → IsSound g W l c d → Acting c d n o x → g.kind o x ≡ K.Select alts
      → can_pick (numbered alts i) ≡ true → Nearly n c (labelled g c (L.Pick o i) d)
  pick_turn c d n o x alts i s a k h = own_label c d n o x (g.picked o x i) (L.Pick o i) s a (rw (runs g c o x a.found a.sane, k, h) refl)

  -- an entry has come on its way, and its owner is posted
  pub posted : (c : Config S) (d e : Delay) (n o : ℕ) (x : S) (entry : Entry) → IsSound g W l c d → Acting c d n o x → Posts l c d e n o entry
      → Owns o (Some D.Posted) (g.kind o x) (entry ∷ []) → Consistent g W l c (hold o D.Posted e) × ((m : ℕ) → m ≢ n → IsWithin g l c (hold o D.Posted e) m)
  posted c d e n o x entry s a p own = (
    record {
      typed = s.state.typed;
      names = s.state.names;
      owned = λ q. at q (decide q o);
      packets = p.packets;
      arrivals = p.arrivals;
      lists = λ r q. s.state.lists r q ∙ sym (p.lists r q);
      order = p.order;
    },
    λ m z. let h = s.limits m in (h.0, h.1, subst (λ k. k ≤ l.cells) (sym (p.cells m z)) h.2),
  )
    where
      mine : OwnedAt g o (object_of c o) (held (hold o D.Posted e) o) (entries e o)
      mine = rw (a.found, find_put_same o D.Posted e.holding, p.own) (own, λ f i. absurd (let j = sym a.sane ∙ i in cc))

      at : (q : ℕ) → (q ≡ o) ⊎ (q ≢ o) → OwnedAt g q (object_of c q) (held (hold o D.Posted e) q) (entries e q)
      at q (inl i) = subst (λ n. OwnedAt g n (object_of c n) (held (hold o D.Posted e) n) (entries e n)) (sym i) mine
      at q (inr i) = rw (find_put_other q o D.Posted e.holding i, p.others q i, p.holding) (s.state.owned q)

  pub call_posted : (c : Config S) (d : Delay) (n o : ℕ) (x : S) (b m : ℕ) (args : List Value) → IsSound g W l c d → Acting c d n o x → g.kind o x ≡ K.Send b m args
      → Nearly n c (call_turn l c d n o b m args)
  call_posted c d n o x b m args s a k = by (node_of b == n) refl
    where
      there : IsThere c o
      there = (x, a.found)

      inside : node_of b < l.width * l.height
      inside = let r = law.can_call c o x b m args s.state.typed a.found k in (s.state.names b (r.0, r.1)).0

      here : n < l.width * l.height
      here = subst (λ z. z < l.width * l.height) a.at (s.state.names o there).0

      nothing : entries d o ≡ []
      nothing = owns_nothing c d o x s.state a.found a.free

      by : (t : Bool) → (node_of b == n) ≡ t → Nearly n c (call_turn l c d n o b m args)
      by true i =
          let p = posts_call l w c d s.state.packets s.state.arrivals s.state.order n o nothing there b m args (sym a.at) inside (sym (equal (node_of b) n i)) in
          let q = posted c d (arrive b (call_by o m args) d) n o x (Called b (call_by o m args)) s a p (rw k (inr refl)) in
          rw i (refl, q.0, q.1)
      by false i =
          let p = posts_request l w c d s.state.packets s.state.arrivals s.state.order n o nothing there b m args (sym a.at) here inside
          (λ e. absurd (let j : (node_of b == n) ≡ true = rw e (equals (node_of b)) in grind (arith, i, j))) in
          let q = posted c d (post l n (node_of b) (D.Request o b m args) d) n o x (Sent (D.Request o b m args)) s a p (rw k (inl refl)) in
          rw i (refl, q.0, q.1)
