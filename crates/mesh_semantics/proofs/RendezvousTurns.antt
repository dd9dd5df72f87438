-- Turns that make an object, let two objects meet, or send a message.
use Rattle.std.proofs.Common.{◌≡◌, ◌≢◌, refl, sym, ap, subst, ◌∙◌, IsTrue, ℕ, ◌+◌, ◌*◌, ◌%◌, ◌<◌, ◌≤◌, ◌==◌, Option, Some, None, Bool, true, false, slice_get, arith}
use Rattle.std.specs.Ordering.{nat_cmp}
use Rattle.std.specs.FinMap.{is_sorted}
use Rattle.run_types.specs.declared.types.Value.{Value}
use Rattle.run_types.specs.declared.types.Value.TheVariants as V
use Rattle.run_types.specs.declared.types.Label.TheVariants as L
use Rattle.run_types.specs.declared.types.Place.{Place}
use Rattle.run_types.specs.declared.types.Place.TheVariants as Pl
use Rattle.run_types.specs.declared.types.Placement.{Placement}
use Rattle.run_types.proofs.Laws.{equals, differ, find_put_other}
use Rattle.mesh_semantics.specs.Kind as K
use Rattle.mesh_semantics.specs.Kind.{Kind, Alternative, answered, answers, alternatives}
use Rattle.mesh_semantics.specs.Language.{Language}
use Rattle.mesh_semantics.specs.Config.{Config, object_of, put_object}
use Rattle.mesh_semantics.specs.Moves.{move}
use Rattle.mesh_semantics.specs.Delay as D
use Rattle.mesh_semantics.specs.Delay.{Packet, Arrival, Holding, Delay, post, arrive, take_arrival, arrived_at, held, hold, free, made_by, count_made, cell_count}
use Rattle.mesh_semantics.specs.Act.{id, labelled, object_count, frame_count, next_name, class_place, goal_by, goal_of, create_turn}
use Rattle.mesh_semantics.specs.Sound.{Sent, entries, OwnedAt, Consistent, IsSound}
use Rattle.mesh_semantics.proofs.Fit.{Fit}
use Rattle.mesh_semantics.specs.Lawful.{Lawful}
use Rattle.mesh_semantics.proofs.ObjectChange.{runs, count_put, frames_put}
use Rattle.mesh_semantics.proofs.PostedPackets.{posts_silent}
use Rattle.mesh_semantics.proofs.ObjectAndDelayChange.{Any, shape_of, of_shape, Shifts, unshifted, change, next_free, add, counts_beside}
use Rattle.mesh_semantics.proofs.TurnInvariant.{Nearly, Acting, owns_nothing, one_label, posted}

module _ {S : Type 0} (g : Language S) (W : Config S → Type 0) (law : Lawful g W) (l : Placement) (fit : Fit l) where
  -- how many objects were made is told apart from all else
  pub after_count : (c : Config S) (d : Delay) (n k : ℕ) → Consistent g W l c d → Consistent g W l c (count_made n k d)
  after_count c d n k s = record { typed = s.typed; names = s.names; owned = s.owned; packets = s.packets; arrivals = s.arrivals; lists = s.lists; order = s.order }

  pub few : (c : Config S) (d : Delay) (n : ℕ) → IsSound g W l c d → object_count c n < 65536
  few c d n s = let a = (s.limits n).0 in let b = fit.objects in omega (arith, a, b)

  -- The object o is given the name of a new one, whatever else changes for o.
  pub made : (c : Config S) (d e : Delay) (n o : ℕ) (x y : S) (k : ℕ) → IsSound g W l c d → object_of c o ≡ Some x → g.fault x ≡ None → g.kind o x ≡ K.New k → g.made k ≡ Some y
      → n < l.width * l.height → Shifts g l c d e o → OwnedAt g o (Some (g.given x (V.Ref (next_name c n)))) (held e o) (entries e o)
      → (move g c (L.New o (next_name c n) (id k)) ≡ Some (put_object (put_object c o (g.given x (V.Ref (next_name c n)))) (next_name c n) y))
      × Consistent g W l (put_object (put_object c o (g.given x (V.Ref (next_name c n)))) (next_name c n) y) e
  made c d e n o x y k s f sane is born inside h own = (go, of_shape g l W _ e whole (law.kept c _ (L.New o (next_name c n) (id k)) s.state.typed go))
    where
      x' : S
      x' = g.given x (V.Ref (next_name c n))

      sorted : IsTrue (is_sorted nat_cmp c.objects)
      sorted = law.sorted c s.state.typed

      shape : Consistent g Any l c d
      shape = shape_of g l W c d s.state

      count : object_count (put_object c o (g.given x (V.Ref (next_name c n)))) n ≡ object_count c n
      count = count_put g c o x (g.given x (V.Ref (next_name c n))) n sorted f

      go : move g c (L.New o (next_name c n) (id k)) ≡ Some (put_object (put_object c o (g.given x (V.Ref (next_name c n)))) (next_name c n) y)
      go = let fr = next_free g l c d n shape (few c d n s) in rw (runs g c o x f sane, is, equals k, fr, born) refl

      first : Consistent g Any l (put_object c o (g.given x (V.Ref (next_name c n)))) e
      first = change g l c d e o x (g.given x (V.Ref (next_name c n))) shape sorted f h own

      same : next_name (put_object c o (g.given x (V.Ref (next_name c n)))) n ≡ next_name c n
      same = ap (λ m. n * 65536 + m) count

      whole : Consistent g Any l (put_object (put_object c o (g.given x (V.Ref (next_name c n)))) (next_name c n) y) e
      whole = subst (λ p. Consistent g Any l (put_object (put_object c o (g.given x (V.Ref (next_name c n)))) p y) e) same
          (add g l (put_object c o (g.given x (V.Ref (next_name c n)))) e n y first (let b = few c d n s in omega (arith, count, b)) inside)

  -- the counts of objects and frames at the other nodes, where o's frames are as many as before or o is of the node n
  pub made_beside : (c : Config S) (d : Delay) (n o : ℕ) (x x' y : S) (m : ℕ) → IsSound g W l c d → object_of c o ≡ Some x → g.frames x' ≡ g.frames x
      → m ≢ n → (object_count (put_object (put_object c o x') (next_name c n) y) m ≤ l.objects) × (frame_count g (put_object (put_object c o x') (next_name c n) y) m ≤ l.frames)
  made_beside c d n o x x' y m s f e i =
      let sorted = law.sorted c s.state.typed in
      let count = count_put g c o x x' n sorted f in
      let same : next_name (put_object c o x') n ≡ next_name c n = ap (λ k. n * 65536 + k) count in
      let b = few c d n s in
      let small : object_count (put_object c o x') n < 65536 = omega (arith, count, b) in
      let there : object_of (put_object c o x') (next_name (put_object c o x') n) ≡ None = free_name count in
      let r = counts_beside g l (put_object c o x') n y m small there i in
      let at : (q : ℕ) → q ≡ next_name c n → (object_count (put_object (put_object c o x') q y) m ≤ l.objects) × (frame_count g (put_object (put_object c o x') q y) m ≤ l.frames) =
      λ q j. let z : q ≡ next_name (put_object c o x') n = j ∙ sym same in
      subst (λ t. (object_count (put_object (put_object c o x') t y) m ≤ l.objects) × (frame_count g (put_object (put_object c o x') t y) m ≤ l.frames)) (sym z)
      (subst (λ t. t ≤ l.objects) (sym (r.0 ∙ count_put g c o x x' m sorted f)) (s.limits m).0, subst (λ t. t ≤ l.frames) (sym (r.1 ∙ frames_put g c o x x' m sorted f e)) (s.limits m).1) in
      at (next_name c n) refl
    where
      free_name : object_count (put_object c o x') n ≡ object_count c n → object_of (put_object c o x') (next_name (put_object c o x') n) ≡ None
      free_name count =
          let fr = next_free g l c d n (shape_of g l W c d s.state) (few c d n s) in
          let same : next_name (put_object c o x') n ≡ next_name c n = ap (λ k. n * 65536 + k) count in
          rw same (find_put_other (next_name c n) o x' c.objects (λ j. absurd (let z : object_of c (next_name c n) ≡ Some x = ap (object_of c) j ∙ f in let q = sym fr ∙ z in cc)) ∙ fr)

  -- a turn that makes an object at its own node
  pub new_turn : (c : Config S) (d : Delay) (n o : ℕ) (x : S) (k : ℕ) → IsSound g W l c d → Acting g W law l fit.ways c d n o x → g.kind o x ≡ K.New k
      → Nearly g W law l fit.ways n c (labelled g c (L.New o (next_name c n) (id k)) (count_made n k d))
  new_turn c d n o x k s a is =
      let y = law.can_make c o x k s.state.typed a.found is in
      let inside = subst (λ m. m < l.width * l.height) a.at (s.state.names o (x, a.found)).0 in
      let v : Value = V.Ref (next_name c n) in
      let e = law.given_name c o x k (next_name c n) s.state.typed a.found is (next_free g l c d n (shape_of g l W c d s.state) (few c d n s)) in
      let own : OwnedAt g o (Some (g.given x v)) (held d o) (entries d o) = rw a.free (owns_nothing g W law l fit.ways c d o x s.state a.found a.free, λ q r. refl) in
      let r = made c d d n o x y.0 k s a.found a.sane is y.1 inside (unshifted g l c d o (shape_of g l W c d s.state)) own in
      one_label g W law l fit.ways n c (L.New o (next_name c n) (id k)) _ (count_made n k d) r.0 (after_count _ d n k r.1)
      (λ m i. let b = made_beside c d n o x (g.given x v) y.0 m s a.found e.0 i in (b.0, b.1, (s.limits m).2))

  sound_count : (c : Config S) (d : Delay) (n k : ℕ) → IsSound g W l c d → IsSound g W l c (count_made n k d)
  sound_count c d n k s = record { state = after_count c d n k s.state; limits = s.limits }

  acting_count : (c : Config S) (d : Delay) (n k o : ℕ) (x : S) → Acting g W law l fit.ways c d n o x → Acting g W law l fit.ways c (count_made n k d) n o x
  acting_count c d n k o x a = record { found = a.found; at = a.at; free = a.free; sane = a.sane }

  below_rest : (a b : ℕ) → 0 < b → a % b < b
  below_rest a b h = grind (arith, h)

  goal_inside : (d : Delay) (n k : ℕ) (p : Option Place) (i : ℕ) → slice_get l.places i ≡ p → n < l.width * l.height → goal_by l d n k p < l.width * l.height
  goal_inside d n k None i e h = h
  goal_inside d n k (Some (Pl.At q)) i e h = fit.places i q e
  goal_inside d n k (Some Pl.Same) i e h = h
  goal_inside d n k (Some Pl.Spread) i e h = below_rest (n + made_by d n k) (l.width * l.height) fit.nodes

  -- a turn that makes an object, here or by a packet
  pub create_kept : (c : Config S) (d : Delay) (n o : ℕ) (x : S) (k : ℕ) → IsSound g W l c d → Acting g W law l fit.ways c d n o x → g.kind o x ≡ K.New k
      → Nearly g W law l fit.ways n c (create_turn g l c d n o k (goal_of g l d n k))
  create_kept c d n o x k s a is = by (goal_of g l d n k == n) refl
    where
      here : n < l.width * l.height
      here = subst (λ m. m < l.width * l.height) a.at (s.state.names o (x, a.found)).0

      goal : goal_of g l d n k < l.width * l.height
      goal = goal_inside d n k (slice_get l.places (class_place g.classes k)) (class_place g.classes k) refl here

      by : (t : Bool) → (goal_of g l d n k == n) ≡ t → Nearly g W law l fit.ways n c (create_turn g l c d n o k (goal_of g l d n k))
      by true i = rw i (new_turn c d n o x k s a is)
      by false i =
          let far : n ≢ goal_of g l d n k = λ e. absurd (let j : (goal_of g l d n k == n) ≡ true = rw (← e) (equals n) in grind (arith, i, j)) in
          let e = count_made n k d in
          let t = sound_count c d n k s in
          let b = acting_count c d n k o x a in
          let z : Packet = D.Create o (goal_of g l d n k) k in
          let p = posts_silent l fit.ways c e t.state.packets t.state.arrivals t.state.order n o (owns_nothing g W law l fit.ways c e o x t.state b.found b.free) (x, a.found) z (equals o)
          (λ q m. differ o q (λ f. m (sym f))) (record { sender = (x, a.found); goal = goal; link = (fit.ways.link n (goal_of g l d n k) here goal far); way = (far, refl); on_path = tt }) (λ u v. refl) in
          let q = posted g W law l fit.ways c e (post l n (goal_of g l d n k) z e) n o x (Sent z) t b p (rw is (goal_of g l d n k, λ f. far (sym a.at ∙ sym f), refl)) in
          rw i (refl, q.0, q.1)
