-- What the mailbox sees of its queues, before and after a call.
use Rattle.std.proofs.Common.{◌≡◌, ℕ, zero, suc, ◌+◌, ◌<◌, ◌≤◌, Bool, true, false, ◌⊎◌, inl, inr, List, [], ◌∷◌, ◌++◌, length, get_or, set, drop, position, remove, slice_get, MatchOption, Option, Some, None, is_some, option_map, OnOk, IfErr, Result, Ok, Err, refl, sym, ap, ◌∙◌, subst, arith, length-append}
use Rattle.std.proofs.lemmas.List.{length-map}
use Rattle.std.proofs.lemmas.Option.{slice_get_within}
use Rattle.run_types.specs.declared.types.NameId.{NameId}
use Rattle.cell_pool.specs.Lists.{with_list}
use Rattle.slot_queues.specs.declared.Message.{Message}
use Rattle.slot_queues.specs.declared.lanes.Stamped.{Stamped}
use Rattle.slot_queues.specs.declared.lanes.Lanes.{Lanes}
use Rattle.slot_queues.specs.Lanes.{shared, joined, in_order, of_slot, messages, box_in, boxes_in, rank_in, sizes, IsEarliest, IsFound, IsNone, IsKept, Named}
use Rattle.slot_queues.specs.Mail.{Mail, mail, box_of, with_box, is_named, IsTaken}
use Rattle.slot_queues.specs.Posted.{InShared, InLate, stamped}
use Rattle.slot_queues.proofs.Joined.{each_both}
use Rattle.slot_queues.proofs.Kept.{box_at, boxes_length, Changes, posted_shared, posted_late}
use Rattle.slot_queues.proofs.Places.{position_none, none_passes}
use Rattle.slot_queues.proofs.Removed.{taken_shared, taken_late, early_none, place_shared, early_length}
use Rattle.slot_queues.proofs.Taken.{Takes, each_message, place_late, late_below}

pub slot_below : (l : List (List Stamped)) (n objects c to : ℕ) (v : Mail Message) → mail (boxes_in l n objects) c ≡ v → to < length v.boxes → to < objects
slot_below l n objects c to v e h = omega (arith, h, ap (λ (w : Mail Message). length w.boxes) e, boxes_length l n objects)

pub queue_below : (l : List (List Stamped)) (cells next objects c to : ℕ) (v : Mail Message) → IsKept l cells next objects → mail (boxes_in l (shared cells) objects) c ≡ v → to < length v.boxes → shared cells + to < length l
queue_below l cells next objects c to v k e h = omega (arith, slot_below l (shared cells) objects c to v e h, k.count)

pub box_view : (l : List (List Stamped)) (n objects c to : ℕ) (v : Mail Message) → mail (boxes_in l n objects) c ≡ v → to < objects → box_of v to ≡ box_in l n to
box_view l n objects c to v e slot = ap (λ (w : Mail Message). box_of w to) (sym e) ∙ box_at l n objects to slot

view_set : (b b' : List (List Message)) (c c' to : ℕ) (xs : List Message) (v : Mail Message) → b' ≡ set b to xs → c' ≡ c → mail b c ≡ v → mail b' c' ≡ with_box v to xs
view_set b b' c c' to xs v e f g = ap (λ z. mail z c') e ∙ ap (mail (set b to xs)) f ∙ ap (λ (w : Mail Message). with_box w to xs) g

-- the new queues are kept, and are seen with another box
pub record IsSeen (old new : Lanes) (objects to : ℕ) (xs : List Message) : Type 0 where
  pub kept : IsKept new.pool.lists new.cells new.next objects
  pub same : (new.pool.cells ≡ old.pool.cells) × (new.cells ≡ old.cells)
  pub boxes : boxes_in new.pool.lists (shared new.cells) objects ≡ set (boxes_in old.pool.lists (shared old.cells) objects) to xs

pub seen : (old new : Lanes) (objects to : ℕ) (xs : List Message) (m : List (List Stamped)) (next : ℕ) → Changes old.pool.lists m old.cells next objects to → box_in m (shared old.cells) to ≡ xs
    → new.pool.lists ≡ m → new.pool.cells ≡ old.pool.cells → new.cells ≡ old.cells → new.next ≡ next → IsSeen old new objects to xs
seen old new objects to xs m next h is e f g j =
    let K : List (List Stamped) → ℕ → ℕ → Type 0 = λ l c t. IsKept l c t objects in record {
      kept = subst (λ l. K l new.cells new.next) (sym e) (subst (λ c. K m c new.next) (sym g) (subst (λ t. K m old.cells t) (sym j) h.kept));
      same = (f, g);
      boxes = ap (λ l. boxes_in l (shared new.cells) objects) e ∙ ap (λ c. boxes_in m (shared c) objects) g ∙ h.boxes ∙ ap (λ z. set (boxes_in old.pool.lists (shared old.cells) objects) to z) is;
    }

pub seen_view : (old new : Lanes) (objects to : ℕ) (xs : List Message) (v : Mail Message) → IsSeen old new objects to xs → mail (boxes_in old.pool.lists (shared old.cells) objects) old.pool.cells ≡ v
    → mail (boxes_in new.pool.lists (shared new.cells) objects) new.pool.cells ≡ with_box v to xs
seen_view old new objects to xs v s e = view_set (boxes_in old.pool.lists (shared old.cells) objects) (boxes_in new.pool.lists (shared new.cells) objects) old.pool.cells new.pool.cells to xs v s.boxes s.same.0 e

pub seen_invariant : (old new : Lanes) (objects to : ℕ) (xs : List Message) → IsSeen old new objects to xs → old.pool.cells ≡ old.cells → (new.pool.cells ≡ new.cells) × IsKept new.pool.lists new.cells new.next objects
seen_invariant old new objects to xs s e = (s.same.0 ∙ e ∙ sym s.same.1, s.kept)

-- ---- a message was posted

module _ (old new : Lanes) (objects to : ℕ) (message : Message) (k : IsKept old.pool.lists old.cells old.next objects) (slot : to < objects) where
  abbrev first : List (List Stamped)
  first = old.pool.lists

  abbrev pub longer : List Message
  longer = box_in first (shared old.cells) to ++ message ∷ []

  pub posted : InShared old new to message ⊎ InLate old new to message → IsSeen old new objects to longer
  posted (inl s) =
      let p = posted_shared first old.cells old.next objects to k slot (stamped old to message) refl s.queue s.from s.end s.within s.holds s.none_late refl in
      seen old new objects to longer (set first s.queue (get_or first s.queue [] ++ stamped old to message ∷ [])) (old.next + 1) p.0 p.1 (ap (λ q. q.lists) s.pool) (ap (λ q. q.cells) s.pool) s.cells s.next
  posted (inr s) =
      let j : ℕ = shared old.cells + to in let p = posted_late first old.cells old.next objects to k slot (stamped old to message) refl in
      seen old new objects to longer (set first j (get_or first j [] ++ stamped old to message ∷ [])) old.next p.0 p.1 (ap (λ q. q.lists) s.pool) (ap (λ q. q.cells) s.pool) s.cells s.next

  pub posted_invariant : (r : Result (Unit {0}) Message) → OnOk r (InShared old new to message ⊎ InLate old new to message) → IfErr r (λ back. (back ≡ message) × (new ≡ old)) → old.pool.cells ≡ old.cells
      → (new.pool.cells ≡ new.cells) × IsKept new.pool.lists new.cells new.next objects
  posted_invariant (Ok u) ok err e = seen_invariant old new objects to longer (posted ok) e
  posted_invariant (Err back) ok err e = subst (λ (o : Lanes). (o.pool.cells ≡ o.cells) × IsKept o.pool.lists o.cells o.next objects) (sym err.1) (e, k)

  pub posted_view : (r : Result (Unit {0}) Message) → OnOk r (InShared old new to message ⊎ InLate old new to message) → (v : Mail Message) → mail (boxes_in first (shared old.cells) objects) old.pool.cells ≡ v
      → OnOk r (mail (boxes_in new.pool.lists (shared new.cells) objects) new.pool.cells ≡ with_box v to (box_of v to ++ message ∷ []))
  posted_view (Ok u) ok v e = seen_view old new objects to longer v (posted ok) e ∙ ap (λ z. with_box v to (z ++ message ∷ [])) (sym (box_view first (shared old.cells) objects old.pool.cells to v e slot))
  posted_view (Err back) ok v e = tt

-- ---- a message was taken

size_at : {X : Type 0} (xss : List (List X)) (i : ℕ) → length (get_or xss i []) ≤ sizes xss
size_at [] i = omega arith
size_at (xs ∷ xss) zero = omega arith
size_at (xs ∷ xss) (suc i) = omega (arith, size_at xss i)

is_taken : (v new : Mail Message) (names : List NameId) (to : ℕ) (r : Option Message) (m : Message) (box rest : List Message) → Takes (λ (y : Message). is_named names y.method) box m rest → box_of v to ≡ box → r ≡ Some m
    → new ≡ with_box v to rest → IsTaken names v to r new
is_taken v new names to r m box rest t is e f =
    let p : Message → Bool = λ y. is_named names y.method in
    subst (λ o. MatchOption o ((r ≡ None) × (new ≡ v)) (λ place. (y : Message) × (r ≡ Some y) × (slice_get (box_of v to) place ≡ Some y) × (new ≡ with_box v to (remove (box_of v to) place)))) (sym (ap (position p) is ∙ t.at))
    (m, e, ap (λ z. slice_get z t.place) is ∙ t.is, f ∙ ap (with_box v to) (t.others ∙ ap (λ z. remove z t.place) (sym is)))

module _ (old : Lanes) (objects to : ℕ) (k : IsKept old.pool.lists old.cells old.next objects) (slot : to < objects) (names : List NameId) where
  abbrev l : List (List Stamped)
  l = old.pool.lists

  abbrev n : ℕ
  n = shared old.cells

  abbrev p : Message → Bool
  p y = is_named names y.method

  abbrev Wanted : ℕ → Stamped → Type 0
  Wanted = Named to names

  pub within : (b : ℕ × ℕ) → IsEarliest l n Wanted b → b.0 < length l
  within b best = let w = best.within in omega (arith, w, k.count)

  -- it is taken from a shared queue
  module _ (b : ℕ × ℕ) (best : IsEarliest l n Wanted b) (new : Lanes) (is : new ≡ record old { pool = with_list old.pool b.0 (drop 1 (get_or l b.0 [])); waiting = new.waiting }) where
    pop_seen : IsSeen old new objects to (box_in (set l b.0 best.rest) n to)
    pop_seen =
        seen old new objects to (box_in (set l b.0 best.rest) n to) (set l b.0 best.rest) old.next (taken_shared l old.cells old.next objects to k slot names b best).1 refl
        (ap (λ (o : Lanes). o.pool.lists) is ∙ ap (λ z. set l b.0 (drop 1 z)) best.is) (ap (λ (o : Lanes). o.pool.cells) is) (ap (λ (o : Lanes). o.cells) is) (ap (λ (o : Lanes). o.next) is)

    pub pop_invariant : old.pool.cells ≡ old.cells → (new.pool.cells ≡ new.cells) × IsKept new.pool.lists new.cells new.next objects
    pop_invariant h = seen_invariant old new objects to (box_in (set l b.0 best.rest) n to) pop_seen h

    pub pop_taken : (r : Option Message) → r ≡ option_map (λ (x : Stamped). x.message) (slice_get (get_or l b.0 []) 0) → (v : Mail Message) → mail (boxes_in l n objects) old.pool.cells ≡ v
        → IsTaken names v to r (mail (boxes_in new.pool.lists (shared new.cells) objects) new.pool.cells)
    pop_taken r f v g =
        is_taken v (mail (boxes_in new.pool.lists (shared new.cells) objects) new.pool.cells) names to r best.first.message (box_in l n to) (box_in (set l b.0 best.rest) n to)
        (taken_shared l old.cells old.next objects to k slot names b best).0 (box_view l n objects old.pool.cells to v g slot) (f ∙ ap (λ z. option_map (λ (x : Stamped). x.message) (slice_get z 0)) best.is)
        (seen_view old new objects to (box_in (set l b.0 best.rest) n to) v pop_seen g)

  pub first_shared : (b : ℕ × ℕ) → IsEarliest l n Wanted b → (v : Mail Message) → mail (boxes_in l n objects) old.pool.cells ≡ v → (r : ℕ) → r ≡ rank_in to b.1 (joined n l) → Some r ≡ position p (box_of v to)
  first_shared b best v g r h = ap Some h ∙ sym (ap (position p) (box_view l n objects old.pool.cells to v g slot) ∙ place_shared l old.cells old.next objects to k slot names b best)

  -- it is taken from the late queue
  module _ (none : IsNone l n Wanted) where
    pub late_within : (i : ℕ) → Some i ≡ position (λ (x : Stamped). p x.message) (get_or l (n + to) []) → i < length (get_or l (n + to) [])
    late_within i f = let t = taken_late l old.cells old.next objects to k slot names none i (sym f) in slice_get_within (get_or l (n + to) []) i t.0 t.1

    module _ (i : ℕ) (f : Some i ≡ position (λ (x : Stamped). p x.message) (get_or l (n + to) [])) (new : Lanes) (is : new ≡ record old { pool = with_list old.pool (n + to) (remove (get_or l (n + to) []) i) }) where
      abbrev rest : List Message
      rest = box_in (set l (n + to) (remove (get_or l (n + to) []) i)) n to

      late_seen : IsSeen old new objects to rest
      late_seen =
          seen old new objects to rest (set l (n + to) (remove (get_or l (n + to) []) i)) old.next (taken_late l old.cells old.next objects to k slot names none i (sym f)).3 refl
          (ap (λ (o : Lanes). o.pool.lists) is) (ap (λ (o : Lanes). o.pool.cells) is) (ap (λ (o : Lanes). o.cells) is) (ap (λ (o : Lanes). o.next) is)

      pub late_invariant : old.pool.cells ≡ old.cells → (new.pool.cells ≡ new.cells) × IsKept new.pool.lists new.cells new.next objects
      late_invariant h = seen_invariant old new objects to rest late_seen h

      pub late_taken : (m : Message) → option_map (λ (x : Stamped). x.message) (slice_get (get_or l (n + to) []) i) ≡ Some m → (v : Mail Message) → mail (boxes_in l n objects) old.pool.cells ≡ v
          → IsTaken names v to (Some m) (mail (boxes_in new.pool.lists (shared new.cells) objects) new.pool.cells)
      late_taken m g v h =
          let t = taken_late l old.cells old.next objects to k slot names none i (sym f) in
          is_taken v (mail (boxes_in new.pool.lists (shared new.cells) objects) new.pool.cells) names to (Some m) t.0.message (box_in l n to) rest t.2 (box_view l n objects old.pool.cells to v h slot)
          (sym g ∙ ap (option_map (λ (x : Stamped). x.message)) t.1) (seen_view old new objects to rest v late_seen h)

    none_in_box : None ≡ position (λ (x : Stamped). p x.message) (get_or l (n + to) []) → position p (box_in l n to) ≡ None
    none_in_box f =
        position_none p (box_in l n to)
        (each_both (λ y. p y ≡ false) (messages (in_order (of_slot to (joined n l)))) (messages (get_or l (n + to) [])) (early_none l old.cells old.next objects to k slot names none)
        (each_message (λ y. p y ≡ false) (get_or l (n + to) []) (none_passes (λ (x : Stamped). p x.message) (get_or l (n + to) []) (sym f))))

    pub first_late : (i : ℕ) → Some i ≡ position (λ (x : Stamped). p x.message) (get_or l (n + to) []) → (v : Mail Message) → mail (boxes_in l n objects) old.pool.cells ≡ v → (r : ℕ) → r ≡ rank_in to old.next (joined n l)
        → Some (r + i) ≡ position p (box_of v to)
    first_late i f v g r h =
        ap (λ m. Some (m + i)) (h ∙ sym (early_length l old.cells old.next objects to k slot names))
        ∙ sym (ap (position p) (box_view l n objects old.pool.cells to v g slot) ∙ place_late p (messages (in_order (of_slot to (joined n l)))) (get_or l (n + to) []) i (early_none l old.cells old.next objects to k slot names none) (sym f))

    pub first_none : None ≡ position (λ (x : Stamped). p x.message) (get_or l (n + to) []) → (v : Mail Message) → mail (boxes_in l n objects) old.pool.cells ≡ v → None ≡ position p (box_of v to)
    first_none f v g = sym (ap (position p) (box_view l n objects old.pool.cells to v g slot) ∙ none_in_box f)

    pub place_fits : (i : ℕ) → Some i ≡ position (λ (x : Stamped). p x.message) (get_or l (n + to) []) → (r : ℕ) → r ≡ rank_in to old.next (joined n l) → r + i < sizes l
    place_fits i f r h =
        let early : List Message = messages (in_order (of_slot to (joined n l))) in let xs : List Stamped = get_or l (n + to) [] in
        omega (arith, late_below p xs i (sym f), h, early_length l old.cells old.next objects to k slot names, length-append early (messages xs), length-map xs (λ (x : Stamped). x.message), size_at (boxes_in l n objects) to, ap length (box_at l n objects to slot), k.sum)

    pub not_taken : None ≡ position (λ (x : Stamped). p x.message) (get_or l (n + to) []) → (v : Mail Message) → mail (boxes_in l n objects) old.pool.cells ≡ v → IsTaken names v to None v
    not_taken f v g =
        subst (λ o. MatchOption o ((◌≡◌ {A = Option Message} None None) × (v ≡ v)) (λ place. (y : Message) × (None ≡ Some y) × (slice_get (box_of v to) place ≡ Some y) × (v ≡ with_box v to (remove (box_of v to) place))))
        (sym (ap (position p) (box_view l n objects old.pool.cells to v g slot) ∙ none_in_box f)) (refl, refl)

    pub has_late : (v : Mail Message) → mail (boxes_in l n objects) old.pool.cells ≡ v → (r : Option ℕ) → r ≡ position (λ (x : Stamped). p x.message) (get_or l (n + to) []) → is_some r ≡ is_some (position p (box_of v to))
    has_late v g None f = sym (ap is_some (ap (position p) (box_view l n objects old.pool.cells to v g slot) ∙ none_in_box f))
    has_late v g (Some i) f =
        let t = taken_late l old.cells old.next objects to k slot names none i (sym f) in sym (ap is_some (ap (position p) (box_view l n objects old.pool.cells to v g slot) ∙ t.2.at))

  pub has_shared : (v : Mail Message) → mail (boxes_in l n objects) old.pool.cells ≡ v → (r : Option (ℕ × ℕ)) → IsFound l n Wanted r → is_some r ≡ true → true ≡ is_some (position p (box_of v to))
  has_shared v g None f h = cc
  has_shared v g (Some b) f h =
      let t = (taken_shared l old.cells old.next objects to k slot names b f).0 in sym (ap is_some (ap (position p) (box_view l n objects old.pool.cells to v g slot) ∙ t.at))

  pub has_none : (r : Option (ℕ × ℕ)) → IsFound l n Wanted r → is_some r ≡ false → IsNone l n Wanted
  has_none None f h = f
  has_none (Some b) f h = cc
