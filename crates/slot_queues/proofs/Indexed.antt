-- What the mailbox sees of its queues after the message at an index of a slot was taken.
use Rattle.std.proofs.Common.{◌≡◌, ℕ, ◌+◌, ◌-◌, ◌<◌, ◌≤◌, List, [], ◌++◌, length, get_or, set, remove, slice_get, option_map, Some, refl, sym, ap, ◌∙◌, arith, length-append}
use Rattle.std.proofs.lemmas.List.{length-map, get_or-set_same}
use Rattle.std.proofs.lemmas.List.Edits.{remove-append_right}
use Rattle.run_types.specs.Tables.{Each}
use Rattle.cell_pool.specs.Lists.{with_list}
use Rattle.slot_queues.specs.declared.Message.{Message}
use Rattle.slot_queues.specs.declared.lanes.Stamped.{Stamped}
use Rattle.slot_queues.specs.declared.lanes.Lanes.{Lanes}
use Rattle.slot_queues.specs.Lanes.{shared, joined, in_order, of_slot, messages, box_in, boxes_in, rank_in, IsKept}
use Rattle.slot_queues.specs.Mail.{Mail, mail, box_of, with_box}
use Rattle.slot_queues.proofs.Joined.{joined_beyond}
use Rattle.slot_queues.proofs.Kept.{Changes, late_changes}
use Rattle.slot_queues.proofs.Ranks.{rank_same}
use Rattle.slot_queues.proofs.Removed.{early_length, message_at, without_at, changes_at}
use Rattle.slot_queues.proofs.Taken.{get_behind, get_message, remove_message}
use Rattle.slot_queues.proofs.Views.{IsSeen, seen, seen_view, seen_invariant, box_view}

module _ (old : Lanes) (objects to : ℕ) (k : IsKept old.pool.lists old.cells old.next objects) (slot : to < objects) (v : Mail Message) (e : mail (boxes_in old.pool.lists (shared old.cells) objects) old.pool.cells ≡ v)
    (place : ℕ) (within : place < length (box_of v to)) where
  abbrev l : List (List Stamped)
  l = old.pool.lists

  abbrev n : ℕ
  n = shared old.cells

  box_is : box_of v to ≡ box_in l n to
  box_is = box_view l n objects old.pool.cells to v e slot

  -- ---- from the late queue

  module _ (r : ℕ) (is : r ≡ rank_in to old.next (joined n l)) (behind : r ≤ place) where
    abbrev late : List Stamped
    late = get_or l (n + to) []

    abbrev early : List Message
    early = messages (in_order (of_slot to (joined n l)))

    early_is : length early ≡ r
    early_is = early_length l old.cells old.next objects to k slot [] ∙ sym is

    pub late_place_within : place - r < length late
    late_place_within = omega (arith, within, behind, early_is, ap length box_is, length-append early (messages late), length-map late (λ (x : Stamped). x.message))

    abbrev i : ℕ
    i = place - r

    box_at_late : (ys : List Stamped) → box_in (set l (n + to) ys) n to ≡ early ++ messages ys
    box_at_late ys =
        let less : n + to < length l = omega (arith, k.count, slot) in
        ap (λ z. messages (in_order (of_slot to z)) ++ messages (get_or (set l (n + to) ys) (n + to) [])) (joined_beyond n (n + to) l ys (omega arith)) ∙ ap (λ z. early ++ messages z) (get_or-set_same l (n + to) ys [] less)

    pub late_message : (m : Message) → option_map (λ (x : Stamped). x.message) (slice_get late i) ≡ Some m → slice_get (box_of v to) place ≡ Some m
    late_message m h =
        let at : place ≡ length early + i = omega (arith, early_is, behind) in
        ap (λ z. slice_get z place) box_is ∙ ap (slice_get (early ++ messages late)) at ∙ get_behind early (messages late) i ∙ get_message late i ∙ h

    module _ (new : Lanes) (h : new ≡ record old { pool = with_list old.pool (n + to) (remove late i) }) where
      abbrev m : List (List Stamped)
      m = set l (n + to) (remove late i)

      late_changed : Changes l m old.cells old.next objects to
      late_changed =
          let x = late_place_within in
          late_changes l old.cells old.next objects to k slot (remove late i)
          (omega (arith, ap length (box_at_late (remove late i)), length-append early (messages (remove late i)), length-append early (messages late), length-map (remove late i) (λ (y : Stamped). y.message), length-map late (λ (y : Stamped). y.message)))

      late_seen : IsSeen old new objects to (box_in m n to)
      late_seen = seen old new objects to (box_in m n to) m old.next late_changed refl (ap (λ (o : Lanes). o.pool.lists) h) (ap (λ (o : Lanes). o.pool.cells) h) (ap (λ (o : Lanes). o.cells) h) (ap (λ (o : Lanes). o.next) h)

      pub late_kept : old.pool.cells ≡ old.cells → (new.pool.cells ≡ new.cells) × IsKept new.pool.lists new.cells new.next objects
      late_kept g = seen_invariant old new objects to (box_in m n to) late_seen g

      pub late_boxes : mail (boxes_in new.pool.lists (shared new.cells) objects) new.pool.cells ≡ with_box v to (remove (box_of v to) place)
      late_boxes =
          seen_view old new objects to (box_in m n to) v late_seen e
          ∙ ap (with_box v to)
          (box_at_late (remove late i)
          ∙ ap (λ z. early ++ z) (remove_message late i)
          ∙ sym (remove-append_right early (messages late) r place early_is behind)
          ∙ ap (λ z. remove z place) (sym box_is))

  -- ---- from a shared queue

  module _ (f : ℕ × ℕ) (below : f.0 < n) (x : Stamped) (there : slice_get (get_or l f.0 []) f.1 ≡ Some x) (low : rank_in to x.stamp (joined n l) ≤ place) (high : place < rank_in to (x.stamp + 1) (joined n l)) where
    pub shared_message : (m : Message) → option_map (λ (y : Stamped). y.message) (slice_get (get_or l f.0 []) f.1) ≡ Some m → slice_get (box_of v to) place ≡ Some m
    shared_message m h = ap (λ z. slice_get z place) box_is ∙ message_at l old.cells old.next objects to k slot [] f.0 below f.1 x there place low high ∙ sym (ap (option_map (λ (y : Stamped). y.message)) there) ∙ h

    module _ (new : Lanes) (h : new ≡ record old { pool = with_list old.pool f.0 (remove (get_or l f.0 []) f.1); waiting = new.waiting }) where
      abbrev m_shared : List (List Stamped)
      m_shared = set l f.0 (remove (get_or l f.0 []) f.1)

      shared_seen : IsSeen old new objects to (box_in m_shared n to)
      shared_seen =
          seen old new objects to (box_in m_shared n to) m_shared old.next (changes_at l old.cells old.next objects to k slot [] f.0 below f.1 x there place low high) refl
          (ap (λ (o : Lanes). o.pool.lists) h) (ap (λ (o : Lanes). o.pool.cells) h) (ap (λ (o : Lanes). o.cells) h) (ap (λ (o : Lanes). o.next) h)

      pub shared_kept : old.pool.cells ≡ old.cells → (new.pool.cells ≡ new.cells) × IsKept new.pool.lists new.cells new.next objects
      shared_kept g = seen_invariant old new objects to (box_in m_shared n to) shared_seen g

      pub shared_boxes : mail (boxes_in new.pool.lists (shared new.cells) objects) new.pool.cells ≡ with_box v to (remove (box_of v to) place)
      shared_boxes =
          seen_view old new objects to (box_in m_shared n to) v shared_seen e
          ∙ ap (with_box v to) (without_at l old.cells old.next objects to k slot [] f.0 below f.1 x there place low high ∙ ap (λ z. remove z place) (sym box_is))

-- a message with the stamp is there
pub stamp_there : (to t place : ℕ) (xs : List Stamped) → Each (λ (x : Stamped). x.stamp ≡ t → ⊥) xs → rank_in to t xs ≤ place → place < rank_in to (t + 1) xs → ⊥
stamp_there to t place xs none low high = omega (arith, rank_same to t xs none, low, high)
