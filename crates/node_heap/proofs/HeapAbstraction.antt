-- Operations on the fields of a heap are the operations on the heap that contracts see.
use Rattle.std.proofs.Common.{◌≡◌, refl, sym, ◌∙◌, ap, subst, ℕ, ◌+◌, ◌-◌, ◌*◌, ◌<◌, ◌≤◌, List, [], ◌∷◌, ◌++◌, length, map, get_or, set, take, drop, slice_get, Some, arith, length-set}
use Rattle.std.specs.Vec.{vec_capacity, with_item}
use Rattle.std.proofs.lemmas.List.{length-take, length-map, get_or-set_same, set-set}
use Rattle.run_types.specs.declared.types.Value.{Value}
use Rattle.run_types.specs.declared.frames.Frame.{Frame}
use Rattle.run_types.specs.declared.frames.CodeObject.{CodeObject}
use Rattle.run_types.specs.Operands.{nth}
use Rattle.cell_pool.specs.Lists.{Pool, lengths, list_of, with_list, free_of}
use Rattle.node_heap.specs.declared.cells.FrameCell.{FrameCell}
use Rattle.node_heap.specs.declared.cells.Slot.{Slot}
use Rattle.node_heap.specs.declared.heap.Heap.TheInside.{Inside}
use Rattle.node_heap.specs.Heaps.{HeapOf, object_at, put_object, top_at, put_top, top_in, under_top, frames_used, nils, unbegun, body_frame}
use Rattle.node_heap.specs.Layout.{frame_of, object_of}
use Rattle.node_heap.specs.Parts.{heap_of, IsHeap}
use Rattle.node_heap.proofs.ArrayPrefix.{loaded_from}
use Rattle.node_heap.proofs.Objects.{length-objects, slots_within, has_frame, few_vars, in_row, object_is, objects-frames, laid-frames, objects-var, laid-var, all_frames, no_frames, objects-more, laid-more}

-- other queues of frames
abbrev pub with_queues : Inside → List (List FrameCell) → Inside
with_queues h qs = record h { frames = record h.frames { lists = qs } }

-- another value at a place of the row
abbrev pub with_value : Inside → ℕ → Value → Inside
with_value h i x = record h { values = with_item h.values i x }

-- the queue of a slot
abbrev pub queue_of : Inside → ℕ → List FrameCell
queue_of h slot = get_or h.frames.lists slot []

-- a slot without class and variables
abbrev pub no_slot : Slot
no_slot = record { class = 0; vars = 0 }

head_is : (cs : List FrameCell) (old : FrameCell) → slice_get cs 0 ≡ Some old → top_in (map frame_of cs) ≡ frame_of old
head_is [] old e = absurd cc
head_is (c ∷ cs) old e = let same : c ≡ old = cc in ap frame_of same

set_head : (cs : List FrameCell) (new : FrameCell) → 0 < length cs → map frame_of (set cs 0 new) ≡ frame_of new ∷ under_top (map frame_of cs)
set_head [] new h = absurd (omega arith)
set_head (c ∷ cs) new h = refl

without_head : (cs : List FrameCell) → map frame_of (drop 1 cs) ≡ under_top (map frame_of cs)
without_head [] = refl
without_head (c ∷ cs) = refl

length-without_head : (cs : List FrameCell) → length (drop 1 cs) ≡ length cs - 1
length-without_head [] = refl
length-without_head (c ∷ cs) = omega arith

-- a frame that came to the front, written anew
pub over_front : (p : Pool FrameCell) (q : ℕ) (old new : FrameCell) → q < length p.lists
    → with_list (with_list p q (old ∷ list_of p q)) q (set (list_of (with_list p q (old ∷ list_of p q)) q) 0 new) ≡ with_list p q (new ∷ list_of p q)
over_front p q old new h =
    ap (λ l. with_list (with_list p q (old ∷ list_of p q)) q (set l 0 new)) (get_or-set_same p.lists q (old ∷ list_of p q) [] h)
    ∙ ap (λ (ls : List (List FrameCell)). record p { lists = ls }) (set-set p.lists q (old ∷ list_of p q) (new ∷ list_of p q))

module _ (h : Inside) (ok : IsHeap h) (v : HeapOf) (e : heap_of h ≡ v) where
  pub count : length v.objects ≡ length h.slots.items
  count = ap (λ (x : HeapOf). length x.objects) (sym e) ∙ length-objects h.limits.vars h.slots.items h.frames.lists h.values.items ok.laid

  pub used : frames_used v ≡ lengths h.frames.lists
  used = ap frames_used (sym e) ∙ all_frames h.limits.vars h.slots.items h.frames.lists h.values.items ok.laid

  pub few_objects : length h.slots.items ≤ h.limits.objects
  few_objects = omega (arith, slots_within h.limits.vars h.slots.items h.frames.lists h.values.items ok.laid, ok.queues)

  pub most_objects_are : h.limits.objects ≡ v.most_objects
  most_objects_are = ap (λ (x : HeapOf). x.most_objects) e

  pub full : lengths h.frames.lists ≤ h.frames.cells → free_of h.frames ≡ 0 → frames_used v ≡ v.most_frames
  full within none =
      let most : h.limits.frames ≡ v.most_frames = ap (λ (x : HeapOf). x.most_frames) e in
      omega (arith, used, most, ok.cells, none, within)

  pub none_free : frames_used v ≡ v.most_frames → free_of h.frames ≡ 0
  none_free all =
      let most : h.limits.frames ≡ v.most_frames = ap (λ (x : HeapOf). x.most_frames) e in
      omega (arith, used, most, ok.cells, all)

  -- a further object
  module _ (class vars : ℕ) (cell : FrameCell) (at : ℕ) (n : Inside) (at_end : at ≡ length h.slots.items) (few : vars ≤ v.most_vars) (limits : n.limits ≡ h.limits) (values : n.values ≡ h.values)
      (capacity : vec_capacity n.slots ≡ vec_capacity h.slots) (items : n.slots.items ≡ h.slots.items ++ record { class = class; vars = vars } ∷ [])
      (frames : n.frames ≡ with_list h.frames at (cell ∷ list_of h.frames at)) (room : length h.slots.items < h.limits.objects) where
    few_vars_of : vars ≤ h.limits.vars
    few_vars_of = let most : h.limits.vars ≡ v.most_vars = ap (λ (x : HeapOf). x.most_vars) e in omega (arith, most, few)

    small : length h.slots.items < length h.frames.lists
    small = omega (arith, room, ok.queues)

    new_slot : Slot
    new_slot = record { class = class; vars = vars }

    new_queue : n.frames ≡ with_list h.frames (length h.slots.items) (cell ∷ [])
    new_queue =
        frames
        ∙ ap (λ i. with_list h.frames i (cell ∷ list_of h.frames i)) at_end
        ∙ ap (λ cs. with_list h.frames (length h.slots.items) (cell ∷ cs)) (no_frames h.limits.vars h.slots.items h.frames.lists h.values.items ok.laid)

    pub more_kept : IsHeap n
    unfolding new_slot
    more_kept = record {
      node = rw limits ok.node;
      objects = rw limits ok.objects;
      frames = rw limits ok.frames;
      vars = rw limits ok.vars;
      slots = rw (limits, capacity) ok.slots;
      queues = rw (limits, new_queue) (length-set h.frames.lists (length h.slots.items) (cell ∷ []) ∙ ok.queues);
      cells = rw (limits, new_queue) ok.cells;
      laid = rw (limits, new_queue, items, values) (laid-more h.limits.vars h.slots.items h.frames.lists h.values.items new_slot cell ok.laid small few_vars_of);
    }

    pub more_put : frame_of cell ≡ body_frame → heap_of n ≡ record v { objects = v.objects ++ unbegun class vars ∷ [] }
    unfolding new_slot
    more_put body =
        rw (limits, new_queue, items, values) (
        ap (λ xs. record (heap_of h) { objects = xs }) (objects-more h.limits.vars h.slots.items h.frames.lists h.values.items new_slot cell ok.laid small few_vars_of)
        ∙ ap (λ f. record (heap_of h) { objects = (heap_of h).objects ++ record { class = class; vars = nils vars; frames = f ∷ [] } ∷ [] }) body
        ∙ ap (λ (x : HeapOf). record x { objects = x.objects ++ unbegun class vars ∷ [] }) e
        )

  module _ (slot : ℕ) (placed : slot < length v.objects) where
    pub in_slots : slot < length h.slots.items
    in_slots = omega (arith, count)

    pub in_queues : (slot < length h.frames.lists) × (0 < length (queue_of h slot))
    in_queues =
        let small : slot < length h.frames.lists = omega (arith, in_slots, few_objects, ok.queues) in
        (small, has_frame h.limits.vars h.slots.items h.frames.lists h.values.items slot ok.laid in_slots)

    -- what stands at the slot
    pub object_at_is : (d : Slot) → object_at v slot ≡ object_of (get_or h.slots.items slot d) (queue_of h slot) (drop (slot * h.limits.vars) h.values.items)
    object_at_is d =
        ap (λ (x : HeapOf). object_at x slot) (sym e) ∙ object_is h.limits.vars h.slots.items h.frames.lists h.values.items slot d ok.laid in_slots

    pub frames_at_are : (object_at v slot).frames ≡ map frame_of (queue_of h slot)
    frames_at_are = ap (λ (x : CodeObject). x.frames) (object_at_is no_slot)

    pub top_is : (old : FrameCell) → slice_get (queue_of h slot) 0 ≡ Some old → top_at v slot ≡ frame_of old
    top_is old got = ap top_in frames_at_are ∙ head_is (queue_of h slot) old got

    -- other frames
    pub frames_put : (cs : List FrameCell) → heap_of (with_queues h (set h.frames.lists slot cs)) ≡ put_object v slot (record (object_at v slot) { frames = map frame_of cs })
    frames_put cs =
        ap (λ xs. record (heap_of h) { objects = xs }) (objects-frames h.limits.vars h.slots.items h.frames.lists h.values.items slot cs ok.laid in_slots)
        ∙ ap (λ (x : HeapOf). put_object x slot (record (object_at x slot) { frames = map frame_of cs })) e

    pub frames_kept : (cs : List FrameCell) → 0 < length cs → IsHeap (with_queues h (set h.frames.lists slot cs))
    frames_kept cs pos = record {
      node = ok.node;
      objects = ok.objects;
      frames = ok.frames;
      vars = ok.vars;
      slots = ok.slots;
      queues = length-set h.frames.lists slot cs ∙ ok.queues;
      cells = ok.cells;
      laid = laid-frames h.limits.vars h.slots.items h.frames.lists h.values.items slot cs ok.laid in_slots pos;
    }

    -- another top frame
    pub top_put : (old new : FrameCell) (g : Frame → Frame) → slice_get (queue_of h slot) 0 ≡ Some old → frame_of new ≡ g (frame_of old)
        → heap_of (with_queues h (set h.frames.lists slot (set (queue_of h slot) 0 new))) ≡ put_top v slot (g (top_at v slot))
    top_put old new g got is =
        frames_put (set (queue_of h slot) 0 new)
        ∙ ap (λ fs. put_object v slot (record (object_at v slot) { frames = fs })) (set_head (queue_of h slot) new in_queues.1)
        ∙ ap (λ fs. put_object v slot (record (object_at v slot) { frames = frame_of new ∷ under_top fs })) (sym frames_at_are)
        ∙ ap (put_top v slot) (is ∙ ap g (sym (top_is old got)))

    pub top_kept : (new : FrameCell) → IsHeap (with_queues h (set h.frames.lists slot (set (queue_of h slot) 0 new)))
    top_kept new = frames_kept (set (queue_of h slot) 0 new) (omega (arith, length-set (queue_of h slot) 0 new, in_queues.1))

    -- the queue after a push and after a pop
    pub pushed_kept : (p : Pool FrameCell) (cell : FrameCell) → p ≡ with_list h.frames slot (cell ∷ queue_of h slot) → IsHeap (record h { frames = p })
    pushed_kept p cell is =
        let P : Pool FrameCell → Type 0 = λ q. IsHeap (record h { frames = q }) in
        subst P (sym is) (frames_kept (cell ∷ queue_of h slot) (omega arith))

    pub pushed_put : (p : Pool FrameCell) (cell : FrameCell) (f : Frame) → p ≡ with_list h.frames slot (cell ∷ queue_of h slot) → frame_of cell ≡ f
        → heap_of (record h { frames = p }) ≡ put_object v slot (record (object_at v slot) { frames = f ∷ (object_at v slot).frames })
    pushed_put p cell f is same =
        ap (λ (q : Pool FrameCell). heap_of (record h { frames = q })) is
        ∙ frames_put (cell ∷ queue_of h slot)
        ∙ ap (λ g. put_object v slot (record (object_at v slot) { frames = g ∷ map frame_of (queue_of h slot) })) same
        ∙ ap (λ fs. put_object v slot (record (object_at v slot) { frames = f ∷ fs })) (sym frames_at_are)

    pub popped_kept : (p : Pool FrameCell) → 1 < length (object_at v slot).frames → p ≡ with_list h.frames slot (drop 1 (queue_of h slot)) → IsHeap (record h { frames = p })
    popped_kept p two is =
        let P : Pool FrameCell → Type 0 = λ q. IsHeap (record h { frames = q }) in
        let long : length (object_at v slot).frames ≡ length (queue_of h slot) = ap length frames_at_are ∙ length-map (queue_of h slot) frame_of in
        subst P (sym is) (frames_kept (drop 1 (queue_of h slot)) (omega (arith, length-without_head (queue_of h slot), long, two)))

    pub popped_put : (p : Pool FrameCell) → p ≡ with_list h.frames slot (drop 1 (queue_of h slot))
        → heap_of (record h { frames = p }) ≡ put_object v slot (record (object_at v slot) { frames = under_top (object_at v slot).frames })
    popped_put p is =
        ap (λ (q : Pool FrameCell). heap_of (record h { frames = q })) is
        ∙ frames_put (drop 1 (queue_of h slot))
        ∙ ap (λ fs. put_object v slot (record (object_at v slot) { frames = fs })) (without_head (queue_of h slot))
        ∙ ap (λ fs. put_object v slot (record (object_at v slot) { frames = under_top fs })) (sym frames_at_are)

    -- variables
    module _ (k : ℕ) (has : k < length (object_at v slot).vars) where
      pub in_vars : k < (get_or h.slots.items slot no_slot).vars
      in_vars =
          let n : ℕ = (get_or h.slots.items slot no_slot).vars in
          let row : List Value = drop (slot * h.limits.vars) h.values.items in
          let long : length (object_at v slot).vars ≡ length (take n row) = ap (λ (x : CodeObject). length x.vars) (object_at_is no_slot) in
          omega (arith, long, length-take n row)

      pub below_width : k < h.limits.vars
      below_width = omega (arith, in_vars, few_vars h.limits.vars h.slots.items h.frames.lists h.values.items slot no_slot ok.laid in_slots)

      pub in_values : slot * h.limits.vars + k < length h.values.items
      in_values = in_row h.limits.vars h.slots.items h.frames.lists h.values.items slot k ok.laid in_slots below_width

      pub var_is : (x : Value) → get_or h.values.items (slot * h.limits.vars + k) x ≡ nth (object_at v slot).vars k
      var_is x =
          loaded_from h.values.items (get_or h.slots.items slot no_slot).vars (slot * h.limits.vars) k x in_vars in_values
          ∙ ap (λ (y : CodeObject). nth y.vars k) (sym (object_at_is no_slot))

      pub var_put : (x : Value) → heap_of (with_value h (slot * h.limits.vars + k) x) ≡ put_object v slot (record (object_at v slot) { vars = set (object_at v slot).vars k x })
      var_put x =
          ap (λ xs. record (heap_of h) { objects = xs }) (objects-var h.limits.vars h.slots.items h.frames.lists h.values.items slot k x no_slot ok.laid in_slots in_vars)
          ∙ ap (λ (y : HeapOf). put_object y slot (record (object_at y slot) { vars = set (object_at y slot).vars k x })) e

      pub var_kept : (x : Value) → IsHeap (with_value h (slot * h.limits.vars + k) x)
      var_kept x = record {
        node = ok.node;
        objects = ok.objects;
        frames = ok.frames;
        vars = ok.vars;
        slots = ok.slots;
        queues = ok.queues;
        cells = ok.cells;
        laid = laid-var h.limits.vars h.slots.items h.frames.lists h.values.items slot k x ok.laid in_slots below_width;
      }
