-- A burst: local transitions of one object, one after the other.
use Rattle.std.specs.Prelude.{◌≡◌, ℕ, zero, suc, ◌+◌, ◌-◌, ◌*◌, ◌<◌, length, Bool, true, false, ◌&&◌, if◌then◌else◌, nat_le}
use Rattle.run_types.specs.declared.frames.CodeObject.{CodeObject}
use Rattle.code_semantics.specs.declared.unit.Unit.{Unit as Code}
use Rattle.code_semantics.specs.Kinds as C
use Rattle.code_semantics.specs.Kinds.{Kind, code_kind}
use Rattle.code_semantics.specs.Step.{code_stepped}
use Rattle.node_heap.specs.Heaps.{HeapOf, object_at, put_object, frames_used}
use Rattle.object_interp.specs.declared.types.Burst.{Burst}
use Rattle.object_interp.specs.declared.types.Burst.TheVariants as B
use Rattle.object_interp.specs.Offers.{need_of}

-- the name of the object of a slot
abbrev pub name_in : HeapOf → ℕ → ℕ
name_in h slot = h.node * 65536 + slot

-- the number of frames that the object of a slot may have: its own and the free ones
abbrev pub room_in : HeapOf → ℕ → ℕ
room_in h slot = h.most_frames + length (object_at h slot).frames - frames_used h

abbrev pub is_local : Kind → Bool
is_local C.Local = true
is_local _ = false

-- whether the object named o makes a local transition, and has room for its frames after it
abbrev pub can_step : Code → ℕ → ℕ → CodeObject → Bool
can_step u o room x = is_local (code_kind u x) && nat_le (length (code_stepped u o x).frames) room

-- the number of such transitions in a row, at most q, and the object after them
abbrev pub burst_from : Code → ℕ → ℕ → ℕ → CodeObject → ℕ × CodeObject
burst_from u o room zero x = (0, x)
burst_from u o room (suc q) x =
    let r = burst_from u o room q (code_stepped u o x) in
    if can_step u o room x then (suc r.0, r.1) else (0, x)

-- The answer of a burst, with the heap after it: the number of transitions; the request of the current instruction, if
-- that makes no local transition; or that the first transition is a call and no frame is free.
abbrev pub IsBurst : Code → HeapOf → ℕ → ℕ → Burst → HeapOf → Type 0
IsBurst u h slot q (B.Local n) new =
    let r = burst_from u (name_in h slot) (room_in h slot) q (object_at h slot) in
    (0 < n) × (r.0 ≡ n) × (new ≡ put_object h slot r.1)
IsBurst u h slot q (B.At need) new =
    (is_local (code_kind u (object_at h slot)) ≡ false) × (need ≡ need_of u (code_kind u (object_at h slot))) × (new ≡ h)
IsBurst u h slot q B.FramesFull new =
    (code_kind u (object_at h slot) ≡ C.Local) × (can_step u (name_in h slot) (room_in h slot) (object_at h slot) ≡ false) × (frames_used h ≡ h.most_frames) × (new ≡ h)
