-- The premises of an instruction hold: its operands and the things that it names exist, and the next place is in the
-- code.
use Rattle.std.proofs.Common.{◌≡◌, inl, refl, sym, ap, ◌∙◌, subst, IsTrue, ℕ, zero, suc, ◌+◌, ◌-◌, ◌<◌, ◌≤◌, ◌^◌, List, [], ◌∷◌, length, Some, None, is_some, get_or, arith}
use Rattle.std.specs.Prelude.{slice_get, slice_set}
use Rattle.std.proofs.lemmas.Option.{get_or_from_slice_get}
use Rattle.run_types.specs.declared.types.NameId.{NameId}
use Rattle.run_types.specs.declared.types.Serves.{Serves}
use Rattle.run_types.specs.declared.types.Serves.TheVariants as S
use Rattle.code_semantics.specs.declared.unit.Instr.{Instr}
use Rattle.code_semantics.specs.declared.unit.Instr.TheVariants as I
use Rattle.code_semantics.specs.declared.unit.MethodCode.{MethodCode}
use Rattle.code_semantics.specs.declared.unit.ClassCode.{ClassCode}
use Rattle.code_semantics.specs.declared.unit.Unit.{Unit as Code}
use Rattle.run_types.specs.declared.frames.Frame.{Frame}
use Rattle.run_types.specs.declared.frames.CodeObject.{CodeObject}
use Rattle.code_semantics.specs.Frames.{code_of}
use Rattle.code_semantics.specs.Step.{method_named, is_own}
use Rattle.code_semantics.specs.Proper.{IsProper}
use Rattle.code_semantics.specs.ReachedPlaces.{params_of, takes, leaves, nexts, IsAmong, Exists}
use Rattle.node_heap.specs.Heaps.{HeapOf, object_at, put_object, no_object, frames_of, frames_used, top_in, under_top}
use Rattle.code_semantics.specs.OfUnit.{IsFrameOf, AreFramesOf, missing_under}
use Rattle.code_semantics.specs.StepInstructions.{FitsUnit, AnyValue}
use Rattle.code_semantics.proofs.Laws.{proper_code, reached_next, frame_on_top, same_some}
use Rattle.object_interp.specs.Tops.{HasTop, class_in, instr_in}
use Rattle.object_interp.proofs.InnermostFrame.{known}

-- an instruction of the code of the innermost frame, which has this class
pub record KnownInstr (u : Code) (x : CodeObject) (k : ClassCode) (i : Instr) : Type 0 where
  pub enough : takes (Some k) i ≤ length (top_in x.frames).operands
  pub few : length (top_in x.frames).operands ≤ 64
  pub exists : Exists u (Some k) (length (top_in x.frames).temps) (code_of (Some k) (top_in x.frames).method) i
  pub after : (at : ℕ) → IsAmong at (nexts (top_in x.frames).at i) → (at < 2 ^ 32) × (length (top_in x.frames).operands + leaves i ≤ 64 + takes (Some k) i)

pub instr_known : (u : Code) → IsProper u → (x : CodeObject) (t : HasTop u x) (i : Instr) → instr_in u x ≡ Some i → KnownInstr u x t.class i
instr_known u proper x t i e =
    let k = known u proper x t in
    let f = top_in x.frames in
    let c = code_of (Some t.class) f.method in
    let here : slice_get c f.at ≡ Some i = ap (λ d. slice_get d f.at) (sym k.same_code) ∙ e in
    let r = k.code.suffices f.at (0 + length f.operands) t.is_frame.reached in
    let same : r.2.0 ≡ i = same_some r.2.0 i (sym r.2.1 ∙ here) in
    let enough : takes (Some t.class) i ≤ length f.operands =
    subst (λ j. takes (Some t.class) j ≤ length f.operands) same (omega (arith, r.2.2)) in
    record {
      enough = enough;
      few = k.few;
      exists = k.code.exists f.at i here;
      after = λ at among.
          let held = length f.operands + leaves i - takes (Some t.class) i in
          let next = reached_next (Some t.class) c f.at (0 + length f.operands) i at held t.is_frame.reached here among (omega (arith, enough)) in
          let s = k.code.suffices at held next in
          (s.1, omega (arith, s.0, enough));
    }

-- an instruction that goes on to the next place
pub next_place : (u : Code) → IsProper u → (x : CodeObject) (t : HasTop u x) (i : Instr) → instr_in u x ≡ Some i
    → IsAmong (suc (top_in x.frames).at) (nexts (top_in x.frames).at i) → suc (top_in x.frames).at < 2 ^ 32
next_place u proper x t i e among = ((instr_known u proper x t i e).after (suc (top_in x.frames).at) among).0

-- the method that a call names
pub record Callee (u : Code) (x : CodeObject) (name : NameId) (place : ℕ) (m : MethodCode) : Type 0 where
  pub few : m.params ≤ 8
  pub temps : m.temps ≤ 32
  pub params : m.params ≤ m.temps
  pub enough : m.params ≤ length (top_in x.frames).operands
  pub named : method_named (class_in u x) name ≡ Some (record { place = place; code = m })
  pub next : suc (top_in x.frames).at < 2 ^ 32

pub has_method : (u : Code) → IsProper u → (x : CodeObject) (t : HasTop u x) (name : NameId) → instr_in u x ≡ Some (I.Call name) → (k : ClassCode) → class_in u x ≡ Some k
    → IsTrue (is_some (method_named (Some k) name))
has_method u proper x t name e k is =
    subst (λ j. IsTrue (is_some (method_named (Some j) name))) (same_some t.class k (sym t.is_class ∙ is))
    (instr_known u proper x t (I.Call name) e).exists.0

pub callee : (u : Code) → IsProper u → (x : CodeObject) (t : HasTop u x) (name : NameId) → instr_in u x ≡ Some (I.Call name) → (k : ClassCode) → class_in u x ≡ Some k → (place : ℕ)
    → (m : MethodCode) × (slice_get k.methods place ≡ Some m) × (method_named (Some k) name ≡ Some (record { place = place; code = m }))
    → (methods : List MethodCode) (m : MethodCode) → methods ≡ k.methods → m ≡ get_or methods place m → Callee u x name place m
callee u proper x t name e k is place found methods m same item =
    let equal : found.0 ≡ m = sym (item ∙ ap (λ l. get_or l place m) same ∙ get_or_from_slice_get k.methods place found.0 m found.1) in
    let there : slice_get k.methods place ≡ Some m = found.1 ∙ ap Some equal in
    let fine = (proper.each x.class k is).methods place m there in
    let i = instr_known u proper x t (I.Call name) e in
    let named : method_named (class_in u x) name ≡ Some (record { place = place; code = m }) =
    ap (λ o. method_named o name) is ∙ found.2 ∙ ap (λ n. Some (record { place = place; code = n })) equal in
    let takes_all : params_of (method_named (Some t.class) name) ≡ m.params = ap (λ o. params_of (method_named o name)) (sym t.is_class) ∙ ap params_of named in
    record {
      few = fine.1;
      temps = fine.2;
      params = fine.3;
      enough = omega (arith, i.enough, takes_all);
      named = named;
      next = (i.after (suc (top_in x.frames).at) (inl refl)).0;
    }

-- a method of the class that was found by its name
pub record Found (u : Code) (x : CodeObject) (name : NameId) (place : ℕ) (m : MethodCode) : Type 0 where
  pub temps : m.temps ≤ 32
  pub params : m.params ≤ m.temps
  pub named : method_named (class_in u x) name ≡ Some (record { place = place; code = m })

pub found : (u : Code) → IsProper u → (x : CodeObject) (name : NameId) (k : ClassCode) → class_in u x ≡ Some k → (place : ℕ)
    → (m : MethodCode) × (slice_get k.methods place ≡ Some m) × (method_named (Some k) name ≡ Some (record { place = place; code = m }))
    → (methods : List MethodCode) (m : MethodCode) → methods ≡ k.methods → m ≡ get_or methods place m → Found u x name place m
found u proper x name k is place r methods m same item =
    let equal : r.0 ≡ m = sym (item ∙ ap (λ l. get_or l place m) same ∙ get_or_from_slice_get k.methods place r.0 m r.1) in
    let there : slice_get k.methods place ≡ Some m = r.1 ∙ ap Some equal in
    let fine = (proper.each x.class k is).methods place m there in
    record {
      temps = fine.2;
      params = fine.3;
      named = ap (λ o. method_named o name) is ∙ r.2 ∙ ap (λ n. Some (record { place = place; code = n })) equal;
    }

abbrev RetStands : List Frame → Type 0
RetStands fs = (1 < length fs) × (IsTrue (is_own (top_in fs).serves) → length (top_in (under_top fs)).operands < 64)

-- a return stands in a method's frame
pub ret_frames : (u : Code) → IsProper u → (x : CodeObject) → FitsUnit u x → instr_in u x ≡ Some I.Ret
    → (1 < length x.frames) × (IsTrue (is_own (top_in x.frames).serves) → length (top_in (under_top x.frames)).operands < 64)
ret_frames u proper x fits e = by x.frames refl fits.frames
  where
    in_code : (f : Frame) → x.frames ≡ f ∷ under_top x.frames → slice_get (code_of (Some fits.class) f.method) f.at ≡ Some I.Ret
    in_code f same = ap (λ g. slice_get (code_of (Some fits.class) g.method) g.at) (sym (ap top_in same)) ∙ ap (λ k. slice_get (code_of k (top_in x.frames).method) (top_in x.frames).at) (sym fits.is_class) ∙ e

    under_room : (f g : Frame) (m : ℕ) → IsFrameOf fits.class AnyValue m g → m + length g.operands ≤ 64
    under_room f g m t =
        let class = proper.each x.class fits.class fits.is_class in
        let code = proper_code u fits.class class g.method g.temps t.has_temps in
        (code.suffices g.at (m + length g.operands) t.reached).0

    own_room : (s : Serves) (n : ℕ) → missing_under (Some s) + n ≤ 64 → IsTrue (is_own s) → n < 64
    own_room S.Own n h own = omega (arith, h)
    own_room (S.Caller a b) n h own = absurd (grind (arith, own))
    own_room S.Sender n h own = absurd (grind (arith, own))

    by : (fs : List Frame) → x.frames ≡ fs → AreFramesOf fits.class AnyValue None fs → RetStands fs
    by [] same t = absurd t
    by (f ∷ []) same t =
        absurd ((proper.each x.class fits.class fits.is_class).no_ret f.at
        (ap (λ m. slice_get (code_of (Some fits.class) m) f.at) (sym t.2) ∙ in_code f (same ∙ ap (λ l. f ∷ under_top l) (sym same))))
    by (f ∷ g ∷ fs) same t =
        (omega arith, own_room f.serves (length g.operands) (under_room f g (missing_under (Some f.serves)) (frame_on_top fits.class AnyValue (Some f) g fs t.3)))

-- the frames in use when a slot has another object
frames_set : (xs : List CodeObject) (slot : ℕ) (y : CodeObject) → slot < length xs
    → frames_of (slice_set xs slot y) + length (get_or xs slot no_object).frames ≡ frames_of xs + length y.frames
frames_set [] slot y h = absurd (omega (arith, h))
frames_set (x ∷ xs) zero y h = omega arith
frames_set (x ∷ xs) (suc slot) y h = omega (arith, frames_set xs slot y (omega (arith, h)))

pub frames_put : (h : HeapOf) (slot : ℕ) (y : CodeObject) → slot < length h.objects → frames_used (put_object h slot y) + length (object_at h slot).frames ≡ frames_used h + length y.frames
frames_put h slot y within = frames_set h.objects slot y within
