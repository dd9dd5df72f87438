-- Objects of a verified file whose values fit: each step, and new ones.
use Rattle.std.proofs.Common.{◌≡◌, refl, sym, ap, subst, ◌∙◌, ℕ, suc, ◌+◌, ◌==◌, List, [], ◌∷◌, Option, Some, None, Bool, true, false, arith}
use Rattle.std.specs.Prelude.{slice_get}
use Rattle.run_types.specs.declared.types.NameId.{NameId}
use Rattle.run_types.specs.declared.types.Value.{Value}
use Rattle.run_types.specs.declared.types.Serves.{Serves}
use Rattle.run_types.specs.declared.types.Serves.TheVariants as S
use Rattle.run_types.proofs.Laws.{equal, same_some}
use Rattle.code_semantics.specs.declared.unit.ClassCode.{ClassCode}
use Rattle.run_types.specs.declared.frames.Frame.{Frame}
use Rattle.run_types.specs.declared.frames.CodeObject.{CodeObject}
use Rattle.code_semantics.specs.declared.unit.Unit.{Unit as Code}
use Rattle.code_semantics.specs.declared.file.UnitFile.{UnitFile}
use Rattle.code_semantics.specs.Frames.{settled}
use Rattle.code_semantics.specs.Kinds as C
use Rattle.code_semantics.specs.Kinds.{frames_kind, code_kind}
use Rattle.code_semantics.specs.Shaped.{IsShaped}
use Rattle.code_semantics.specs.Step.{Numbered, method_named, method_serving, code_serving, frames_given, code_given, placed_of, code_placed, placed_at, class_from, code_made, is_own}
use Rattle.run_types.specs.Operands.{padded}
use Rattle.mesh_of_code.specs.Coded.{class_number}
use Rattle.code_typing.specs.Sorts.{Declared, Signature, declared_at, declared_named, signature_named}
use Rattle.code_typing.specs.Verified.{IsVerified}
use Rattle.compiler_correctness.specs.TypedCode.{Classes, AreOfKinds, IsSortedFrame, AreSortedFrames, IsSortedObject}
use Rattle.compiler_correctness.proofs.Operands.{nils_of_kinds, sorts_grow}
use Rattle.compiler_correctness.proofs.ShapedKinds.{class_parts, class_shaped, class_there}
use Rattle.compiler_correctness.proofs.Frames.{settled_sorted}
use Rattle.compiler_correctness.proofs.StepPreservation.{Picks, KeptIn, kept_in}

module _ (f : UnitFile) (shaped : IsShaped f) (good : IsVerified f) (at : Classes) (x : CodeObject) (h : IsSortedObject f at x) where
  pub its_class : slice_get f.unit.classes x.class ≡ Some h.class.code
  its_class = (class_parts f shaped x.class h.class h.is_class).0

  -- what is kept by what the object does
  abbrev pub KeptBy : C.Kind → Type 0
  KeptBy q = KeptIn f shaped good x h.class h.is_class at h.vars h (slice_get f.unit.classes x.class) x.frames q

  pub kept_of : (q : C.Kind) → code_kind f.unit x ≡ q → KeptBy q
  kept_of q e =
      subst KeptBy e
      (subst (λ c. KeptIn f shaped good x h.class h.is_class at h.vars h c x.frames (frames_kind c x.frames)) (sym its_class)
      (kept_in f shaped good x h.class h.is_class at h.vars h x.frames h.frames))

  -- it begins to serve a method
  pub served_of : Picks f shaped good x h.class h.is_class at h.vars h (slice_get f.unit.classes x.class) x.frames → (n : ℕ) (m : NameId) (args : List Value) (w : Serves) (z : CodeObject) (s : Signature)
      → signature_named h.class m ≡ Some s → AreOfKinds at args s.params → is_own w ≡ false → code_serving f.unit x n m args w ≡ Some z → IsSortedObject f at z × (z.class ≡ x.class)
  served_of p n m args w z s g fit own e = by (method_named (slice_get f.unit.classes x.class) m) refl e
    where
      by : (r : Option Numbered) → method_named (slice_get f.unit.classes x.class) m ≡ r → method_serving (slice_get f.unit.classes x.class) x n r args w ≡ Some z
          → IsSortedObject f at z × (z.class ≡ x.class)
      by None q i = absurd (let t : None ≡ Some z = i in cc)
      by (Some r) q i = subst (λ (v : CodeObject). IsSortedObject f at v × (v.class ≡ x.class)) (same_some i) (p.1 n m r s args w q g fit own)

-- an object keeps its class when it is given a value
frames_class : (k : Option ClassCode) (x : CodeObject) (v : Value) (fs : List Frame) → (frames_given k x v fs).class ≡ x.class
frames_class k x v [] = refl
frames_class k x v (a ∷ fs) = refl

pub given_class : (u : Code) (x : CodeObject) (v : Value) → (code_given u x v).class ≡ x.class
given_class u x v = frames_class (slice_get u.classes x.class) x v x.frames

-- more classes are known
module _ (f : UnitFile) (at more : Classes) (grows : (n c : ℕ) → at n ≡ Some c → more n ≡ Some c) where
  frame_grows : (k : Declared) (m : _) (a : Frame) → IsSortedFrame f at k m a → IsSortedFrame f more k m a
  frame_grows k m a t = record {
    stack = t.stack;
    reached = t.reached;
    operands = sorts_grow at more grows a.operands t.stack t.operands;
    has_temps = t.has_temps;
    temps = sorts_grow at more grows a.temps _ t.temps;
  }

  frames_grow : (k : Declared) (above : Option Frame) (fs : List Frame) → AreSortedFrames f at k above fs → AreSortedFrames f more k above fs
  frames_grow k above [] t = tt
  frames_grow k above (a ∷ fs) t = (frame_grows k _ a t.0, frames_grow k (Some a) fs t.1)

  pub object_grows : (x : CodeObject) → IsSortedObject f at x → IsSortedObject f more x
  object_grows x h = record {
    class = h.class;
    is_class = h.is_class;
    vars = sorts_grow at more grows x.vars _ h.vars;
    frames = frames_grow h.class None x.frames h.frames;
  }

-- the class of a name
pub class_from_is : (n : ℕ) (c : NameId) (ks : List ClassCode) (j : ℕ) → class_from n ks c ≡ Some j
    → (i : ℕ) × (k : ClassCode) × (j ≡ n + i) × (slice_get ks i ≡ Some k) × (k.name.0 ≡ c.0)
class_from_is n c [] j h = absurd (let z : None ≡ Some j = h in cc)
class_from_is n c (k ∷ ks) j h = by (k.name.0 == c.0) refl (class_from_is (suc n) c ks j)
  where
    by : (b : Bool) → (k.name.0 == c.0) ≡ b
        → (class_from (suc n) ks c ≡ Some j → (i : ℕ) × (l : ClassCode) × (j ≡ suc n + i) × (slice_get ks i ≡ Some l) × (l.name.0 ≡ c.0))
        → (i : ℕ) × (l : ClassCode) × (j ≡ n + i) × (slice_get (k ∷ ks) i ≡ Some l) × (l.name.0 ≡ c.0)
    by true e rest = let s : n ≡ j = same_some (rw e at h) in (0, k, omega (arith, s), refl, equal k.name.0 c.0 e)
    by false e rest = let r = rest (rw e at h) in let s = r.2 in (suc r.0, r.1, omega (arith, s), r.3, r.4)

module _ (f : UnitFile) (shaped : IsShaped f) (good : IsVerified f) where
  -- the class at a place is that of its name
  pub named_is : (j : ℕ) (k : Declared) → declared_at f j ≡ Some k → declared_named f k.code.name ≡ Some k
  named_is j k e = let h = (good.headings j k e).first in rw (h, e) refl

  -- a new object
  placed_sorted : (at : Classes) (j : ℕ) (y : CodeObject) → code_placed f.unit j ≡ Some y → IsSortedObject f at y × (y.class ≡ j)
  placed_sorted at j y e = by (slice_get f.unit.classes j) refl e
    where
      by : (k : Option ClassCode) → slice_get f.unit.classes j ≡ k → placed_of j k ≡ Some y → IsSortedObject f at y × (y.class ≡ j)
      by None q i = absurd (let z : None ≡ Some y = i in cc)
      by (Some k) q i =
          let d = class_there f shaped j k q in
          subst (λ (z : CodeObject). IsSortedObject f at z × (z.class ≡ j)) (same_some (subst (λ (c : ClassCode). placed_of j (Some c) ≡ Some y) (sym d.2) i)) (new d.0 d.1, refl)
        where
          front : Frame
          front = record { method = None; at = 0; temps = []; operands = []; serves = S.Sender }

          new : (d : Declared) → declared_at f j ≡ Some d
              → IsSortedObject f at (record { class = j; vars = padded d.code.vars []; frames = settled d.code.body.code front ∷ [] })
          new d e =
              let r = settled_sorted f shaped good j d e at front (record { stack = []; reached = (0, (refl, refl)); operands = tt; has_temps = refl; temps = tt }) in
              record {
                class = d;
                is_class = e;
                vars = subst (λ n. AreOfKinds at (padded n []) d.kinds.vars) (sym (class_shaped f shaped j d e).0) (nils_of_kinds at d.kinds.vars);
                frames = (r.sorted, tt);
              }

  pub made_sorted : (at : Classes) (c : NameId) (y : CodeObject) → code_made f.unit c ≡ Some y → IsSortedObject f at y × (class_number (slice_get f.unit.classes y.class) ≡ c.0)
  made_sorted at c y e = by (class_from 0 f.unit.classes c) refl e
    where
      by : (n : Option ℕ) → class_from 0 f.unit.classes c ≡ n → placed_at f.unit n ≡ Some y → IsSortedObject f at y × (class_number (slice_get f.unit.classes y.class) ≡ c.0)
      by None q i = absurd (let z : None ≡ Some y = i in cc)
      by (Some j) q i =
          let p = placed_sorted at j y i in
          let r = class_from_is 0 c f.unit.classes j q in
          let s : j ≡ r.0 = let z = r.2 in omega (arith, z) in
          (p.0, ap (λ n. class_number (slice_get f.unit.classes n)) (p.1 ∙ s) ∙ ap class_number r.3 ∙ r.4)
