-- Each class, method or string that an object of a proper unit names is in the unit's table of names.
use Rattle.std.proofs.Common.{◌≡◌, refl, sym, subst, ◌∙◌, IsTrue, ℕ, suc, ◌<◌, ◌==◌, List, [], ◌∷◌, length, Option, Some, None, is_some, Bool, true, false}
use Rattle.std.specs.Prelude.{slice_get, if◌then◌else◌}
use Rattle.std.specs.List.{list_any}
use Rattle.run_types.specs.declared.types.Value.{Value}
use Rattle.run_types.specs.declared.types.Value.TheVariants as V
use Rattle.run_types.specs.declared.types.Item.{Item}
use Rattle.run_types.specs.declared.types.Item.TheVariants as It
use Rattle.run_types.specs.declared.types.Error.TheVariants.{NilOperand, NoOpenGuard}
use Rattle.run_types.specs.Values.{is_true, is_bool, not_bool}
use Rattle.run_types.specs.declared.frames.CodeObject.{CodeObject}
use Rattle.run_types.specs.declared.frames.Frame.{Frame}
use Rattle.code_semantics.specs.declared.unit.Instr.{Instr}
use Rattle.code_semantics.specs.declared.unit.Instr.TheVariants as I
use Rattle.code_semantics.specs.declared.unit.ClassCode.{ClassCode}
use Rattle.code_semantics.specs.declared.unit.Unit.{Unit as Code}
use Rattle.code_semantics.specs.Frames.{code_of}
use Rattle.run_types.specs.Operands.{top, dropped, taken}
use Rattle.code_semantics.specs.Kinds as C
use Rattle.code_semantics.specs.Kinds.{operated, offers, sent_kind, instr_kind, frames_kind, code_kind}
use Rattle.code_semantics.specs.Step.{class_from}
use Rattle.code_semantics.specs.Proper.{IsProper}
use Rattle.code_semantics.specs.ReachedPlaces.{Exists}
use Rattle.run_types.proofs.Laws.{equal, same_some}
use Rattle.mesh_semantics.specs.Act.{id}
use Rattle.mesh_semantics.specs.Kind as K
use Rattle.mesh_semantics.specs.Kind.{Kind}
use Rattle.code_semantics.specs.OfUnit.{AreFramesOf, IsObjectOf}
use Rattle.code_semantics.proofs.Laws.{top_exists, outcome_never, if_never, return_never}
use Rattle.mesh_of_code.specs.Coded.{kind_of, unless_served}

abbrev pub name_of_item : Item → Option ℕ
name_of_item (It.Value v) = None
name_of_item (It.Text s) = Some s.0

-- the class, the method or the string that is named
abbrev pub name_of : Kind → Option ℕ
name_of (K.New c) = Some c
name_of (K.Send b m args) = Some m
name_of (K.Async b m args) = Some m
name_of (K.Write item) = name_of_item item
name_of _ = None

-- what is done next names this
abbrev IsNaming : ℕ → C.Kind → Type 0
IsNaming n k = name_of (kind_of k) ≡ Some n

-- a class that is found has a known name
class_known : (count n c : ℕ) (ks : List ClassCode) → ((j : ℕ) (k : ClassCode) → slice_get ks j ≡ Some k → k.name.0 < count) → IsTrue (is_some (class_from n ks (id c))) → c < count
class_known count n c [] each h = absurd (let z : false ≡ true = h in cc)
class_known count n c (k ∷ ks) each h = by (k.name.0 == c) refl (class_known count (suc n) c ks (λ j q e. each (suc j) q e))
  where
    by : (b : Bool) → (k.name.0 == c) ≡ b → (IsTrue (is_some (class_from (suc n) ks (id c))) → c < count) → c < count
    by true e rest = subst (λ m. m < count) (equal k.name.0 c e) (each 0 k refl)
    by false e rest = rest (rw e at h)

sent_is : (v : Value) (go : ℕ → C.Kind) (m n : ℕ) → ((r : ℕ) → IsNaming m (go r)) → IsNaming n (sent_kind v go) → m ≡ n
sent_is (V.Ref r) go m n to h = same_some (sym (to r) ∙ h)
sent_is V.Nil go m n to h = absurd (cc)
sent_is (V.Int z) go m n to h = absurd (cc)
sent_is (V.Bool z) go m n to h = absurd (cc)

module _ (u : Code) (proper : IsProper u) where
  named_at : (k : ClassCode) (f : Frame) (temps : ℕ) (c : List Instr) (z : Option Instr) (n : ℕ) → ((i : Instr) → z ≡ Some i → Exists u (Some k) temps c i) → IsNaming n (instr_kind f z) → n < length u.names
  named_at k f temps c (Some (I.New m)) n e h =
      class_known (length u.names) 0 n u.classes (λ j q g. (proper.each j q g).name) (subst (λ a. IsTrue (is_some (class_from 0 u.classes (id a)))) {x = m.0} {y = n} (same_some h) (e (I.New m) refl))
  named_at k f temps c (Some (I.Send m a)) n e h =
      subst (λ b. b < length u.names) (sent_is (top (dropped a f.operands)) (λ r. C.Send r m (taken a f.operands [])) m.0 n (λ r. refl) h) (e (I.Send m a) refl).0
  named_at k f temps c (Some (I.Async m a)) n e h =
      subst (λ b. b < length u.names) (sent_is (top (dropped a f.operands)) (λ r. C.Async r m (taken a f.operands [])) m.0 n (λ r. refl) h) (e (I.Async m a) refl).0
  named_at k f temps c (Some (I.WriteText s)) n e h = subst (λ b. b < length u.names) {x = s.0} {y = n} (same_some h) (e (I.WriteText s) refl)
  named_at k f temps c (Some (I.Oper op)) n e h = absurd (outcome_never (IsNaming n) (λ z. cc) (λ x z. cc) (operated op f.operands) h)
  named_at k f temps c (Some (I.Branch a)) n e h = absurd (if_never (IsNaming n) (is_bool (top f.operands)) C.Local (C.Fault NilOperand) (λ z. cc) (λ z. cc) h)
  named_at k f temps c (Some I.Ret) n e h = absurd (return_never (IsNaming n) f.serves (top f.operands) (λ z. cc) (λ a b z. cc) h)
  named_at k f temps c (Some I.Post) n e h = absurd (return_never (IsNaming n) f.serves (top f.operands) (λ z. cc) (λ a b z. cc) h)
  named_at k f temps c (Some (I.Select alts)) n e h = absurd (none (taken (length alts) f.operands []) h)
    where
      none : (gs : List Value) → IsNaming n (C.select_kind alts gs) → ⊥
      none gs q = if_never (IsNaming n) (list_any not_bool gs) (C.Fault NilOperand) (if list_any is_true gs then C.Select (offers alts gs) else C.Fault NoOpenGuard) (λ z. cc)
          (if_never (IsNaming n) (list_any is_true gs) (C.Select (offers alts gs)) (C.Fault NoOpenGuard) (λ z. cc) (λ z. cc)) q
  named_at k f temps c None n e h = absurd (cc)
  named_at k f temps c (Some _) n e h = absurd (cc)

  -- what an object is about to make, to call, to send or to write is known
  pub object_named : (P : Value → Type 0) (x : CodeObject) → IsObjectOf u P x → (n : ℕ) → name_of (kind_of (code_kind u x)) ≡ Some n → n < length u.names
  object_named P x h n e = by x.frames h.frames (subst (λ (q : Option ClassCode). IsNaming n (frames_kind q x.frames)) h.is_class e)
    where
      by : (fs : List Frame) → AreFramesOf h.class P None fs → IsNaming n (frames_kind (Some h.class) fs) → n < length u.names
      by [] a q = absurd a
      by (f ∷ fs) a q =
          named_at h.class f (length f.temps) (code_of (Some h.class) f.method) (slice_get (code_of (Some h.class) f.method) f.at) n
          (λ i g. top_exists u h.class (proper.each x.class h.class h.is_class) P f fs a i g) q

  -- also where its call may be served
  pub kind_named : (P : Value → Type 0) (x : CodeObject) (s : Option (ℕ × ℕ)) → IsObjectOf u P x → (n : ℕ) → name_of (unless_served s (kind_of (code_kind u x))) ≡ Some n → n < length u.names
  kind_named P x None h n e = object_named P x h n e
  kind_named P x (Some w) h n e = absurd (cc)
