-- The form of an instruction, from the next action of its frame.
use Rattle.std.proofs.Common.{◌≡◌, refl, sym, ap, ◌∙◌, ℕ, zero, suc, ◌+◌, ◌==◌, List, [], ◌∷◌, length, Option, Some, None, Bool, true, false, if◌then◌else◌, arith}
use Rattle.std.specs.Prelude.{slice_get}
use Rattle.std.specs.List.{list_any}
use Rattle.run_types.specs.declared.types.NameId.{NameId}
use Rattle.run_types.specs.declared.types.Value.{Value}
use Rattle.run_types.specs.declared.types.Value.TheVariants as V
use Rattle.run_types.specs.declared.types.Error.{Error}
use Rattle.run_types.specs.declared.types.Error.TheVariants.{NilOperand, NoOpenGuard}
use Rattle.run_types.specs.Values.{Outcome, Gives, Fails, WrongSort, is_true, is_bool, not_bool}
use Rattle.run_types.proofs.Laws.{same_some}
use Rattle.run_types.specs.declared.frames.Frame.{Frame}
use Rattle.code_semantics.specs.declared.unit.Instr.{Instr}
use Rattle.code_semantics.specs.declared.unit.Instr.TheVariants as I
use Rattle.code_semantics.specs.declared.unit.AltCode.{AltCode}
use Rattle.code_semantics.specs.declared.unit.ClassCode.{ClassCode}
use Rattle.run_types.specs.declared.types.Serves.{Serves}
use Rattle.run_types.specs.declared.types.Serves.TheVariants as S
use Rattle.run_types.specs.Operands.{top, below, dropped, taken}
use Rattle.code_semantics.specs.Kinds as C
use Rattle.code_semantics.specs.Kinds.{offers, select_kind, sent_kind, return_kind, outcome_kind, operated, instr_kind}
use Rattle.code_semantics.specs.Step.{class_from}
use Rattle.mesh_semantics.specs.Kind as K
use Rattle.mesh_semantics.specs.Kind.{Kind}
use Rattle.mesh_semantics.specs.Config.{Config}
use Rattle.run_types.specs.Tables.{Each}
use Rattle.mesh_semantics.specs.Sound.{IsThere}
use Rattle.mesh_of_code.specs.Coded.{Placed, kind_of}
use Rattle.mesh_of_code.specs.CodeInvariant.{Names}

abbrev pub makes_class : Kind → Option ℕ
makes_class (K.New c) = Some c
makes_class _ = None

abbrev pub goes_to : Kind → Option ℕ
goes_to (K.Send b m args) = Some b
goes_to (K.Async b m args) = Some b
goes_to _ = None

abbrev pub goes_back : Kind → Option ℕ
goes_back (K.Return k v) = Some k
goes_back _ = None

nothing_is : (x : Option ℕ) (n : ℕ) → x ≡ None → x ≡ Some n → ⊥
nothing_is x n e h = let z : None ≡ Some n = sym e ∙ h in cc

module _ (P : Kind → Option ℕ) (local : P K.Local ≡ None) (fault : (e : Error) → P (K.Fault e) ≡ None) (select : (alts : List K.Alternative) → P (K.Select alts) ≡ None) where
  outcome_none : (o : Outcome) → P (kind_of (outcome_kind o)) ≡ None
  outcome_none (Gives v) = local
  outcome_none (Fails e) = fault e
  outcome_none WrongSort = fault NilOperand

  branch_none : (b : Bool) → P (kind_of (if b then C.Local else C.Fault NilOperand)) ≡ None
  branch_none true = local
  branch_none false = fault NilOperand

  select_none : (alts : List AltCode) (vs : List Value) → P (kind_of (select_kind alts vs)) ≡ None
  select_none alts vs = by (list_any not_bool vs) (list_any is_true vs)
    where
      by : (n t : Bool) → P (kind_of (if n then C.Fault NilOperand else (if t then C.Select (offers alts vs) else C.Fault NoOpenGuard))) ≡ None
      by true t = fault NilOperand
      by false true = select _
      by false false = fault NoOpenGuard

  sent_none : (v : Value) (go : ℕ → C.Kind) → ((r : ℕ) → P (kind_of (go r)) ≡ None) → P (kind_of (sent_kind v go)) ≡ None
  sent_none (V.Ref r) go h = h r
  sent_none V.Nil go h = fault _
  sent_none (V.Int z) go h = fault _
  sent_none (V.Bool z) go h = fault _

  return_none : (s : Serves) (v : Value) → ((k : ℕ) → P (K.Return k v) ≡ None) → P (kind_of (return_kind s v)) ≡ None
  return_none S.Own v h = local
  return_none (S.Caller k n) v h = h k
  return_none S.Sender v h = local

pub new_at : (f : Frame) (z : Option Instr) (k : ℕ) → makes_class (kind_of (instr_kind f z)) ≡ Some k → (n : NameId) × (z ≡ Some (I.New n)) × (n.0 ≡ k)
new_at f (Some (I.New n)) k h = (n, refl, same_some h)
new_at f (Some (I.Oper op)) k h = absurd (nothing_is _ k (outcome_none makes_class refl (λ e. refl) (λ a. refl) (operated op f.operands)) h)
new_at f (Some (I.Branch a)) k h = absurd (nothing_is _ k (branch_none makes_class refl (λ e. refl) (λ a. refl) (is_bool (top f.operands))) h)
new_at f (Some (I.Select alts)) k h = absurd (nothing_is _ k (select_none makes_class refl (λ e. refl) (λ a. refl) alts (taken (length alts) f.operands [])) h)
new_at f (Some (I.Send m n)) k h = absurd (nothing_is _ k (sent_none makes_class refl (λ e. refl) (λ a. refl) (top (dropped n f.operands)) (λ r. C.Send r m (taken n f.operands [])) (λ r. refl)) h)
new_at f (Some (I.Async m n)) k h = absurd (nothing_is _ k (sent_none makes_class refl (λ e. refl) (λ a. refl) (top (dropped n f.operands)) (λ r. C.Async r m (taken n f.operands [])) (λ r. refl)) h)
new_at f (Some I.Ret) k h = absurd (nothing_is _ k (return_none makes_class refl (λ e. refl) (λ a. refl) f.serves (top f.operands) (λ k. refl)) h)
new_at f (Some I.Post) k h = absurd (nothing_is _ k (return_none makes_class refl (λ e. refl) (λ a. refl) f.serves (top f.operands) (λ k. refl)) h)
new_at f None k h = absurd (cc)
new_at f (Some _) k h = absurd (cc)

nil_names : (c : Config Placed) → Names c V.Nil
nil_names c b e = absurd (cc)

top_names : (c : Config Placed) (vs : List Value) → Each (Names c) vs → Names c (top vs)
top_names c [] a = nil_names c
top_names c (v ∷ vs) a = a.0

below_names : (c : Config Placed) (vs : List Value) → Each (Names c) vs → Each (Names c) (below vs)
below_names c [] a = tt
below_names c (v ∷ vs) a = a.1

dropped_names : (c : Config Placed) (n : ℕ) (vs : List Value) → Each (Names c) vs → Each (Names c) (dropped n vs)
dropped_names c zero vs a = a
dropped_names c (suc n) vs a = dropped_names c n (below vs) (below_names c vs a)

sent_there : (c : Config Placed) (v : Value) (go : ℕ → C.Kind) (b : ℕ) → Names c v → ((r : ℕ) → goes_to (kind_of (go r)) ≡ Some r) → goes_to (kind_of (sent_kind v go)) ≡ Some b → IsThere c b
sent_there c (V.Ref r) go b names is h = let s : r ≡ b = same_some (sym (is r) ∙ h) in names b (ap V.Ref s)
sent_there c V.Nil go b names is h = absurd (cc)
sent_there c (V.Int z) go b names is h = absurd (cc)
sent_there c (V.Bool z) go b names is h = absurd (cc)

pub receiver_at : (c : Config Placed) (f : Frame) (z : Option Instr) (b : ℕ) → Each (Names c) f.operands → goes_to (kind_of (instr_kind f z)) ≡ Some b → IsThere c b
receiver_at c f (Some (I.Send m n)) b a h = sent_there c (top (dropped n f.operands)) (λ r. C.Send r m (taken n f.operands [])) b (top_names c _ (dropped_names c n f.operands a)) (λ r. refl) h
receiver_at c f (Some (I.Async m n)) b a h = sent_there c (top (dropped n f.operands)) (λ r. C.Async r m (taken n f.operands [])) b (top_names c _ (dropped_names c n f.operands a)) (λ r. refl) h
receiver_at c f (Some (I.Oper op)) b a h = absurd (nothing_is _ b (outcome_none goes_to refl (λ e. refl) (λ a. refl) (operated op f.operands)) h)
receiver_at c f (Some (I.Branch n)) b a h = absurd (nothing_is _ b (branch_none goes_to refl (λ e. refl) (λ a. refl) (is_bool (top f.operands))) h)
receiver_at c f (Some (I.Select alts)) b a h = absurd (nothing_is _ b (select_none goes_to refl (λ e. refl) (λ a. refl) alts (taken (length alts) f.operands [])) h)
receiver_at c f (Some I.Ret) b a h = absurd (nothing_is _ b (return_none goes_to refl (λ e. refl) (λ a. refl) f.serves (top f.operands) (λ k. refl)) h)
receiver_at c f (Some I.Post) b a h = absurd (nothing_is _ b (return_none goes_to refl (λ e. refl) (λ a. refl) f.serves (top f.operands) (λ k. refl)) h)
receiver_at c f None b a h = absurd (cc)
receiver_at c f (Some _) b a h = absurd (cc)

back_is : (s : Serves) (v : Value) (k : ℕ) → goes_back (kind_of (return_kind s v)) ≡ Some k → (n : ℕ) × (s ≡ S.Caller k n)
back_is (S.Caller j n) v k h = (n, ap (λ q. S.Caller q n) (same_some h))
back_is S.Own v k h = absurd (cc)
back_is S.Sender v k h = absurd (cc)

pub return_at : (f : Frame) (z : Option Instr) (k : ℕ) → goes_back (kind_of (instr_kind f z)) ≡ Some k → (n : ℕ) × (f.serves ≡ S.Caller k n)
return_at f (Some I.Ret) k h = back_is f.serves (top f.operands) k h
return_at f (Some I.Post) k h = back_is f.serves (top f.operands) k h
return_at f (Some (I.Oper op)) k h = absurd (nothing_is _ k (outcome_none goes_back refl (λ e. refl) (λ a. refl) (operated op f.operands)) h)
return_at f (Some (I.Branch a)) k h = absurd (nothing_is _ k (branch_none goes_back refl (λ e. refl) (λ a. refl) (is_bool (top f.operands))) h)
return_at f (Some (I.Select alts)) k h = absurd (nothing_is _ k (select_none goes_back refl (λ e. refl) (λ a. refl) alts (taken (length alts) f.operands [])) h)
return_at f (Some (I.Send m n)) k h = absurd (nothing_is _ k (sent_none goes_back refl (λ e. refl) (λ a. refl) (top (dropped n f.operands)) (λ r. C.Send r m (taken n f.operands [])) (λ r. refl)) h)
return_at f (Some (I.Async m n)) k h = absurd (nothing_is _ k (sent_none goes_back refl (λ e. refl) (λ a. refl) (top (dropped n f.operands)) (λ r. C.Async r m (taken n f.operands [])) (λ r. refl)) h)
return_at f None k h = absurd (cc)
return_at f (Some _) k h = absurd (cc)

-- the class of a name is there
pub class_there : (n c : ℕ) (ks : List ClassCode) (j : ℕ) → class_from n ks (record { 0 = c }) ≡ Some j → (i : ℕ) × (k : ClassCode) × (j ≡ n + i) × (slice_get ks i ≡ Some k)
class_there n c [] j h = absurd (cc)
class_there n c (k ∷ ks) j h = by (k.name.0 == c) refl (class_there (suc n) c ks j)
  where
    by : (b : Bool) → (k.name.0 == c) ≡ b → (class_from (suc n) ks (record { 0 = c }) ≡ Some j → (i : ℕ) × (l : ClassCode) × (j ≡ suc n + i) × (slice_get ks i ≡ Some l)) → (i : ℕ) × (l : ClassCode) × (j ≡ n + i) × (slice_get (k ∷ ks) i ≡ Some l)
    by true e rest = let s : n ≡ j = same_some (rw e at h) in (0, k, omega (arith, s), refl)
    by false e rest = let r = rest (rw e at h) in let s = r.2 in (suc r.0, r.1, omega (arith, s), r.3)
