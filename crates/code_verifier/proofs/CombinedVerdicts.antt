-- The answer that agrees with a verdict made of two.
use Rattle.std.proofs.Common.{◌≡◌, refl, sym, ap, ◌∙◌, ℕ, Option, Some, None, Bool, true, false, not, length, Result, Ok, Err}
use Rattle.run_types.proofs.Laws.{same_some}
use Rattle.code_semantics.specs.declared.file.UnitFile.{UnitFile}
use Rattle.code_typing.specs.Sorts.{Declared, scope_by}
use Rattle.code_typing.specs.Verdict.{Verdict, Header, Code, bad_code, bad_method, fault_if, is_well_sorted, or_else}
use Rattle.code_verifier.specs.declared.fault.VerifyFault.{VerifyFault}
use Rattle.code_verifier.specs.declared.fault.VerifyFault.TheVariants as F
use Rattle.code_verifier.specs.VerdictAnswer.{Judged}

-- a fault of the first is that of both
pub err_first : (e : VerifyFault) (a : Option Verdict) (next : Unit {0} → Option Verdict) → Judged (Err e) a → Judged (Err e) (or_else a next)
err_first (F.Header j) a next h o t = ap (λ x. or_else x next) (h (Some (Header j)) refl) ∙ same_some t
err_first (F.Code j i) a next h o t = ap (λ x. or_else x next) (h (Some (Code j i)) refl) ∙ same_some t
err_first F.Memory a next h o t = absurd (let z : None ≡ Some o = t in cc)

-- a fault is passed on
pub err_on : (e : VerifyFault) (a b : Option Verdict) → ((v : Verdict) → a ≡ Some v → b ≡ Some v) → Judged (Err e) a → Judged (Err e) b
err_on (F.Header j) a b on h o t = on (Header j) (h (Some (Header j)) refl) ∙ same_some t
err_on (F.Code j i) a b on h o t = on (Code j i) (h (Some (Code j i)) refl) ∙ same_some t
err_on F.Memory a b on h o t = absurd (let z : None ≡ Some o = t in cc)

module _ (f : UnitFile) (j : ℕ) (k : Declared) (methods : bad_method f k j 0 k.code.methods k.kinds.methods ≡ None) where
  class_is : bad_code f j (Some k) ≡ fault_if (not (is_well_sorted (scope_by f k None) k.code.body.frame_words k.code.body.code)) (Code j (length k.code.methods))
  class_is =
      ap (λ a. or_else a (λ u. fault_if (not (is_well_sorted (scope_by f k None) k.code.body.frame_words k.code.body.code)) (Code j (length k.code.methods)))) methods

module _ (f : UnitFile) (j : ℕ) (k : Declared) where
  -- the first of the methods that is not well sorted is that of the class
  pub class_first : (e : VerifyFault) → Judged (Err e) (bad_method f k j 0 k.code.methods k.kinds.methods) → Judged (Err e) (bad_code f j (Some k))
  class_first e h =
      err_first e (bad_method f k j 0 k.code.methods k.kinds.methods) (λ u. fault_if (not (is_well_sorted (scope_by f k None) k.code.body.frame_words k.code.body.code)) (Code j (length k.code.methods))) h

  -- and behind them comes the body
  pub class_then : (u : Unit {0}) (r : Result (Unit {0}) VerifyFault) → Judged (Ok u) (bad_method f k j 0 k.code.methods k.kinds.methods)
      → Judged r (fault_if (not (is_well_sorted (scope_by f k None) k.code.body.frame_words k.code.body.code)) (Code j (length k.code.methods))) → Judged r (bad_code f j (Some k))
  class_then u r h n o t = class_is f j k (h None refl) ∙ n o t

module _ (b : Bool) where
  pub wrong_told : (j i : ℕ) → false ≡ b → Judged (Err (F.Code j i)) (fault_if (not b) (Code j i))
  wrong_told j i e o t = ap (λ c. fault_if (not c) (Code j i)) (sym e) ∙ same_some t

  pub right_told : (u : Unit {0}) (v : Verdict) → true ≡ b → Judged (Ok u) (fault_if (not b) v)
  right_told u v e o t = ap (λ c. fault_if (not c) v) (sym e) ∙ same_some t
