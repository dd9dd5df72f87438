-- The answer on a whole file.
use Rattle.std.proofs.Common.{◌≡◌, ◌≢◌, ◌⊎◌, inl, inr, refl, sym, ap, ◌∙◌, ℕ, ◌==◌, length, Some, None, Bool, true, false, Result, Ok, Err}
use Rattle.run_types.proofs.Laws.{equal, same_some}
use Rattle.code_semantics.specs.declared.file.UnitFile.{UnitFile}
use Rattle.code_typing.specs.Verdict.{Verdict, Good, Header, Code, bad_codes, bad_heading, fault_if, good_unless, or_else, verdict}
use Rattle.code_typing.proofs.Laws.{no_class}
use Rattle.code_verifier.specs.declared.fault.VerifyFault.{VerifyFault}
use Rattle.code_verifier.specs.declared.fault.VerifyFault.TheVariants as F
use Rattle.code_verifier.specs.VerdictAnswer.{IsAnswer, Judged, told}

verdict_is : (f : UnitFile) → length f.unit.classes ≢ 0 → verdict f ≡ good_unless (or_else (bad_heading f (length f.unit.classes) 0) (λ v. bad_codes f (length f.unit.classes) 0))
verdict_is f h = by (length f.unit.classes == 0) refl
  where
    by : (b : Bool) → (length f.unit.classes == 0) ≡ b → verdict f ≡ good_unless (or_else (bad_heading f (length f.unit.classes) 0) (λ v. bad_codes f (length f.unit.classes) 0))
    by false e =
        ap (λ b. good_unless (or_else (fault_if b (Header 0)) (λ u. or_else (bad_heading f (length f.unit.classes) 0) (λ v. bad_codes f (length f.unit.classes) 0)))) e
    by true e = absurd (h (equal (length f.unit.classes) 0 e))

module _ (f : UnitFile) where
  -- without a class
  pub empty_told : length f.unit.classes ≡ 0 → IsAnswer (Err (F.Header 0)) (verdict f)
  empty_told e o t = no_class f e ∙ ap good_unless (same_some t)

  pub memory_told : (e : VerifyFault) (v : Verdict) → e ≡ F.Memory → IsAnswer (Err e) v
  memory_told e v q o t = absurd (let z : None ≡ Some o = sym (ap (λ x. told (Err x)) q) ∙ t in cc)

  module _ (h : length f.unit.classes ≢ 0) where
    pub header_told : (j : ℕ) → bad_heading f (length f.unit.classes) 0 ≡ Some (Header j) → IsAnswer (Err (F.Header j)) (verdict f)
    header_told j e o t =
        verdict_is f h ∙ ap (λ a. good_unless (or_else a (λ v. bad_codes f (length f.unit.classes) 0))) e ∙ ap good_unless (same_some t)

    pub codes_told : (r : Result (Unit {0}) VerifyFault) → bad_heading f (length f.unit.classes) 0 ≡ None → Judged r (bad_codes f (length f.unit.classes) 0) → IsAnswer r (verdict f)
    codes_told r e j o t = verdict_is f h ∙ ap (λ a. good_unless (or_else a (λ v. bad_codes f (length f.unit.classes) 0))) e ∙ ap good_unless (j o t)

-- what follows of an answer
module _ (v : Verdict) where
  pub answer_good : (u : Unit {0}) → IsAnswer (Ok u) v → v ≡ Good
  answer_good u h = h None refl

  pub answer_header : (e : VerifyFault) → IsAnswer (Err e) v → (j : ℕ) → e ≡ F.Header j → v ≡ Header j
  answer_header (F.Header i) h j q = h (Some (Header i)) refl ∙ (let z : i ≡ j = cc in ap Header z)
  answer_header (F.Code i k) h j q = absurd (cc)
  answer_header F.Memory h j q = absurd (cc)

  pub answer_code : (e : VerifyFault) → IsAnswer (Err e) v → (j i : ℕ) → e ≡ F.Code j i → v ≡ Code j i
  answer_code (F.Header n) h j i q = absurd (cc)
  answer_code (F.Code n k) h j i q = h (Some (Code n k)) refl ∙ (let z : n ≡ j = cc in let y : k ≡ i = cc in ap (λ x. Code x k) z ∙ ap (Code j) y)
  answer_code F.Memory h j i q = absurd (cc)

  pub only_good : (e : VerifyFault) → IsAnswer (Err e) v → v ≡ Good → e ≡ F.Memory
  only_good (F.Header i) h q = absurd (let z : Good ≡ Header i = sym q ∙ h (Some (Header i)) refl in cc)
  only_good (F.Code i k) h q = absurd (let z : Good ≡ Code i k = sym q ∙ h (Some (Code i k)) refl in cc)
  only_good F.Memory h q = refl

  pub only_header : (e : VerifyFault) → IsAnswer (Err e) v → (j : ℕ) → v ≡ Header j → (e ≡ F.Header j) ⊎ (e ≡ F.Memory)
  only_header (F.Header i) h j q = inl (let z : Header i ≡ Header j = sym (h (Some (Header i)) refl) ∙ q in let y : i ≡ j = cc in ap F.Header y)
  only_header (F.Code i k) h j q = absurd (let z : Header j ≡ Code i k = sym q ∙ h (Some (Code i k)) refl in cc)
  only_header F.Memory h j q = inr refl

  pub only_code : (e : VerifyFault) → IsAnswer (Err e) v → (j i : ℕ) → v ≡ Code j i → (e ≡ F.Code j i) ⊎ (e ≡ F.Memory)
  only_code (F.Header n) h j i q = absurd (let z : Code j i ≡ Header n = sym q ∙ h (Some (Header n)) refl in cc)
  only_code (F.Code n k) h j i q =
      inl (let z : Code n k ≡ Code j i = sym (h (Some (Code n k)) refl) ∙ q in let x : n ≡ j = cc in let y : k ≡ i = cc in ap (λ m. F.Code m k) x ∙ ap (F.Code j) y)
  only_code F.Memory h j i q = inr refl

  pub not_header : (u : Unit {0}) → IsAnswer (Ok u) v → (j : ℕ) → v ≢ Header j
  not_header u h j q = let z : Good ≡ Header j = sym (h None refl) ∙ q in absurd (cc)

  pub not_code : (u : Unit {0}) → IsAnswer (Ok u) v → (j i : ℕ) → v ≢ Code j i
  not_code u h j i q = let z : Good ≡ Code j i = sym (h None refl) ∙ q in absurd (cc)
