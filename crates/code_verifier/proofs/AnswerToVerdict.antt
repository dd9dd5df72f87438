-- The verdict on a file, from the verifier's answer.
use Rattle.std.proofs.Common.{◌≡◌, ◌⊎◌, inl, inr, refl, ap, ℕ, Result, Ok, Err, None}
use Rattle.code_semantics.specs.declared.file.UnitFile.{UnitFile}
use Rattle.code_typing.specs.Verdict.{Verdict, Good, Header, Code, verdict}
use Rattle.code_typing.specs.Verified.{IsVerified}
use Rattle.code_typing.proofs.Laws.{good_is_verified}
use Rattle.code_verifier.specs.declared.fault.VerifyFault.{VerifyFault}
use Rattle.code_verifier.specs.declared.fault.VerifyFault.TheVariants as F
use Rattle.code_verifier.specs.VerdictAnswer.{IsAnswer}
use Rattle.code_verifier.proofs.AnswerLaws.{only_code, only_good, only_header}

pub good_told : (f : UnitFile) (u : Unit {0}) → IsAnswer (Ok u) (verdict f) → verdict f ≡ Good
good_told f u h = h None refl

pub verified_told : (f : UnitFile) (u : Unit {0}) → IsAnswer (Ok u) (verdict f) → IsVerified f
verified_told f u h = good_is_verified f (h None refl)

module _ (B : Type 0) (v : Verdict) (e : VerifyFault) (h : IsAnswer (Err e) v) where
  pub good_only : v ≡ Good → ◌≡◌ {A = Result B VerifyFault} (Err e) (Err F.Memory)
  good_only q = ap (λ x. Err x) (only_good v e h q)

  pub header_only : (j : ℕ) → v ≡ Header j → (◌≡◌ {A = Result B VerifyFault} (Err e) (Err (F.Header j))) ⊎ (◌≡◌ {A = Result B VerifyFault} (Err e) (Err F.Memory))
  header_only j q = by (only_header v e h j q)
    where
      by : (e ≡ F.Header j) ⊎ (e ≡ F.Memory) → (◌≡◌ {A = Result B VerifyFault} (Err e) (Err (F.Header j))) ⊎ (◌≡◌ {A = Result B VerifyFault} (Err e) (Err F.Memory))
      by (inl z) = inl (ap (λ x. Err x) z)
      by (inr z) = inr (ap (λ x. Err x) z)

  pub code_only : (j i : ℕ) → v ≡ Code j i → (◌≡◌ {A = Result B VerifyFault} (Err e) (Err (F.Code j i))) ⊎ (◌≡◌ {A = Result B VerifyFault} (Err e) (Err F.Memory))
  code_only j i q = by (only_code v e h j i q)
    where
      by : (e ≡ F.Code j i) ⊎ (e ≡ F.Memory) → (◌≡◌ {A = Result B VerifyFault} (Err e) (Err (F.Code j i))) ⊎ (◌≡◌ {A = Result B VerifyFault} (Err e) (Err F.Memory))
      by (inl z) = inl (ap (λ x. Err x) z)
      by (inr z) = inr (ap (λ x. Err x) z)
