-- A text decodes to at most one file, and a text with a fault is not a verified file.
use Rattle.std.proofs.Common.{◌≡◌, ◌∙◌, ◌⊎◌, inl, inr, ℕ, length, None, Result, Err, refl, sym, subst, arith}
use Rattle.text_scan.specs.Text.{Text}
use Rattle.code_semantics.specs.declared.file.UnitFile.{UnitFile}
use Rattle.object_code.specs.Decode.{Decoded, Says, BadBytes, NameTwice, decode}
use Rattle.code_typing.specs.Faults.{IsBadCode, IsBadHeading, IsBadMethod}
use Rattle.code_typing.specs.Sorts.{scope_by}
use Rattle.code_typing.specs.Verified.{IsVerified, IsWellSorted}
use Rattle.code_verifier.specs.declared.fault.VerifyFault.{VerifyFault}
use Rattle.code_verifier.specs.declared.fault.VerifyFault.TheVariants as V
use Rattle.command_inputs.specs.declared.fault.UnitFault.{UnitFault}
use Rattle.command_inputs.specs.declared.fault.UnitFault.TheVariants as U
use Rattle.pool_driver.specs.UnitFiles.{IsUnitFault, IsVerifiedFile}
use Rattle.pool_driver.specs.UnitOfFile.{fault_of_code}

pub said_once : (s : Text) (f g : UnitFile) → decode s ≡ Says f → decode s ≡ Says g → f ≡ g
said_once s f g a b = let z : ◌≡◌ {A = Decoded} (Says f) (Says g) = sym a ∙ b in cc

no_heading : (f : UnitFile) (j : ℕ) → IsVerified f → ((length f.unit.classes ≡ 0) × (j ≡ 0)) ⊎ IsBadHeading f j → ⊥
no_heading f j v (inl e) = let z = v.some in let n = e.0 in absurd (omega (arith, z, n))
no_heading f j v (inr b) = b.bad (v.headings j b.class b.is_class)

no_code : (f : UnitFile) (j i : ℕ) → IsVerified f → IsBadCode f j i → ⊥
no_code f j i v b = by b.bad
  where
    by : IsBadMethod f b.class i ⊎ ((i ≡ length b.class.code.methods) × ¬ (IsWellSorted (scope_by f b.class None) b.class.code.body.frame_words b.class.code.body.code)) → ⊥
    by (inl m) = m.bad ((v.codes j b.class b.is_class).methods i m.method m.kinds m.is_method m.has_kinds)
    by (inr e) = e.1 (v.codes j b.class b.is_class).body

pub refused : (s : Text) (e : UnitFault) (f : UnitFile) → IsUnitFault s e → IsVerifiedFile s f → ⊥
refused s (U.BadBytes at) f h v = let z : ◌≡◌ {A = Decoded} (BadBytes at) (Says f) = sym h ∙ v.said in absurd (cc)
refused s (U.NameTwice place) f h v = let z : ◌≡◌ {A = Decoded} (NameTwice place) (Says f) = sym h ∙ v.said in absurd (cc)
refused s (U.Header j) f h v = no_heading h.0 j (subst IsVerified (said_once s f h.0 v.said h.1) v.verified) h.2
refused s (U.Code j i) f h v = no_code h.0 j i (subst IsVerified (said_once s f h.0 v.said h.1) v.verified) h.2
refused s U.Memory f h v = h

-- what the verifier says of the file
pub verify_fault : {A : Type 0} (s : Text) (f : UnitFile) (e : VerifyFault) (u : UnitFault) → u ≡ fault_of_code e → decode s ≡ Says f
    → ((j : ℕ) → ◌≡◌ {A = Result A VerifyFault} (Err e) (Err (V.Header j)) → ((length f.unit.classes ≡ 0) × (j ≡ 0)) ⊎ IsBadHeading f j)
    → ((j i : ℕ) → ◌≡◌ {A = Result A VerifyFault} (Err e) (Err (V.Code j i)) → IsBadCode f j i)
    → (u ≡ U.Memory) ⊎ IsUnitFault s u
verify_fault s f (V.Header j) u is said heading code = inr (subst (IsUnitFault s) (sym is) (f, said, heading j refl))
verify_fault s f (V.Code j i) u is said heading code = inr (subst (IsUnitFault s) (sym is) (f, said, code j i refl))
verify_fault s f V.Memory u is said heading code = inl is
