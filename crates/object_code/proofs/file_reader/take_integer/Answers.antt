use Rattle.std.proofs.Common.{◌≡◌, refl, sym, ap, ◌∙◌, ℕ, suc, ℤ, ◌-◌, ◌<◌, ◌≤◌, length, take, drop, get_or, [], ◌∷◌, arith}
use Rattle.std.specs.Prelude.{◌^◌}
use Rattle.std.specs.Int.{w64, from_be_bytes, cast_signed, cast_unsigned}
use Rattle.std.proofs.lemmas.Int.{of_z-to_z}
use Rattle.text_scan.specs.Text.{Text}
use Rattle.code_semantics.specs.declared.unit.Instr.TheVariants as I
use Rattle.object_code.specs.Read.{Got, Stop}
use Rattle.object_code.specs.Decode.{read_integer}
use Rattle.object_code.proofs.file_reader.take_integer.Goals as goal

few : (bs : Text) → length bs < 8 → read_integer bs ≡ Stop 0
few [] h = refl
few (a ∷ []) h = refl
few (a ∷ b ∷ []) h = refl
few (a ∷ b ∷ c ∷ []) h = refl
few (a ∷ b ∷ c ∷ d ∷ []) h = refl
few (a ∷ b ∷ c ∷ d ∷ e ∷ []) h = refl
few (a ∷ b ∷ c ∷ d ∷ e ∷ f ∷ []) h = refl
few (a ∷ b ∷ c ∷ d ∷ e ∷ f ∷ g ∷ []) h = refl
few (a ∷ b ∷ c ∷ d ∷ e ∷ f ∷ g ∷ k ∷ rest) h = absurd (omega (arith, h))

take_all : (bs : Text) → take (length bs) bs ≡ bs
take_all [] = refl
take_all (b ∷ bs) = ap (λ z. b ∷ z) (take_all bs)

enough : (bs : Text) (n : ℕ) (z : ℤ) → 8 ≤ length bs → n < 2 ^ 64
    → n ≡ from_be_bytes w64 (get_or bs 0 0 ∷ get_or bs 1 0 ∷ get_or bs 2 0 ∷ get_or bs 3 0 ∷ get_or bs 4 0 ∷ get_or bs 5 0 ∷ get_or bs 6 0 ∷ get_or bs 7 0 ∷ []) → z ≡ cast_signed w64 n
    → read_integer bs ≡ Got (I.PushInt (cast_signed w64 (cast_unsigned w64 z))) (take (length bs - 8) (drop 8 bs))
enough [] n z h small e f = absurd (omega (arith, h))
enough (a ∷ []) n z h small e f = absurd (omega (arith, h))
enough (a ∷ b ∷ []) n z h small e f = absurd (omega (arith, h))
enough (a ∷ b ∷ c ∷ []) n z h small e f = absurd (omega (arith, h))
enough (a ∷ b ∷ c ∷ d ∷ []) n z h small e f = absurd (omega (arith, h))
enough (a ∷ b ∷ c ∷ d ∷ p ∷ []) n z h small e f = absurd (omega (arith, h))
enough (a ∷ b ∷ c ∷ d ∷ p ∷ q ∷ []) n z h small e f = absurd (omega (arith, h))
enough (a ∷ b ∷ c ∷ d ∷ p ∷ q ∷ r ∷ []) n z h small e f = absurd (omega (arith, h))
enough (a ∷ b ∷ c ∷ d ∷ p ∷ q ∷ r ∷ s ∷ rest) n z h small e f =
    let k : suc (suc (suc (suc (suc (suc (suc (suc (length rest)))))))) - 8 ≡ length rest = omega arith in
    ap (λ m. Got (I.PushInt (cast_signed w64 m)) rest) (sym e) ∙ ap (λ m. Got (I.PushInt (cast_signed w64 m)) rest) (sym (of_z-to_z w64 n small))
    ∙ ap (λ y. Got (I.PushInt (cast_signed w64 (cast_unsigned w64 y))) rest) (sym f)
    ∙ ap (Got (I.PushInt (cast_signed w64 (cast_unsigned w64 z)))) (sym (take_all rest) ∙ ap (λ m. take m rest) (sym k))

pub returns-in-len8-up : goal.returns-in-len8-up
returns-in-len8-up c =
    enough c.args.bytes.now c.from_be_bytes-bits.result c.cast_signed.result c.in-len8-up.len_at_least c.from_be_bytes-bits.type_inv c.from_be_bytes-bits.ensures c.cast_signed.ensures

pub returns-in_default : goal.returns-in_default
returns-in_default c = few c.args.bytes.now c.in_default.len_below
