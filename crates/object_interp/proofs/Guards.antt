-- The guards of a select, which are its last operands.
use Rattle.std.proofs.Common.{◌≡◌, refl, sym, ap, ◌∙◌, ℕ, zero, suc, ◌+◌, ◌-◌, ◌<◌, ◌≤◌, List, [], ◌∷◌, length, Option, Some, None, Bool, true, false, arith}
use Rattle.std.specs.Prelude.{slice_get, ◌||◌, ◌&&◌, if◌then◌else◌, is_none}
use Rattle.std.specs.List.{list_any}
use Rattle.run_types.specs.declared.types.NameId.{NameId}
use Rattle.run_types.specs.declared.types.Value.{Value}
use Rattle.run_types.specs.declared.types.Value.TheVariants as V
use Rattle.run_types.specs.Values.{is_true, not_bool}
use Rattle.code_semantics.specs.declared.unit.AltCode.{AltCode}
use Rattle.run_types.specs.Operands.{taken, nth}
use Rattle.code_semantics.specs.Kinds.{offers}
use Rattle.object_interp.specs.Choices.{offered_alt}
use Rattle.object_interp.specs.Offers.{offer_at, open_names, is_open_plain}
use Rattle.code_semantics.proofs.Laws.{length_taken}
use Rattle.object_interp.proofs.Operands.{taken_first}

-- the test of all is the test of the one at hand, or of those that are left
pub any_here : (p : Value → Bool) (count done : ℕ) (vs : List Value) (v : Value) → done < count → v ≡ nth vs (count - 1 - done)
    → list_any p (taken (count - done) vs []) ≡ (p v || list_any p (taken (count - (done + 1)) vs []))
any_here p count done vs v h e =
    let n = count - (done + 1) in
    let first : count - done ≡ suc n = omega (arith, h) in
    let here : count - 1 - done ≡ n = omega (arith, h) in
    ap (λ m. list_any p (taken m vs [])) first ∙ ap (list_any p) (taken_first n vs [])
    ∙ ap (λ w. p w || list_any p (taken n vs [])) (sym (e ∙ ap (nth vs) here))

pub is_no_bool : (v : Value) → ((b : Bool) → v ≡ V.Bool b → ⊥) → not_bool v ≡ true
is_no_bool (V.Bool b) h = absurd (h b refl)
is_no_bool (V.Int z) h = refl
is_no_bool (V.Ref b) h = refl
is_no_bool V.Nil h = refl

-- as many alternatives are offered as the select has
pub length_offers : (alts : List AltCode) (guards : List Value) → length alts ≤ length guards → length (offers alts guards) ≡ length alts
length_offers [] guards h = refl
length_offers (a ∷ alts) [] h = absurd (omega (arith, h))
length_offers (a ∷ alts) (v ∷ guards) h = ap suc (length_offers alts guards (omega (arith, h)))

abbrev pub answer_of : Option AltCode → Option (List NameId)
answer_of None = None
answer_of (Some a) = a.answer

abbrev pub is_plain : Option AltCode → Bool
is_plain None = false
is_plain (Some a) = is_none a.answer

names_if : (b : Bool) (a : AltCode) → (if b then a.answer else None) ≡ answer_of (if b then Some a else None)
names_if true a = refl
names_if false a = refl

plain_if : (b : Bool) (a : AltCode) → (b && is_none a.answer) ≡ is_plain (if b then Some a else None)
plain_if true a = refl
plain_if false a = refl

names_none : (b : Bool) → None ≡ answer_of (if b then None else None)
names_none true = refl
names_none false = refl

plain_none : (b : Bool) → false ≡ is_plain (if b then None else None)
plain_none true = refl
plain_none false = refl

names_from : (alts : List AltCode) (guards : List Value) (j : ℕ) → length alts ≤ length guards
    → open_names (slice_get (offers alts guards) j) ≡ answer_of (if is_true (nth guards j) then slice_get alts j else None)
names_from [] guards j h = names_none (is_true (nth guards j))
names_from (a ∷ alts) [] j h = absurd (omega (arith, h))
names_from (a ∷ alts) (v ∷ guards) zero h = names_if (is_true v) a
names_from (a ∷ alts) (v ∷ guards) (suc j) h = names_from alts guards j (omega (arith, h))

plain_from : (alts : List AltCode) (guards : List Value) (j : ℕ) → length alts ≤ length guards
    → is_open_plain (slice_get (offers alts guards) j) ≡ is_plain (if is_true (nth guards j) then slice_get alts j else None)
plain_from [] guards j h = plain_none (is_true (nth guards j))
plain_from (a ∷ alts) [] j h = absurd (omega (arith, h))
plain_from (a ∷ alts) (v ∷ guards) zero h = plain_if (is_true v) a
plain_from (a ∷ alts) (v ∷ guards) (suc j) h = plain_from alts guards j (omega (arith, h))

pub open_names_alt : (alts : List AltCode) (vs : List Value) (i : ℕ)
    → open_names (offer_at (offers alts (taken (length alts) vs [])) i) ≡ answer_of (offered_alt alts (taken (length alts) vs []) i)
open_names_alt alts vs zero = refl
open_names_alt alts vs (suc j) = names_from alts (taken (length alts) vs []) j (omega (arith, length_taken (length alts) vs []))

pub open_plain_alt : (alts : List AltCode) (vs : List Value) (i : ℕ)
    → is_open_plain (offer_at (offers alts (taken (length alts) vs [])) i) ≡ is_plain (offered_alt alts (taken (length alts) vs []) i)
open_plain_alt alts vs zero = refl
open_plain_alt alts vs (suc j) = plain_from alts (taken (length alts) vs []) j (omega (arith, length_taken (length alts) vs []))

pub length_offered : (alts : List AltCode) (vs : List Value) → length (offers alts (taken (length alts) vs [])) ≡ length alts
length_offered alts vs = length_offers alts (taken (length alts) vs []) (omega (arith, length_taken (length alts) vs []))
