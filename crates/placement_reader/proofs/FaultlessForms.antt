-- The facts of forms without fault.
use Rattle.std.proofs.Common.{◌≡◌, refl, ap, subst, ◌∙◌, ℕ, ◌<◌, zero, suc, ◌+◌, List, [], ◌∷◌, ◌++◌, map, length, Option, Some, None, IfSome, Bool, true, false}
use Rattle.std.specs.List.{All, range_with_len}
use Rattle.std.proofs.lemmas.List.FromFn.{length-map-range_with_len}
use Rattle.std.proofs.lemmas.List.Elements.{All-cons, All-nil}
use Rattle.code_semantics.specs.Suits.{IsFromTo, IsOfMesh}
use Rattle.placement_reader.specs.declared.form.Count.{Count}
use Rattle.placement_reader.specs.declared.form.Count.TheVariants as C
use Rattle.placement_reader.specs.declared.form.Form.{Form}
use Rattle.placement_reader.specs.declared.form.Form.TheVariants as form
use Rattle.placement_reader.specs.declared.form.Spot.{Spot}
use Rattle.placement_reader.specs.declared.form.Spot.TheVariants as S
use Rattle.text_scan.specs.ContentLines.{Kept}
use Rattle.code_semantics.specs.declared.unit.Unit.{Unit as Code}
use Rattle.placement_reader.specs.Placements.{first_fault, forms_of, places_of, with_form}
use Rattle.std.specs.Option.{option_or}
use Rattle.placement_reader.specs.Forms.{fault_or_bad, form_of, is_class, is_kind, most, number_in, place_of, place_or_same, spot_in}
use Rattle.placement_reader.specs.ReaderFacts.{AreWellFormed, IsWellFormed}

pub fine_push : (nodes : ℕ) (fs : List Form) (f : Form) → AreWellFormed nodes fs → IsWellFormed nodes f → AreWellFormed nodes (fs ++ f ∷ [])
fine_push nodes [] f h one = (one, tt)
fine_push nodes (g ∷ fs) f h one = (h.0, fine_push nodes fs f h.1 one)

chosen : {A : Type 0} (P : A → Type 0) (b : Bool) (x : A) (o : Option A) → P x → IfSome o P → IfSome (elim b [ true ↦ Some x | false ↦ o ]) P
chosen P true x o here later = here
chosen P false x o here later = later

abbrev pub NumberIsWellFormed : Count → Option ℕ → Type 0
NumberIsWellFormed k o = IfSome o (λ n. IsFromTo 1 (most k) n)

-- the range of a kind is that of each equal kind
same_kind : (j k : Count) (n : ℕ) → IsFromTo 1 (most j) n → is_kind j k ≡ true → IsFromTo 1 (most k) n
same_kind C.Objects C.Objects n h e = h
same_kind C.Objects C.Frames n h e = absurd (cc)
same_kind C.Objects C.Cells n h e = absurd (cc)
same_kind C.Frames C.Objects n h e = absurd (cc)
same_kind C.Frames C.Frames n h e = h
same_kind C.Frames C.Cells n h e = absurd (cc)
same_kind C.Cells C.Objects n h e = absurd (cc)
same_kind C.Cells C.Frames n h e = absurd (cc)
same_kind C.Cells C.Cells n h e = h

pub number_fine : (nodes : ℕ) (k : Count) (fs : List Form) → AreWellFormed nodes fs → NumberIsWellFormed k (number_in k fs)
number_fine nodes k [] h = tt
number_fine nodes k (form.Mesh w g ∷ fs) h = number_fine nodes k fs h.1
number_fine nodes k (form.Counted j n ∷ fs) h = by (is_kind j k) (same_kind j k n h.0) (number_fine nodes k fs h.1) where
  by : (b : Bool) → (b ≡ true → IsFromTo 1 (most k) n) → NumberIsWellFormed k (number_in k fs) → NumberIsWellFormed k (elim b [ true ↦ Some n | false ↦ number_in k fs ])
  by true here later = here refl
  by false here later = later
number_fine nodes k (form.Placed c s ∷ fs) h = number_fine nodes k fs h.1
number_fine nodes k (form.Cut a b ∷ fs) h = number_fine nodes k fs h.1
number_fine nodes k (form.Routed a g b ∷ fs) h = number_fine nodes k fs h.1

pub spot_fine : (nodes c : ℕ) (fs : List Form) → AreWellFormed nodes fs → IfSome (spot_in c fs) (λ s. IsOfMesh nodes (place_of s))
spot_fine nodes c [] h = tt
spot_fine nodes c (form.Mesh w g ∷ fs) h = spot_fine nodes c fs h.1
spot_fine nodes c (form.Counted j n ∷ fs) h = spot_fine nodes c fs h.1
spot_fine nodes c (form.Placed d s ∷ fs) h = chosen (λ s. IsOfMesh nodes (place_of s)) (is_class c d) s (spot_in c fs) h.0 (spot_fine nodes c fs h.1)
spot_fine nodes c (form.Cut a b ∷ fs) h = spot_fine nodes c fs h.1
spot_fine nodes c (form.Routed a g b ∷ fs) h = spot_fine nodes c fs h.1

there : (nodes : ℕ) (o : Option Spot) → IfSome o (λ s. IsOfMesh nodes (place_of s)) → IsOfMesh nodes (place_or_same o)
there nodes None h = tt
there nodes (Some s) h = h

pub places_there : (nodes a n : ℕ) (fs : List Form) → AreWellFormed nodes fs → All (IsOfMesh nodes) (map (λ c. place_or_same (spot_in c fs)) (range_with_len a n))
places_there nodes a zero fs h = All-nil (IsOfMesh nodes)
places_there nodes a (suc n) fs h =
    All-cons (IsOfMesh nodes) (place_or_same (spot_in a fs)) (map (λ c. place_or_same (spot_in c fs)) (range_with_len (a + 1) n))
    (there nodes (spot_in a fs) (spot_fine nodes a fs h)) (places_there nodes (a + 1) n fs h)

pub spot_at : (nodes c n : ℕ) (fs : List Form) → AreWellFormed nodes fs → spot_in c fs ≡ Some (S.At n) → n < nodes
spot_at nodes c n fs h e = subst (λ o. IfSome o (λ s. IsOfMesh nodes (place_of s))) e (spot_fine nodes c fs h)

-- a line without fault, and those behind it
pub step_fault : (u : Code) (w nodes : ℕ) (earlier : List Form) (k : Kept) (f : Form) (ks : List Kept)
    → form_of u k.words ≡ Some f → fault_or_bad w nodes k.line earlier (form_of u k.words) ≡ None
    → first_fault u w nodes earlier (k ∷ ks) ≡ first_fault u w nodes (earlier ++ f ∷ []) ks
step_fault u w nodes earlier k f ks e ok =
    ap (λ o. option_or o (first_fault u w nodes (with_form earlier (form_of u k.words)) ks)) ok ∙ ap (λ o. first_fault u w nodes (with_form earlier o) ks) e

pub step_forms : (u : Code) (earlier : List Form) (k : Kept) (f : Form) (ks : List Kept)
    → form_of u k.words ≡ Some f → forms_of u earlier (k ∷ ks) ≡ forms_of u (earlier ++ f ∷ []) ks
step_forms u earlier k f ks e = ap (λ o. forms_of u (with_form earlier o) ks) e

pub counted : (n : ℕ) (fs : List Form) → length (places_of n fs) ≡ n
counted n fs = length-map-range_with_len (λ c. place_or_same (spot_in c fs)) 0 n
