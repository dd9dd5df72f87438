-- The last place of a fitting placement is the place of the last class.
use Rattle.std.proofs.Common.{◌≡◌, refl, ap, subst, ◌∙◌, ℕ, suc, ◌==◌, List, [], ◌∷◌, length, Some, false, slice_get, arith}
use Rattle.run_types.specs.declared.types.Place.{Place}
use Rattle.run_types.specs.declared.types.Placement.{Placement}
use Rattle.pool_syntax.specs.Terms.{ClassTree, ProgramTree}
use Rattle.pool_syntax.specs.Typing.{faults, classes_faults}
use Rattle.pool_relation.specs.Transition.{last_class}
use Rattle.pool_relation.proofs.Laws.{last_first, class_parts}
use Rattle.mesh_semantics.specs.Act.{class_place}
use Rattle.mesh_semantics.specs.Record.{last_place}
use Rattle.mesh_semantics.specs.FitFor.{FitFor}
use Rattle.run_types.proofs.Laws.{equals}
use Rattle.mesh_of_terms.specs.Terms.{class_names, terms}

-- there are as many names as classes
count_names : (ks : ProgramTree) → length (class_names ks) ≡ length ks
count_names [] = refl
count_names (k ∷ ks) = ap suc (count_names ks)

last_is : (p : ProgramTree) (before : List ℕ) (ks : List ClassTree) (ps : List Place) (k : ClassTree) → classes_faults p before ks ≡ [] → length ps ≡ length ks
    → last_class ks ≡ Some k → last_place ps ≡ slice_get ps (class_place (class_names ks) k.name.name.0)
last_is p before [] ps k h n e = absurd (cc)
last_is p before (l ∷ []) [] k h n e = absurd (omega (arith, n))
last_is p before (l ∷ []) (q ∷ []) k h n e =
    let same : l ≡ k = cc in
    subst (λ (c : ClassTree). Some q ≡ slice_get (q ∷ []) (class_place (class_names (l ∷ [])) c.name.name.0)) same (rw (equals l.name.name.0) refl)
last_is p before (l ∷ []) (q ∷ r ∷ ps) k h n e = absurd (omega (arith, n))
last_is p before (l ∷ m ∷ ks) [] k h n e = absurd (omega (arith, n))
last_is p before (l ∷ m ∷ ks) (q ∷ []) k h n e = absurd (omega (arith, n))
last_is p before (l ∷ m ∷ ks) (q ∷ r ∷ ps) k h n e =
    let t = (class_parts p before l (m ∷ ks) h).1 in
    let z = last_first p (l.name.name.0 ∷ before) (m ∷ ks) k t e in
    let s : (l.name.name.0 == k.name.name.0) ≡ false = grind (arith, z.1) in
    let i = last_is p (l.name.name.0 ∷ before) (m ∷ ks) (r ∷ ps) k t (omega (arith, n)) e in
    rw s i

-- the last place is that of the root's class
pub root_place : (p : ProgramTree) (l : Placement) (k : ClassTree) → faults p ≡ [] → FitFor (terms p) l → last_class p ≡ Some k
    → last_place l.places ≡ slice_get l.places (class_place (class_names p) k.name.name.0)
root_place p l k none f e = last_is p [] p l.places k none (f.count ∙ count_names p) e
