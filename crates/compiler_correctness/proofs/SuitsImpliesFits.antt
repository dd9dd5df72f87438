-- A placement that suits the code of a program fits the program.
use Rattle.std.proofs.Common.{◌≡◌, refl, ap, ◌∙◌, ℕ, zero, suc, ◌*◌, ◌<◌, ◌≤◌, List, [], ◌∷◌, length, Some, All, slice_get, arith}
use Rattle.std.proofs.lemmas.List.Elements.{All-head, All-tail}
use Rattle.run_types.specs.declared.types.Place.{Place}
use Rattle.run_types.specs.declared.types.Place.TheVariants as P
use Rattle.run_types.specs.declared.types.Placement.{Placement}
use Rattle.pool_syntax.specs.Terms.{ProgramTree}
use Rattle.code_semantics.specs.declared.unit.Unit.{Unit as Code}
use Rattle.code_semantics.specs.Suits.{IsOfMesh, Suits}
use Rattle.code_semantics.specs.NodeWords.{nodes}
use Rattle.pool_compile.specs.Code.{code}
use Rattle.mesh_semantics.specs.FitFor.{FitFor}
use Rattle.mesh_of_terms.specs.Terms.{class_names, terms}

as_many : (p : ProgramTree) → length (code p) ≡ length (class_names p)
as_many [] = refl
as_many (k ∷ ks) = ap suc (as_many ks)

-- a place of the list that names a node
on_mesh : (n : ℕ) (ps : List Place) (i k : ℕ) → All (IsOfMesh n) ps → slice_get ps i ≡ Some (P.At k) → k < n
on_mesh n [] i k a h = absurd (cc)
on_mesh n (q ∷ ps) zero k a h = by q (All-head (IsOfMesh n) q ps a) h
  where
    by : (q : Place) → IsOfMesh n q → Some q ≡ Some (P.At k) → k < n
    by (P.At j) b e = let same : j ≡ k = cc in rw same at b
    by _ b e = absurd (cc)
on_mesh n (q ∷ ps) (suc i) k a h = on_mesh n ps i k (All-tail (IsOfMesh n) q ps a) h

some_node : (w h : ℕ) → 1 ≤ w → 1 ≤ h → 0 < w * h
some_node zero h a b = absurd (omega (arith, a))
some_node (suc w) h a b = omega (arith, b)

pub suits_fits : (p : ProgramTree) (u : Code) (l : Placement) → u.classes ≡ code p → Suits l u → FitFor (terms p) l
suits_fits p u l unit s = record {
  ways = s.ways;
  nodes = some_node l.width l.height s.width.0 s.height.0;
  objects = (s.objects.0, (let most = s.objects.1 in omega (arith, most)));
  frames = s.frames.0;
  count = s.places ∙ ap length unit ∙ as_many p;
  places = λ i k h. on_mesh (nodes l) l.places i k s.each h;
}
