-- A new object on a node to which the link is cut, by routes over two other nodes, computed line by line.
--
-- class Child body write 7 end
-- class Main var c : Child body c := new Child; write 1 end
use Rattle.std.proofs.Common.{◌≡◌, inl, inr, refl, ℕ, [], ◌∷◌, Some, arith}
use Rattle.run_types.specs.declared.types.Label.TheVariants as L
use Rattle.run_types.specs.declared.types.What.TheVariants as W
use Rattle.run_types.specs.declared.types.Event.TheVariants.{Turn, Link}
use Rattle.run_types.specs.declared.types.End.TheVariants.{Quiet}
use Rattle.run_types.specs.declared.types.Place.TheVariants as P
use Rattle.run_types.specs.declared.types.Placement.{Placement}
use Rattle.pool_syntax.specs.Terms.{ProgramTree, Write}
use Rattle.mesh_semantics.specs.Act.{id}
use Rattle.run_types.specs.Paths.{path}
use Rattle.mesh_semantics.specs.RecordOf.{record_of}
use Rattle.run_types.specs.Routes.{without_route}
use Rattle.run_types.specs.RoutedPlacements.{IsRouted}
use Rattle.run_types.specs.PathFacts.{Ways}
use Rattle.run_types.proofs.Laws.{routed_ways}
use Rattle.mesh_of_terms.specs.Terms.{terms}
use Rattle.mesh_of_terms.proofs.Shorthand.{var, object_of_class, class, block, number, new, set, mesh, turns, at, step, local, written, lines}

abbrev Child : ℕ
Child = 0

abbrev Main : ℕ
Main = 1

abbrev c : ℕ
c = 2

abbrev program : ProgramTree
program = class Child [] [] (block (Write (number 7) ∷ [])) ∷ class Main (var c (object_of_class Child) ∷ []) [] (block (set c (new Child) ∷ Write (number 1) ∷ [])) ∷ []

abbrev placement : Placement
placement = record (mesh 2 2 (P.At 1 ∷ P.Same ∷ [])) {
  cuts = record { from = 0; to = 1 } ∷ [];
  routes = record { at = 0; goal = 1; next = 2 } ∷ record { at = 0; goal = 3; next = 2 } ∷ [];
}

-- each pair of nodes has a path, though the link is cut
routed : IsRouted placement
routed = record {
  width = (omega arith, omega arith);
  height = (omega arith, omega arith);
  cuts = ((omega arith, omega arith, inl (refl, inl refl)), refl, tt);
  routes = (
    (omega arith, omega arith, inr (refl, inl refl)),
    omega arith,
    (λ e. absurd (omega (arith, e))),
    refl,
    ((omega arith, omega arith, inr (refl, inl refl)), omega arith, (λ e. absurd (omega (arith, e))), refl, tt),
  );
}

has_ways : Ways placement
has_ways = routed_ways placement routed refl

around : path placement 0 1 ≡ (0, 2) ∷ (2, 3) ∷ (3, 1) ∷ []
around = refl

-- without the second route the path from 0 to 3 takes the cut link
first_without_route : without_route (record placement { routes = record { at = 0; goal = 1; next = 2 } ∷ [] }) ≡ Some (0, 3)
first_without_route = refl

a_create_around_a_cut_link : (record_of (terms program) placement 5 (Turn 0 ∷ Link 0 2 ∷ Link 2 3 ∷ Link 3 1 ∷ Turn 1 ∷ Link 1 0 ∷ turns 0 2)).lines ≡
    lines (
    (Turn 0, W.PostCreate (at 0 0) (id Child) 1)
    ∷ (Link 0 2, W.Pass)
    ∷ (Link 2 3, W.Pass)
    ∷ (Link 3 1, step (L.New (at 0 0) (at 1 0) (id Child)))
    ∷ (Turn 1, written (at 1 0) 7)
    ∷ (Link 1 0, W.Created (at 0 0) (at 1 0))
    ∷ (Turn 0, local (at 0 0) 1)
    ∷ (Turn 0, written (at 0 0) 1)
    ∷ []
    ) (Quiet 8)
a_create_around_a_cut_link = refl
