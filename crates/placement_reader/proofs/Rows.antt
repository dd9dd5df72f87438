-- Examples of placements, computed for a unit with the classes A and B, of which B has 3 variables.
use Rattle.std.proofs.Common.{◌≡◌, refl, ℕ, [], ◌∷◌}
use Rattle.std.specs.Prelude.{Ok, Err, codes}
use Rattle.run_types.specs.declared.types.Place.TheVariants as P
use Rattle.code_semantics.specs.declared.unit.ClassCode.{ClassCode}
use Rattle.code_semantics.specs.declared.unit.Unit.{Unit as Code}
use Rattle.placement_reader.specs.declared.fault.PlacementFault.TheVariants as F
use Rattle.placement_reader.specs.Placements.{placement_of}

abbrev class : ℕ → ℕ → ClassCode
class name vars = record { name = record { 0 = name }; vars = vars; methods = []; body = record { frame_words = 0; code = [] } }

abbrev unit : Code
unit = record { names = codes "A" ∷ codes "x" ∷ codes "B" ∷ []; classes = class 0 0 ∷ class 2 3 ∷ [] }

what_is_not_said : placement_of unit (codes "mesh 2 1\n") ≡ Ok (record { width = 2; height = 1; objects = 256; frames = 1024; cells = 1024; places = P.Same ∷ P.Same ∷ []; cuts = []; routes = [] })
what_is_not_said = refl

each_line : placement_of unit (codes "# two nodes\nmesh 2 1\ncells 3\nplace B at 1\n\nobjects 7\nframes 9\nplace A spread")
    ≡ Ok (record { width = 2; height = 1; objects = 7; frames = 9; cells = 3; places = P.Spread ∷ P.At 1 ∷ []; cuts = []; routes = [] })
each_line = refl

too_many_words : placement_of unit (codes "mesh 8 8\nframes 16384") ≡ Err (F.TooLarge 102285312)
too_many_words = refl

a_mesh_of_nine : placement_of unit (codes "mesh 9 1") ≡ Err (F.OutOfRange 1)
a_mesh_of_nine = refl

a_name_that_is_no_class : placement_of unit (codes "mesh 1 1\nplace x at 7") ≡ Err (F.UnknownClass 2)
a_name_that_is_no_class = refl

a_node_that_is_not_there : placement_of unit (codes "mesh 1 1\nplace A at 1") ≡ Err (F.NoSuchNode 2)
a_node_that_is_not_there = refl

cells_twice : placement_of unit (codes "mesh 1 1\ncells 4\ncells 4") ≡ Err (F.Repeated 3)
cells_twice = refl

no_line : placement_of unit [] ≡ Err (F.BadLine 1)
no_line = refl

-- cuts and routes

around_a_cut : placement_of unit (codes "mesh 2 2\ncut 0 1\nroute 0 1 2\nroute 0 3 2\nplace B at 1")
    ≡ Ok (record {
      width = 2;
      height = 2;
      objects = 256;
      frames = 1024;
      cells = 1024;
      places = P.Same ∷ P.At 1 ∷ [];
      cuts = record { from = 0; to = 1 } ∷ [];
      routes = record { at = 0; goal = 1; next = 2 } ∷ record { at = 0; goal = 3; next = 2 } ∷ [];
    })
around_a_cut = refl

a_path_over_a_cut_link : placement_of unit (codes "mesh 2 2\ncut 0 1\nroute 0 1 2\nplace B at 1") ≡ Err (F.NoRoute 0 3)
a_path_over_a_cut_link = refl

a_path_that_comes_back : placement_of unit (codes "mesh 2 2\ncut 0 1\nroute 0 1 2\nroute 0 3 2\nplace B at 1\nroute 2 1 0") ≡ Err (F.NoRoute 0 1)
a_path_that_comes_back = refl

a_cut_between_no_neighbours : placement_of unit (codes "mesh 2 2\ncut 0 3") ≡ Err (F.NoSuchLink 2)
a_cut_between_no_neighbours = refl

a_cut_twice : placement_of unit (codes "mesh 2 2\ncut 0 1\ncut 00 01") ≡ Err (F.Repeated 3)
a_cut_twice = refl

a_cut_at_no_node : placement_of unit (codes "mesh 2 2\ncut 0 4") ≡ Err (F.NoSuchNode 2)
a_cut_at_no_node = refl

a_cut_from_a_node_to_itself : placement_of unit (codes "mesh 2 2\ncut 1 1") ≡ Err (F.NoSuchLink 2)
a_cut_from_a_node_to_itself = refl

a_route_to_where_it_stands : placement_of unit (codes "mesh 2 2\nroute 0 0 3") ≡ Err (F.OutOfRange 2)
a_route_to_where_it_stands = refl

a_route_over_no_link : placement_of unit (codes "mesh 2 2\nroute 0 1 3") ≡ Err (F.NoSuchLink 2)
a_route_over_no_link = refl

a_route_twice : placement_of unit (codes "mesh 2 2\nroute 0 1 2\nroute 0 1 1") ≡ Err (F.Repeated 3)
a_route_twice = refl

-- words come before routes
too_large_and_cut : placement_of unit (codes "mesh 8 8\nframes 16384\ncut 0 1") ≡ Err (F.TooLarge 102285312)
too_large_and_cut = refl

a_large_mesh : placement_of unit (codes "mesh 8 8\ncut 62 63") ≡ Err (F.NoRoute 56 7)
a_large_mesh = refl
