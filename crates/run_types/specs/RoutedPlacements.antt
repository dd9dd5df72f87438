-- Placements whose cuts and routes lie in their mesh, each at most once.
use Rattle.std.specs.Prelude.{◌≡◌, ◌≢◌, ℕ, ◌*◌, ◌<◌, ◌≤◌, List, [], ◌∷◌, None, false}
use Rattle.run_types.specs.declared.types.LinkId.{LinkId}
use Rattle.run_types.specs.declared.types.Placement.{Placement}
use Rattle.run_types.specs.declared.types.Route.{Route}
use Rattle.run_types.specs.Paths.{AreNeighbours, is_cut, route_of}

-- a and b are neighbours in the mesh
abbrev pub AreBeside : Placement → ℕ → ℕ → Type 0
AreBeside l a b = (a < l.width * l.height) × (b < l.width * l.height) × AreNeighbours l.width a b

-- each cut goes from a node to a neighbour, and no cut is there twice
abbrev pub AreCuts : Placement → List LinkId → Type 0
AreCuts l [] = Unit {0}
AreCuts l (k ∷ ks) = AreBeside l k.from k.to × (is_cut ks k.from k.to ≡ false) × AreCuts l ks

-- each route leads to a neighbour, its goal is another node, and no two routes are for the same goal at the same node
abbrev pub AreRoutes : Placement → List Route → Type 0
AreRoutes l [] = Unit {0}
AreRoutes l (r ∷ rs) = AreBeside l r.at r.next × (r.goal < l.width * l.height) × (r.goal ≢ r.at) × (route_of rs r.at r.goal ≡ None) × AreRoutes l rs

-- the mesh has 1 to 8 columns and 1 to 8 rows, and its cuts and routes lie in it
pub record IsRouted (l : Placement) : Type 0 where
  pub width : (1 ≤ l.width) × (l.width ≤ 8)
  pub height : (1 ≤ l.height) × (l.height ≤ 8)
  pub cuts : AreCuts l l.cuts
  pub routes : AreRoutes l l.routes
