-- The packets on the links of a mesh as contracts see them: a map by the two ends of a link.
use Rattle.std.specs.Prelude.{◌<◌, ℕ, ◌*◌, List, refl}
use Rattle.std.specs.Coded.{Coded, code_by, coded×, coded_list, coded_ℕ}
use Rattle.run_types.specs.Tables.{Pair}
use Rattle.run_types.specs.Paths.{AreNeighbours}

-- the width and height of the mesh, the cells of each node, and the packets by the ends of their link, the head first;
-- an empty link has no entry
pub record LinksOf (X : Type 0) : Type 0 where
  pub width : ℕ
  pub height : ℕ
  pub cells : ℕ
  pub links : List (Pair × List X)

module _ {X : Type 0} where
  abbrev pub links_of : ℕ → ℕ → ℕ → List (Pair × List X) → LinksOf X
  links_of w h c ls = record { width = w; height = h; cells = c; links = ls }

  -- the links with other packets
  abbrev pub with_links : LinksOf X → List (Pair × List X) → LinksOf X
  with_links k ls = record { width = k.width; height = k.height; cells = k.cells; links = ls }

  -- a link of the mesh leads from the one node to the other
  abbrev pub IsLinkOf : LinksOf X → ℕ → ℕ → Type 0
  IsLinkOf k from to = (from < k.width * k.height) × (to < k.width * k.height) × AreNeighbours k.width from to

  abbrev pub links_code : Coded X → Coded (LinksOf X)
  links_code c =
      code_by
      (ℕ × (ℕ × (ℕ × List (Pair × List X))))
      (coded× coded_ℕ (coded× coded_ℕ (coded× coded_ℕ (coded_list (coded× (coded× coded_ℕ coded_ℕ) (coded_list c))))))
      (λ k. (k.width, (k.height, (k.cells, k.links))))
      (λ p. links_of p.0 p.1.0 p.1.1.0 p.1.1.1)
      (λ _. refl)
