-- The lists of items of a tree, by their numbers.
use Rattle.std.specs.Prelude.{List, [], ◌∷◌}
use Rattle.run_types.specs.declared.types.Item.{Item}
use Rattle.visited_set.specs.declared.writings.Writings.{Writings}
use Rattle.visited_set.specs.WrittenLists.{with_nodes}

abbrev pub lists_of : Writings → List (List Item)
lists_of w = with_nodes ([] ∷ []) w.nodes.items
