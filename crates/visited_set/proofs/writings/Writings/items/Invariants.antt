use Rattle.std.specs.Prelude.{◌≡◌, ◌++◌, [], get_or, reverse}
use Rattle.visited_set.specs.WritingsOf.{lists_of}
use Rattle.visited_set.proofs.writings.Writings.items.Given as goal

-- the list is the one at this number, and after it the items so far, the last first
abbrev pub invariant-loop-at : goal.invariant-loop-at
invariant-loop-at l = get_or (lists_of l.self) l.number [] ≡ get_or (lists_of l.self) l.at [] ++ reverse l.items.items

abbrev pub decreases-loop-at : goal.decreases-loop-at
decreases-loop-at l = l.at
