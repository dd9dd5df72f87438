use Rattle.std.proofs.Common.{◌≡◌, ◌<◌, ◌++◌, ℕ, List, false}
use Rattle.run_types.specs.Tables.{Each}
use Rattle.pool_relation.specs.Configuration.{Configuration}
use Rattle.reachability.specs.Search.{WaitsAt}
use Rattle.object_moves.specs.Rows.{objects_from}
use Rattle.object_moves.specs.Tables.{known_states, table_program}
use Rattle.visited_set.specs.WaiterLists.{HasWaiter, IsOpen}
use Rattle.visited_set.specs.declared.waiters.Waiter.{Waiter}
use Rattle.visited_set.proofs.waiters.Waiters.add.Given as goal

-- the objects that wait with a smaller name were added
abbrev pub invariant-loop-i : goal.invariant-loop-i
invariant-loop-i l =
    record {
      grown : (added : List Waiter) × (l.self.list.items ≡ l.initial.self.list.items ++ added);
      none_noted : Each IsOpen l.initial.self.list.items → Each IsOpen l.self.list.items;
      all : (c : Configuration) → c.objects ≡ objects_from 0 (known_states l.moves) l.numbers → (o : ℕ) → o < l.i → WaitsAt (table_program l.moves) c o → HasWaiter false l.entry o l.self.list.items;
    }
