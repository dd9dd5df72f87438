use Rattle.std.proofs.Common.{◌≡◌, drop, true}
use Rattle.run_types.specs.Tables.{Each}
use Rattle.visited_set.specs.declared.waiters.Waiter.{Waiter}
use Rattle.visited_set.proofs.waiters.Waiters.all_go_on.Given as goal

-- if the waiters that are left can go on, all can
abbrev pub invariant-loop-waiter : goal.invariant-loop-waiter
invariant-loop-waiter l = Each (λ (w : Waiter). w.goes_on ≡ true) (drop l.waiter-index l.waiter-items) → Each (λ (w : Waiter). w.goes_on ≡ true) l.waiter-items
