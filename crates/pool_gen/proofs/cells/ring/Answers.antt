use Rattle.std.proofs.Common.{◌≤◌, ℕ, List, length, sym, subst, arith}
use Rattle.pool_gen.specs.Ring.{ring_placement}
use Rattle.pool_gen.proofs.Lengths.{program_short, schedule_short}
use Rattle.pool_gen.proofs.cells.ring.Goals as goal

pub returns-clause-short : goal.returns-clause-short
returns-clause-short c =
    let is_short = λ (t : List ℕ). length t ≤ 1048576 in
    let placement : length ring_placement ≤ 1048576 = omega arith in (
      subst is_short (sym c.in_ok-program.ensures) (program_short c.args.k c.requires.1),
      subst is_short (sym c.in_ok-placement.ensures) placement,
      subst is_short (sym c.in_ok-schedule.ensures) (schedule_short c.args.k),
    )
