use Rattle.std.proofs.Common.{◌≡◌, ◌+◌, ◌*◌}
use Rattle.mesh_semantics.specs.Config.{Config}
use Rattle.mesh_semantics.specs.Delay.{Delay}
use Rattle.mesh_of_code.specs.Coded.{Placed}
use Rattle.pool_machine.specs.Answers.{MachineRepresents}
use Rattle.run_loop.specs.ReportRows.{rows_below}
use Rattle.run_loop.proofs.why.push_rows.Given as goal

abbrev pub invariant-loop-slot : goal.invariant-loop-slot
invariant-loop-slot l =
    (c : Config Placed) (d : Delay) → MachineRepresents l.machine c d → l.fn.rows ≡ rows_below l.machine.unit c d (l.node * 65536)
    → l.rows ≡ rows_below l.machine.unit c d (l.node * 65536 + l.slot)
