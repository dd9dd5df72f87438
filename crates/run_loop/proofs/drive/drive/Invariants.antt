use Rattle.mesh_semantics.specs.Config.{Config}
use Rattle.mesh_semantics.specs.Delay.{Delay}
use Rattle.mesh_of_code.specs.Coded.{Placed}
use Rattle.pool_machine.specs.Answers.{MachineRepresents}
use Rattle.run_loop.proofs.RunUnderWay.{IsGoing}
use Rattle.run_loop.proofs.drive.drive.Given as goal

abbrev pub invariant-loop-done : goal.invariant-loop-done
invariant-loop-done g l =
    (c : Config Placed) (d : Delay) → MachineRepresents l.fn.machine c d
    → IsGoing l.show l.fn.machine.unit l.fn.machine.placement l.schedule c d l.machine l.asks l.done l.faulted
    (record { before = g.K.Sink.written l.fn.out; after = g.K.Sink.written l.out; faults = g.K.Sink.faults l.fn.out; failed = g.K.Sink.faults l.out })
