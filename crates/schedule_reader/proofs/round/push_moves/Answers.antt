use Rattle.std.proofs.Common.{refl, arith}
use Rattle.std.specs.List.{range_with_len}
use Rattle.schedule_reader.specs.Events.{moves_from, moves_to}
use Rattle.run_types.proofs.Laws.{more}
use Rattle.schedule_reader.proofs.round.push_moves.Goals as goal

pub loop-from-preserved : goal.loop-from-preserved
loop-from-preserved c =
    let l = c.loop-from in
    record {
      items =
          rw c.in_ok-push_moves_to.ensures.items
          (more (moves_from c.args.width c.args.cuts.now c.args.lossy c.args.nodes) (λ a. moves_to c.args.width c.args.cuts.now c.args.lossy a (range_with_len 0 c.args.nodes)) (λ k ks. refl) l.from c.args.nodes (omega arith) l.events.items _ l.invariant.items);
      few = omega (arith, c.in_ok-push_moves_to.ensures.few);
    }
