use Rattle.std.proofs.Common.{refl, ◌∷◌, [], arith}
use Rattle.run_types.specs.declared.types.Event.TheVariants as V
use Rattle.schedule_reader.specs.Events.{turns}
use Rattle.run_types.proofs.Laws.{more}
use Rattle.schedule_reader.proofs.round.push_turns.Goals as goal

pub loop-node-preserved : goal.loop-node-preserved
loop-node-preserved c =
    let l = c.loop-node in
    record {
      items = rw c.in_ok-push.ensures.items (more turns (λ k. V.Turn k ∷ []) (λ k ks. refl) l.node c.args.nodes (omega arith) l.events.items _ l.invariant.items);
      few = omega (arith, c.in_ok-push.ensures.len);
    }
