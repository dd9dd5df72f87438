use Rattle.std.proofs.Common.{sym, ◌+◌, List, subst}
use Rattle.node_state.specs.NodeOf.{NodeOf}
use Rattle.pool_machine.proofs.MadeNodes.{node_made}
use Rattle.pool_machine.proofs.CountsOfMachines.{nodes_fit}
use Rattle.pool_machine.proofs.Searches.{at_end}
use Rattle.pool_machine.specs.MachineInvariant.{AreEmpty, IsEmptyNode}
use Rattle.pool_machine.proofs.machine.all_nodes.Goals as goal

pub loop-id-preserved : goal.loop-id-preserved
loop-id-preserved c =
    let made = c.in_ok-make.ensures.empty in
    let new : IsEmptyNode c.args.unit.now c.args.placement.now c.loop-id.id c.in_ok-make.field-0 = record {
      node = record { id = λ i. (made i).id; of_unit = c.in_ok-make.ensures.unit; of_placement = c.in_ok-make.ensures.placement };
      state = λ i. (made i).state;
    } in
    subst (λ (nodes : List NodeOf). AreEmpty c.args.unit.now c.args.placement.now (c.loop-id.id + 1) nodes) (sym {A = List NodeOf} c.in_ok-push.ensures.items)
    (node_made c.args.unit.now c.args.placement.now c.loop-id.id c.loop-id.nodes.items c.in_ok-make.field-0 c.loop-id.invariant new)

pub overflow_mul-id-end : goal.overflow_mul-id-end
overflow_mul-id-end c = nodes_fit _ _ c.requires.suits.width.1 c.requires.suits.height.1

pub make-requires : goal.make-requires
make-requires c = record { proper = c.requires.proper; suits = c.requires.suits; id = c.loop-id-test.true }

pub returns : goal.returns
returns c =
    subst (λ n. AreEmpty c.args.unit.now c.args.placement.now n c.loop-id.nodes.items) (at_end c.loop-id.id _ c.loop-id.auto.id-end c.loop-id-test.false) c.loop-id.invariant
