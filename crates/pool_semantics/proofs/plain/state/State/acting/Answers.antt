use Rattle.std.proofs.Common.{◌≡◌, Some, None, arith}
use Rattle.std.proofs.lemmas.Grind.{common_steps}
use Rattle.std.specs.Ordering.{nat_cmp}
use Rattle.std.specs.BTreeMap.{get}
use Rattle.pool_semantics.specs.Plains.{configuration}
use Rattle.pool_semantics.proofs.Labels.{running_none, running_faulted}
use Rattle.pool_semantics.proofs.plain.state.State.acting.Goals as goal

pub returns-in-None-clause-none : goal.returns-in-None-clause-none
returns-in-None-clause-none c =
    let s = c.args.self.now in
    let h : get nat_cmp s.objects c.args.object ≡ None = grind (arith, common_steps) in
    running_none s.objects (configuration s).messages c.args.object h

pub returns-in-Some-fault-clause-none : goal.returns-in-Some-fault-clause-none
returns-in-Some-fault-clause-none c =
    let s = c.args.self.now in
    let h : get nat_cmp s.objects c.args.object ≡ Some c.in-Some.thing.now = grind (arith, common_steps) in
    running_faulted s.objects (configuration s).messages c.args.object c.in-Some.thing.now c.in-Some-fault.field-0 h c.in-Some-fault.is
