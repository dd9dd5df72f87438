use Rattle.std.proofs.Common.{refl}
use Rattle.mesh_semantics.proofs.KeptWireSimulation.{empty_carries, longer_carries, coming_carries, take_carries, send_carries, act_carries}
use Rattle.mesh_semantics.proofs.theorems.a_kept_wire_does_what_its_wire_does.Goals as goal

pub returns-clause-empty : goal.returns-clause-empty
returns-clause-empty g c = empty_carries

pub returns-clause-longer : goal.returns-clause-longer
returns-clause-longer g c = λ v put more k. longer_carries v put more k

pub returns-clause-wanted : goal.returns-clause-wanted
returns-clause-wanted g c = λ v put. refl

pub returns-clause-coming : goal.returns-clause-coming
returns-clause-coming g c = λ v put k. coming_carries v put k

pub returns-clause-comes : goal.returns-clause-comes
returns-clause-comes g c = λ v put k. take_carries v put k

pub returns-clause-sends : goal.returns-clause-sends
returns-clause-sends g c = λ v put n fresh k h f. send_carries v put n fresh k h f

pub returns-clause-acts : goal.returns-clause-acts
returns-clause-acts g c = λ a v put k. act_carries a v put k
