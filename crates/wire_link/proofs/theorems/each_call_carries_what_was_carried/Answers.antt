use Rattle.std.proofs.Common.{◌≡◌, sym, subst, Some}
use Rattle.mesh_semantics.specs.Wire.{hear, send, take}
use Rattle.mesh_semantics.specs.KeptWire.{Carries, Follows, whole}
use Rattle.mesh_semantics.proofs.Laws.{take_carries, hear_carries, send_carries}
use Rattle.wire_link.proofs.CarriedPackets.{lost, doubled, delayed}
use Rattle.wire_link.proofs.theorems.each_call_carries_what_was_carried.Goals as goal

pub returns-clause-arrive : goal.returns-clause-arrive
returns-clause-arrive c = λ v w put e k. subst (λ z. Carries z put × (whole z put ≡ take (whole v put))) (sym e) (take_carries v put k)

pub returns-clause-send : goal.returns-clause-send
returns-clause-send c = λ v w put number fresh result e k h f. subst (λ z. Follows put (Some z) (send (whole v put))) e (send_carries v put number fresh k h f)

pub returns-clause-ack : goal.returns-clause-ack
returns-clause-ack c = λ v w put result e k. subst (λ z. Follows put z (hear (whole v put))) (sym e) (hear_carries v put k)

pub returns-clause-lose : goal.returns-clause-lose
returns-clause-lose c = λ v w put side result e k. lost v put k side _ e

pub returns-clause-twice : goal.returns-clause-twice
returns-clause-twice c = λ v w put side result e k. doubled v put k side _ e

pub returns-clause-late : goal.returns-clause-late
returns-clause-late c = λ v w put side result e k. delayed v put k side _ e
