use Rattle.mesh_semantics.proofs.EventWireInvariant.{KeepsOn, act_keeps_wires, record_keeps_wires, no_wires_kept}
use Rattle.std.proofs.Common.{subst}
use Rattle.mesh_semantics.proofs.theorems.wires_are_kept.Goals as goal

pub returns-clause-event : goal.returns-clause-event
returns-clause-event g c = λ h l q k e d f ev what s i. subst (KeepsOn d.wires) i (act_keeps_wires h l q k d ev s)

pub returns-clause-record : goal.returns-clause-record
returns-clause-record g c = λ h l q k d done es s. record_keeps_wires h l q es k d done s

pub returns-clause-start : goal.returns-clause-start
returns-clause-start g c = no_wires_kept
