use Rattle.run_types.specs.GivenProperties.{IsGiven}
use Rattle.node_semantics.proofs.OneConfiguration.{messages_same, objects_same}
use Rattle.node_semantics.proofs.theorems.a_machine_stands_for_one_configuration.Goals as goal

pub returns-clause-objects : goal.returns-clause-objects
returns-clause-objects g z = λ h kept other l m c e d f o sc se tc te. objects_same h l m (IsGiven kept) (IsGiven other) c e d f sc se tc.state te.state o

pub returns-clause-messages : goal.returns-clause-messages
returns-clause-messages g z = λ h kept other l m c e d f s r sc se tc te. messages_same h l m (IsGiven kept) (IsGiven other) c e d f sc se tc.state te.state s r
