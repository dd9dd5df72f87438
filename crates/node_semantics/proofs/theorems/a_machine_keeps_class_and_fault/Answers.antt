use Rattle.node_semantics.proofs.ClassAndFault.{class_kept, fault_kept, any_fault}
use Rattle.node_semantics.proofs.theorems.a_machine_keeps_class_and_fault.Goals as goal

pub returns-clause-class : goal.returns-clause-class
returns-clause-class g z = λ h l m c d o x s keeps st there here. class_kept h keeps l m c d st o x s there here

pub returns-clause-fault : goal.returns-clause-fault
returns-clause-fault g z = λ h l m c d o x s keeps st there here. fault_kept h keeps l m c d st o x s there here

pub returns-clause-any : goal.returns-clause-any
returns-clause-any g z = λ h kept l m c d law keeps is st. any_fault h keeps l m c d st (law.sorted c is)
