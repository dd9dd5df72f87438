use Rattle.mesh_of_code.proofs.Callers.{code_requests, code_keeps, code_serves}
use Rattle.mesh_of_code.proofs.ValueNamesExist.{code_names}
use Rattle.mesh_of_code.proofs.theorems.code_answers_requests.Goals as goal

pub returns-clause-requests : goal.returns-clause-requests
returns-clause-requests c = λ u. code_requests u

pub returns-clause-class_and_fault : goal.returns-clause-class_and_fault
returns-clause-class_and_fault c = λ u. code_keeps u

pub returns-clause-names : goal.returns-clause-names
returns-clause-names c = λ u proper. code_names u proper

pub returns-clause-served : goal.returns-clause-served
returns-clause-served c = λ u. code_serves u
