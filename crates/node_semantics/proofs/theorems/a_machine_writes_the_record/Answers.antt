use Rattle.run_types.specs.GivenProperties.{IsGiven}
use Rattle.mesh_semantics.proofs.Laws.{fit_of}
use Rattle.node_semantics.proofs.SameLines.{same_lines, same_lines_on_wires}
use Rattle.node_semantics.proofs.theorems.a_machine_writes_the_record.Goals as goal

pub returns-clause-lines : goal.returns-clause-lines
returns-clause-lines g z = λ h kept l q es numbers law req fit sound inside fresh.
    same_lines h (IsGiven kept) law req l (fit_of h l fit) q es numbers inside fresh sound

pub returns-clause-on_wires : goal.returns-clause-on_wires
returns-clause-on_wires g z = λ h kept l q es numbers law req fit sound inside fresh.
    same_lines_on_wires h (IsGiven kept) law req l (fit_of h l fit) q es numbers inside fresh sound
