use Rattle.mesh_of_code.proofs.KnownLines.{acts_known, each_line_known, each_line_known_on_wires}
use Rattle.mesh_of_code.proofs.theorems.each_line_is_known.Goals as goal

pub returns-clause-event : goal.returns-clause-event
returns-clause-event x = λ u l q c d e what c' d' proper fit s h. acts_known u proper l c d s q e what c' d' fit h

pub returns-clause-record_lines : goal.returns-clause-record_lines
returns-clause-record_lines x = λ u l q es number e what proper fit h. each_line_known u proper l fit q es number e what h

pub returns-clause-record_lines_on_wires : goal.returns-clause-record_lines_on_wires
returns-clause-record_lines_on_wires x = λ u l q es number e what proper fit h. each_line_known_on_wires u proper l fit q es number e what h
