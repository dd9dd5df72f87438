use Rattle.mesh_of_terms.proofs.RecordLines.{lines_of, lines_on_wires, idle_lines_of, idle_lines_on_wires}
use Rattle.mesh_of_terms.proofs.theorems.each_line_is_made_where_the_lines_before_lead.Goals as goal

pub returns-clause-line : goal.returns-clause-line
returns-clause-line c = λ p l q es k before behind n e what none written fit s h. lines_of p none written l fit q es k s before behind n e what h

pub returns-clause-on_wires : goal.returns-clause-on_wires
returns-clause-on_wires c = λ p l q es k before behind n e what none written fit s h. lines_on_wires p none written l fit q es k s before behind n e what h

pub returns-clause-idle : goal.returns-clause-idle
returns-clause-idle c = λ p l q es k before behind n e none written fit s h. idle_lines_of p none written l fit q es k s before behind n e h

pub returns-clause-idle_on_wires : goal.returns-clause-idle_on_wires
returns-clause-idle_on_wires c = λ p l q es k before behind n e none written fit s h. idle_lines_on_wires p none written l fit q es k s before behind n e h
