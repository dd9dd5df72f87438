use Rattle.compiler_correctness.proofs.WaitingCode.{code_answers, code_answers_on_wires}
use Rattle.compiler_correctness.proofs.of_files.each_line_answers_its_post.Goals as goal

pub returns-clause-answers : goal.returns-clause-answers
returns-clause-answers c = λ f l q es shaped good fit. code_answers f shaped good l fit q es

pub returns-clause-on_wires : goal.returns-clause-on_wires
returns-clause-on_wires c = λ f l q es shaped good fit. code_answers_on_wires f shaped good l fit q es
