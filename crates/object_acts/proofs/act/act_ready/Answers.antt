use Rattle.object_acts.proofs.act.act_ready.Goals as goal

pub returns-in-Prefix-clause-suits : goal.returns-in-Prefix-clause-suits
returns-in-Prefix-clause-suits c = λ xs n h k. c.on_answer.ensures.suits xs n h

pub returns-in-Infix-clause-suits : goal.returns-in-Infix-clause-suits
returns-in-Infix-clause-suits c = λ xs n h k. c.on_answer-in-Infix.ensures.suits xs n h
