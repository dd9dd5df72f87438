use Rattle.std.proofs.Common.{◌∙◌, sym}
use Rattle.adequacy.proofs.OneJudgement.{one_judgement, text_is}
use Rattle.adequacy.proofs.judgements.an_input_has_one_judgement.Goals as goal

pub returns-clause-text : goal.returns-clause-text
returns-clause-text c = λ told input name t r s e h i. text_is told input name t r e h ∙ sym (text_is told input name t s e i)

pub returns-clause-judgement : goal.returns-clause-judgement
returns-clause-judgement c = λ k name t i j told room h l. one_judgement c.a_text_has_one_fault.ensures.one k name t told room i j h l
