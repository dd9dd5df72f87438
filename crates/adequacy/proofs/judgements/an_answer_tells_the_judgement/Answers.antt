use Rattle.adequacy.proofs.OneJudgement.{told_by}
use Rattle.adequacy.proofs.judgements.an_answer_tells_the_judgement.Goals as goal

pub returns : goal.returns
returns c = told_by
