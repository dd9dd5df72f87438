use Rattle.search_text.proofs.StepLaws.{turned}
use Rattle.search_text.proofs.steps.turn_to.Goals as goal

pub returns-clause-text : goal.returns-clause-text
returns-clause-text c = λ n rest some. turned c.args.names.now c.args.locals.now c.args.text.now.items c.push_locals.new.text.items c.args.object n rest c.if-locals-object.false some c.in_ok-push_locals.ensures
