use Rattle.run_record.proofs.asks.Asks.of_event.Goals as goal

pub returns-clause-number : goal.returns-clause-number
returns-clause-number c = λ earlier h. (c.number-ask.ensures earlier c.args.number h, c.keep.ensures.kept earlier c.args.event h)
