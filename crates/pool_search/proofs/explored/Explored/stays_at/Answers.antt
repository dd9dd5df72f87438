use Rattle.pool_search.proofs.explored.Explored.stays_at.Goals as goal

pub returns-clause-stays : goal.returns-clause-stays
returns-clause-stays c = λ yes same unknown e g. c.stays_in.ensures.stays yes e g
