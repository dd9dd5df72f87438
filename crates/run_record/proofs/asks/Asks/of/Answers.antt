use Rattle.std.proofs.Common.{◌≡◌, ◌∷◌, sym, subst}
use Rattle.run_types.specs.declared.types.Line.{Line}
use Rattle.run_types.specs.Asks.{request_number_of}
use Rattle.run_record.specs.Table.{HasLast}
use Rattle.run_record.proofs.asks.Asks.of.Goals as goal

pub returns-in-Event-clause-number : goal.returns-in-Event-clause-number
returns-in-Event-clause-number c = λ earlier h.
    subst (λ (l : Line). (c.of_event.result ≡ request_number_of earlier l) × HasLast c.of_event.new.self (l ∷ earlier)) (sym c.in-Event.is) (c.of_event.ensures.number earlier h)
