use Rattle.std.proofs.Common.{◌∙◌}
use Rattle.std.proofs.lemmas.List.{get_or-set_other}
use Rattle.run_record.specs.Table.{place_of}
use Rattle.run_record.proofs.Places.{places_apart}
use Rattle.run_record.proofs.asks.Asks.put.Goals as goal

pub returns-clause-others : goal.returns-clause-others
returns-clause-others c = λ o h n.
    get_or-set_other c.args.self.now.last.items c.place-place.result (place_of c.args.self.now o) c.args.number 0
    (λ e. n (places_apart c.args.self.now o c.args.object h c.requires (e ∙ c.place-place.ensures.place)))
