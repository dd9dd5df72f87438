use Rattle.std.proofs.Common.{◌≡◌, ◌∙◌, sym, refl}
use Rattle.run_types.proofs.Laws.{name_of-missing}
use Rattle.run_record.proofs.numbered.number_in.Goals as goal

pub returns-in-None : goal.returns-in-None
returns-in-None c = c.count.ensures ∙ sym (name_of-missing c.args.names.now c.args.text.now (c.in-None.ensures.none.0 refl))
