use Rattle.std.proofs.Common.{ap, ◌∙◌, is_some}
use Rattle.run_types.proofs.Texts.{found_at, is_among-found}
use Rattle.run_types.proofs.names.Names.find.Goals as goal

pub returns-in_err-place-clause-none : goal.returns-in_err-place-clause-none
returns-in_err-place-clause-none c =
    let e = is_among-found c.self.inside.texts.keys c.args.self.now c.args.text.now c.get_index_of.result c.self.view_is c.get_index_of.ensures.found in
    let f = e ∙ ap is_some c.in_err-place.was in
    (λ h. f, λ h. c.from_residual.ensures)

-- src/names.rt:61:5
pub returns-clause-found : goal.returns-clause-found
returns-clause-found c = found_at c.self.inside.texts.keys c.args.self.now c.args.text.now c.in_ok-place.place c.self.view_is c.in_ok-place.ensures.index

pub returns-clause-none : goal.returns-clause-none
returns-clause-none c =
    let e = is_among-found c.self.inside.texts.keys c.args.self.now c.args.text.now c.get_index_of.result c.self.view_is c.get_index_of.ensures.found in
    let f = e ∙ ap is_some c.in_ok-place.was in
    (λ h. absurd (cc), λ h. absurd (cc))
