use Rattle.std.proofs.Common.{◌≡◌, ◌∙◌, rules, sym}
use Rattle.run_types.specs.declared.types.What.TheVariants as W
use Rattle.run_types.specs.declared.types.Line.TheVariants as R
use Rattle.stream_check.proofs.RootOfLines.{first_own}
use Rattle.stream_check.proofs.fill_lines.first_of.Goals as goal

pub returns-else-times-eq0-clause-some : goal.returns-else-times-eq0-clause-some
returns-else-times-eq0-clause-some c = λ rest.
    let s = c.in-Event-default-default-Step in
    let is : c.args.line.now ≡ R.Event s.number s.event (W.Step s.label s.times) = search rules in
    first_own c.args.line.now s.number s.event s.label s.times is (sym c.shows_local.ensures ∙ c.if-shows_local.false) c.if-times-eq0.false rest ∙ sym c.agent.ensures
