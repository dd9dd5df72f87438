use Rattle.std.proofs.Common.{◌∙◌, sym}
use Rattle.pool_semantics.specs.PlainOf.{configuration_of, program_tree}
use Rattle.record_check.proofs.EndVerdict.{not_quiet, at_rest, still_moves}
use Rattle.record_check.proofs.verdict.judge_end.Goals as goal

pub returns-then-not-is_quiet : goal.returns-then-not-is_quiet
returns-then-not-is_quiet c =
    let s = c.args.plain.now in not_quiet (program_tree s) c.args.lines.now (configuration_of s) (sym c.is_quiet.ensures ∙ c.if-not-is_quiet.true)

pub returns-in-None : goal.returns-in-None
returns-in-None c = let s = c.args.plain.now in at_rest (program_tree s) c.args.lines.now (configuration_of s) c.in-None.ensures.none

pub returns-in-Some : goal.returns-in-Some
returns-in-Some c =
    let s = c.args.plain.now in
    still_moves (program_tree s) c.args.lines.now (configuration_of s) c.in-Some.object (sym c.is_quiet.ensures ∙ c.if-not-is_quiet.false) c.in-Some.ensures.some c.in-Some.ensures.least
