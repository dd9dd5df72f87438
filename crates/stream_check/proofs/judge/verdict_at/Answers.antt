use Rattle.std.proofs.Common.{◌∙◌, sym}
use Rattle.pool_semantics.specs.PlainOf.{configuration_of, program_tree}
use Rattle.stream_check.proofs.NextLine.{moves_still, run_at_rest, run_unquiet}
use Rattle.stream_check.proofs.judge.verdict_at.Goals as goal

pub returns-then-not-is_quiet : goal.returns-then-not-is_quiet
returns-then-not-is_quiet c =
    let s = c.args.plain.now in λ ls h t. run_unquiet (program_tree s) ls c.args.end (configuration_of s) h (sym c.is_quiet.ensures ∙ c.if-not-is_quiet.true) t

pub returns-in-None : goal.returns-in-None
returns-in-None c = let s = c.args.plain.now in λ ls h t. run_at_rest (program_tree s) ls c.args.end (configuration_of s) c.in-None.ensures.none t

pub returns-in-Some : goal.returns-in-Some
returns-in-Some c =
    let s = c.args.plain.now in
    λ ls h t. moves_still (program_tree s) ls c.args.end (configuration_of s) c.in-Some.object h (sym c.is_quiet.ensures ∙ c.if-not-is_quiet.false) c.in-Some.ensures.some c.in-Some.ensures.least t
