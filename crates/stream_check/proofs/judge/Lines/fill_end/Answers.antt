use Rattle.std.proofs.Common.{◌≡◌, ◌++◌, ◌∷◌, List, [], false, subst}
use Rattle.run_types.specs.declared.types.End.{End}
use Rattle.run_types.specs.declared.types.Line.{Line}
use Rattle.run_types.specs.declared.types.Line.TheVariants as R
use Rattle.pool_semantics.specs.PlainOf.{configuration_of, program_tree}
use Rattle.record_check.specs.RecordJudgement.{LeadsTo}
use Rattle.stream_check.specs.Progress.{IsEndVerdict}
use Rattle.stream_check.specs.Stream.{has_end}
use Rattle.stream_check.proofs.FillingSteps.{filled_end}
use Rattle.stream_check.proofs.judge.Lines.fill_end.Goals as goal

pub returns-clause-verdict : goal.returns-clause-verdict
returns-clause-verdict c =
    let g = c.settle.new.self in
    let v = c.verdict_at.result in
    λ p ls a. filled_end p ls c.args.end c.args.self.now a g c.in_ok-settle.ensures v
    (subst (λ (e : End). (xs : List Line) → has_end xs ≡ false → LeadsTo (program_tree g.plain) xs (configuration_of g.plain) → IsEndVerdict (program_tree g.plain) (xs ++ R.End e ∷ []) v)
    c.with_done-filled.ensures c.verdict_at.ensures)
