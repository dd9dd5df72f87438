use Rattle.std.proofs.Common.{◌∙◌, ap, refl, subst, sym}
use Rattle.pool_syntax.specs.Terms.{ProgramTree}
use Rattle.pool_syntax.specs.TreeOf.{program_of}
use Rattle.pool_relation.specs.Transition.{start}
use Rattle.record_check.specs.RecordJudgement.{first_agent, root}
use Rattle.stream_check.specs.Filled.{IsFilled, without_local}
use Rattle.stream_check.proofs.KeptLines.{own_is}
use Rattle.stream_check.proofs.fill.fill_record.Goals as goal

pub judge-requires-clause-begun : goal.judge-requires-clause-begun
judge-requires-clause-begun c =
    let ls = c.args.lines.now in
    let made = c.in_ok-make.ensures in
    record {
      fresh = made.fresh;
      starts =
          ap (λ (t : ProgramTree). start t (root (without_local ls))) made.program
          ∙ ap (start (program_of c.args.program.now.program.now)) (sym (c.first_object.ensures ∙ ap first_agent (own_is ls)))
          ∙ made.start;
      none = c.make-2.ensures;
      first = refl;
    }

pub returns : goal.returns
returns c =
    subst (λ (t : ProgramTree). IsFilled t c.args.lines.now c.judge.new.self.lines c.in_ok-verdict.verdict) c.in_ok-make.ensures.program c.in_ok-verdict.ensures
