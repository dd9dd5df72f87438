use Rattle.std.proofs.Common.{subst}
use Rattle.std.specs.Result.{IfOk}
use Rattle.patterns.specs.Rows.{HasPattern}
use Rattle.patterns.specs.Tables.{pattern_at, patterns}
use Rattle.patterns.proofs.StepFacts.{one_alternative}
use Rattle.patterns.proofs.table.PatternTable.+alternatives.Goals as goal

pub returns-in_default : goal.returns-in_default
returns-in_default t c =
    let s = c.args.self.now in
    record {
      grown = c.with_one.ensures.grown;
      number = subst (λ q. IfOk c.with_one.result (λ n. HasPattern (patterns c.with_one.new.self) n q))
          (one_alternative (patterns s) c.row.result.node (pattern_at s c.args.one) (pattern_at s c.args.other) c.row.ensures.node c.in_default.not-Never c.in_default.not-Either)
          c.with_one.ensures.number;
    }
