use Rattle.std.proofs.Common.{subst}
use Rattle.std.specs.Result.{IfOk}
use Rattle.patterns.specs.Rows.{HasPattern}
use Rattle.patterns.specs.Tables.{patterns}
use Rattle.patterns.proofs.StepFacts.{after_both, after_either}
use Rattle.patterns.proofs.table.PatternTable.+after.Goals as goal

pub returns-in_ok-second-in-Either-clause-number : goal.returns-in_ok-second-in-Either-clause-number
returns-in_ok-second-in-Either-clause-number t c =
    subst (λ q. IfOk c.alternatives.result (λ n. HasPattern (patterns c.alternatives.new.self) n q))
    (after_either (patterns c.args.self.now) (patterns c.after.new.self) (patterns c.after-in-Either.new.self) c.row-row.result.node c.args.of c.in-Either.one c.in-Either.other c.in_ok-first-in-Either.first
    c.in_ok-second-in-Either.second c.args.item c.after.ensures.grown c.after-in-Either.ensures.grown c.row-row.ensures.node c.row-row.ensures.within c.in-Either.is c.in_ok-first-in-Either.ensures.number
    c.in_ok-second-in-Either.ensures.number)
    c.alternatives.ensures.number

pub returns-in_ok-back-in-Both-clause-number : goal.returns-in_ok-back-in-Both-clause-number
returns-in_ok-back-in-Both-clause-number t c =
    subst (λ q. IfOk c.alternatives-in-Both.result (λ n. HasPattern (patterns c.alternatives-in-Both.new.self) n q))
    (after_both (patterns c.args.self.now) (patterns c.after-in-Both.new.self) (patterns c.mixed.new.self) (patterns c.after-in-Both-2.new.self) (patterns c.mixed-in-Both.new.self) c.row-row.result.node c.args.of
    c.in-Both.one c.in-Both.other c.in_ok-first-in-Both.first c.in_ok-front-in-Both.front c.in_ok-second-in-Both.second c.in_ok-back-in-Both.back c.args.item c.after-in-Both.ensures.grown c.mixed.ensures.grown
    c.after-in-Both-2.ensures.grown c.mixed-in-Both.ensures.grown c.row-row.ensures.node c.row-row.ensures.within c.in-Both.is c.in_ok-first-in-Both.ensures.number c.in_ok-front-in-Both.ensures.number
    c.in_ok-second-in-Both.ensures.number c.in_ok-back-in-Both.ensures.number)
    c.alternatives-in-Both.ensures.number
