use Rattle.std.proofs.Common.{◌≡◌, ap, subst, Ok, true}
use Rattle.std.specs.Prelude.{IfSome}
use Rattle.pool_syntax.specs.Terms.{ProgramTree}
use Rattle.reachability.specs.Search.{IsFaulty}
use Rattle.search_laws.specs.Tried.{states_only}
use Rattle.pool_search.specs.Entries.{IsPassedOver, entries, searched}
use Rattle.pool_search.specs.SearchAnswers.{IsPassedBy}
use Rattle.pool_search.specs.Trials.{is_tried}
use Rattle.pool_search.proofs.ConfigurationClass.{passed_by_move}
use Rattle.pool_search.proofs.EntryExpansion.{entry_there, has_searched, still_there}
use Rattle.pool_search.proofs.explored.Explored.visit.Goals as goal
use Rattle.pool_search.proofs.explored.Explored.visit.Goals.{else-has_error-via-then-has_error+in_ok-is_shown+else-branch, else-has_error-via-else-has_error}

pub returns-in-Ok-Led-clause-done : goal.returns-in-Ok-Led-clause-done
returns-in-Ok-Led-clause-done c =
    let p = searched c.args.self.now in
    let q = c.args.question.now in
    let es = entries c.args.self.now in
    let here = entry_there es c.args.at c.requires.exists in
    let e = here.0 in
    let tried : is_tried c.in-Ok-Led.field-0 ≡ true = ap is_tried c.in-Ok-Led.field-0-is in
    let not_it : IsPassedBy p q e.configuration =
    elim c.else-has_error.branch [
      | else-has_error-via-then-has_error+in_ok-is_shown+else-branch w ↦ subst (λ o. IfSome o (IsPassedOver p q)) here.1 (w.in_ok-is_shown.ensures (ap Ok w.if-branch.false))
      | else-has_error-via-else-has_error w ↦
          passed_by_move p q e.configuration (c.in-Ok-Led.ensures.led c.in-Ok-Led.field-0-0 (ap Ok c.in-Ok-Led.field-0-is) e here.1)
          (subst (λ o. IfSome o (λ x. ¬ (IsFaulty x.configuration))) here.1 (c.has_error.ensures w.if-has_error.false))
    ]
    in
    λ _. has_searched p states_only q.most (IsPassedOver p q) es (entries c.expand.new.self) c.args.at e here.1 not_it (c.in-Ok-Led.ensures.grows tried)
    (c.in-Ok-Led.ensures.expanded tried e here.1)

pub returns-else-branch-2-clause-done : goal.returns-else-branch-2-clause-done
returns-else-branch-2-clause-done c =
    let p = searched c.args.self.now in
    let q = c.args.question.now in
    let es = entries c.args.self.now in
    let fs = entries c.expand.new.self in
    let here = entry_there es c.args.at c.requires.exists in
    let e = here.0 in
    let tried : is_tried c.in-Ok-Tried.field-0 ≡ true = ap is_tried c.in-Ok-Tried.field-0-is in
    let grows = c.in-Ok-Tried.ensures.grows tried in
    let not_it : IsPassedBy (searched c.expand.new.self) q e.configuration =
    subst (λ o. IfSome o (IsPassedOver (searched c.expand.new.self) q)) (still_there p states_only q.most es fs c.args.at e grows here.1)
    (c.in_ok-is_shown-in-Ok-Tried.ensures (ap Ok c.if-branch-2.false))
    in
    λ _. has_searched p states_only q.most (IsPassedOver p q) es fs c.args.at e here.1 (subst (λ (r : ProgramTree). IsPassedBy r q e.configuration) c.expand.ensures.program not_it) grows
    (c.in-Ok-Tried.ensures.expanded tried e here.1)
