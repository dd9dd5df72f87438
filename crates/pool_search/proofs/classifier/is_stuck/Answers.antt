use Rattle.std.proofs.Common.{subst, sym, ◌∙◌, Bool}
use Rattle.pool_semantics.specs.PlainOf.{configuration_of, program_tree}
use Rattle.reachability.specs.Search.{IsUnfinished}
use Rattle.pool_search.specs.SearchTargets.{IsStuckEnd}
use Rattle.pool_search.proofs.ConfigurationClass.{not_stuck, stuck_by_waiting, not_stuck_by_waiting, ended_by}
use Rattle.pool_search.proofs.classifier.is_stuck.Goals as goal

pub returns-then-is_some-clause-no : goal.returns-then-is_some-clause-no
returns-then-is_some-clause-no c =
    λ _. not_stuck c.args.all (program_tree c.args.plain.now) (configuration_of c.args.plain.now) c.moving.result (sym c.is_some.ensures ∙ c.if-is_some.true) c.moving.ensures.some

pub returns-then-all-clause-yes : goal.returns-then-all-clause-yes
returns-then-all-clause-yes c =
    let p = program_tree c.args.plain.now in
    let at = configuration_of c.args.plain.now in
    λ i.
    let unfinished : IsUnfinished p at =
    record {
      at_end = ended_by p at c.moving.result c.moving.ensures.none (sym c.is_some.ensures ∙ c.if-is_some.false);
      left = c.left_over.ensures.some i;
    }
    in
    subst (λ (b : Bool). IsStuckEnd b p at) (sym c.if-all.true) unfinished

pub returns-then-all-clause-no : goal.returns-then-all-clause-no
returns-then-all-clause-no c =
    let p = program_tree c.args.plain.now in
    let at = configuration_of c.args.plain.now in
    λ i s.
    let unfinished : IsUnfinished p at = subst (λ (b : Bool). IsStuckEnd b p at) c.if-all.true s in
    c.left_over.ensures.none i unfinished.left

pub returns-clause-yes : goal.returns-clause-yes
returns-clause-yes c =
    let p = program_tree c.args.plain.now in
    let at = configuration_of c.args.plain.now in
    let ended = ended_by p at c.moving.result c.moving.ensures.none (sym c.is_some.ensures ∙ c.if-is_some.false) in
    λ i. subst (λ (b : Bool). IsStuckEnd b p at) (sym c.if-all.false) (stuck_by_waiting p at c.waiting.result ended c.waiting.ensures.waits (sym c.is_some-2.ensures ∙ i))

pub returns-clause-no : goal.returns-clause-no
returns-clause-no c =
    let p = program_tree c.args.plain.now in
    let at = configuration_of c.args.plain.now in
    λ i s. not_stuck_by_waiting p at c.waiting.result c.waiting.ensures.none (sym c.is_some-2.ensures ∙ i) (subst (λ (b : Bool). IsStuckEnd b p at) c.if-all.false s)
