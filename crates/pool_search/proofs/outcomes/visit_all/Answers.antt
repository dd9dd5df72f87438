use Rattle.std.proofs.Common.{◌∙◌, ap, sym, subst, length, length-append, arith, Ok}
use Rattle.run_types.specs.Tables.{Each}
use Rattle.pool_syntax.specs.Terms.{ProgramTree}
use Rattle.search_laws.specs.Tried.{with_writes}
use Rattle.pool_search.specs.Entries.{entries, searched}
use Rattle.pool_search.specs.FoundOutcomes.{IsNoted}
use Rattle.pool_search.specs.OutcomeTargets.{IsShown}
use Rattle.pool_search.specs.Progress.{HasSearched, IsSearchedTo}
use Rattle.pool_search.proofs.OutcomesComplete.{noted_more}
use Rattle.pool_search.proofs.SearchComplete.{searched_weaker}
use Rattle.pool_search.proofs.outcomes.visit_all.Goals as goal

pub loop-at-preserved : goal.loop-at-preserved
loop-at-preserved g c =
    let l = c.loop-at in
    let p = searched c.args.explored.now in
    let es = entries l.explored in
    let fs = entries c.visit.new.explored in
    let before = l.ends.list.items in
    let after = c.visit.new.ends.list.items in
    let h : HasSearched p with_writes c.args.most (IsNoted p after) es fs l.at =
    subst (λ (q : ProgramTree). HasSearched q with_writes c.args.most (IsNoted q after) es fs l.at) l.invariant.program (c.in-Ok-true.ensures.done (ap Ok c.in-Ok-true.field-0-test))
    in
    let more = c.in-Ok-true.ensures.grown in
    let so_far : IsSearchedTo p with_writes (IsNoted p after) es l.at =
    searched_weaker p with_writes (IsNoted p before) (IsNoted p after) (noted_more p before more.0 after more.1) es l.at l.invariant.so_far
    in
    let longer = ap length h.grows.is in
    record {
      program = c.visit.ensures.program ∙ l.invariant.program;
      inside = omega (arith, c.loop-at-test.true, c.len.ensures, longer, length-append es h.grows.added);
      within = h.grows.within l.invariant.within;
      shown =
          subst (λ (q : ProgramTree). Each (IsShown q) after) l.invariant.program
          (c.in-Ok-true.ensures.shown (subst (λ (q : ProgramTree). Each (IsShown q) before) (sym l.invariant.program) l.invariant.shown));
      so_far = h.goes_on so_far;
    }
