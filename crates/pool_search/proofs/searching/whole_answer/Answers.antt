use Rattle.std.proofs.Common.{◌≡◌, ◌≤◌, subst, sym, ◌∙◌, length, true, false, arith}
use Rattle.pool_syntax.specs.Terms.{ProgramTree}
use Rattle.pool_syntax.specs.TreeOf.{program_of}
use Rattle.search_laws.specs.Tried.{states_only}
use Rattle.search_laws.proofs.Laws.{nameless}
use Rattle.pool_search.specs.Entries.{IsPassedOver, entries}
use Rattle.pool_search.specs.Progress.{IsSearchedTo}
use Rattle.pool_search.specs.KnownWaiters.{AreKnown}
use Rattle.pool_search.specs.SearchTargets.{wants_stuck}
use Rattle.pool_search.proofs.SearchComplete.{AllGoOn, is_finite}
use Rattle.pool_search.proofs.WaiterLaws.{all_go_on_in}
use Rattle.pool_search.proofs.searching.whole_answer.Goals as goal

pub returns-then-not-wants_stuck : goal.returns-then-not-wants_stuck
returns-then-not-wants_stuck c =
    let program = c.args.program.now.program.now in
    let p = program_of program in
    let q = c.args.question.now in
    let es = entries c.args.explored.now in
    let searched : IsSearchedTo p states_only (IsPassedOver p q) es (length es) =
    subst (λ (r : ProgramTree). IsSearchedTo r states_only (IsPassedOver r q) es (length es)) c.requires.program c.requires.whole in
    let counted = c.count-kept.ensures in
    let no : wants_stuck q.wanted ≡ false = sym c.wants_stuck.ensures ∙ c.if-not-wants_stuck.true in
    let on : AllGoOn p q es = (λ asked. absurd (let z : true ≡ false = sym asked ∙ no in cc)) in
    let count : length es ≡ c.count-kept.result = omega (arith, c.requires.within) in
    let within : c.count-kept.result ≤ q.most = omega (arith, c.requires.within) in
    is_finite p q es c.count-kept.result (nameless program) searched on count within

pub returns-then-all_go_on : goal.returns-then-all_go_on
returns-then-all_go_on c =
    let program = c.args.program.now.program.now in
    let p = program_of program in
    let q = c.args.question.now in
    let es = entries c.args.explored.now in
    let searched : IsSearchedTo p states_only (IsPassedOver p q) es (length es) =
    subst (λ (r : ProgramTree). IsSearchedTo r states_only (IsPassedOver r q) es (length es)) c.requires.program c.requires.whole in
    let counted = c.count-kept.ensures in
    let ws = c.note_all.new.waiters.list.items in
    let known : AreKnown p es ws = subst (λ (r : ProgramTree). AreKnown r es ws) c.requires.program c.in_ok-note_all.ensures.known in
    let on : AllGoOn p q es = (λ asked. all_go_on_in p es ws known (c.all_go_on.ensures c.if-all_go_on.true)) in
    let count : length es ≡ c.count-kept.result = omega (arith, c.requires.within) in
    let within : c.count-kept.result ≤ q.most = omega (arith, c.requires.within) in
    is_finite p q es c.count-kept.result (nameless program) searched on count within
