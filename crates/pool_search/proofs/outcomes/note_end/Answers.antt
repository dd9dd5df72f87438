use Rattle.std.proofs.Common.{◌∙◌, sym, subst, slice_get}
use Rattle.std.proofs.lemmas.Result.{on_ok_weaker}
use Rattle.pool_syntax.specs.Terms.{ProgramTree}
use Rattle.pool_semantics.specs.PlainOf.{configuration_of, program_tree}
use Rattle.reachability.specs.Search.{IsAtEnd}
use Rattle.pool_search.specs.Entries.{entries, searched}
use Rattle.pool_search.specs.FoundOutcomes.{outcome}
use Rattle.pool_search.specs.OutcomeTargets.{IsOfKind, IsShown}
use Rattle.pool_search.proofs.ConfigurationClass.{ended_by}
use Rattle.pool_search.proofs.OutcomesComplete.{noted_by, reached_at, shown_by, shown_more}
use Rattle.pool_search.proofs.outcomes.note_end.Goals as goal

pub returns-clause-noted : goal.returns-clause-noted
returns-clause-noted c =
    let p = searched c.args.explored.now in
    let at = configuration_of c.in_ok-plain.plain in
    let kind : IsOfKind c.kind_of.result p at = subst (λ (q : ProgramTree). IsOfKind c.kind_of.result q at) c.in_ok-plain.ensures.program c.kind_of.ensures in
    on_ok_weaker c.note.result
    (λ one. noted_by p c.note.new.self.list.items c.kind_of.result c.in_ok-items.items.items at kind one (slice_get (entries c.args.explored.now) c.args.at) c.in_ok-plain.ensures.configuration c.in_ok-items.ensures) c.note.ensures.has

pub returns-clause-shown : goal.returns-clause-shown
returns-clause-shown c =
    let p = searched c.args.explored.now in
    let at = configuration_of c.in_ok-plain.plain in
    let es = entries c.args.explored.now in
    let items = c.in_ok-items.items in
    let kind : IsOfKind c.kind_of.result p at = subst (λ (q : ProgramTree). IsOfKind c.kind_of.result q at) c.in_ok-plain.ensures.program c.kind_of.ensures in
    let ended : IsAtEnd p at =
    subst (λ (q : ProgramTree). IsAtEnd q at) c.in_ok-plain.ensures.program (ended_by (program_tree c.in_ok-plain.plain) at c.moving.result c.moving.ensures.none (sym c.is_some.ensures ∙ c.if-is_some.false))
    in
    let shown : IsShown p (outcome c.kind_of.result items) =
    shown_by p (outcome c.kind_of.result items) at (reached_at p es c.args.at items.items at c.requires.exists c.requires.reached c.in_ok-plain.ensures.configuration c.in_ok-items.ensures) ended kind
    in
    on_ok_weaker c.note.result (λ added all. shown_more p c.args.ends.now.list.items c.note.new.self.list.items (outcome c.kind_of.result items) shown added all) c.note.ensures.added
