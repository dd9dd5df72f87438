use Rattle.std.proofs.Common.{◌∙◌, List, ap, sym, subst}
use Rattle.std.proofs.lemmas.Result.{IfOk-weaker}
use Rattle.pool_syntax.specs.Terms.{ProgramTree}
use Rattle.pool_syntax.specs.TreeOf.{program_of}
use Rattle.pool_semantics.specs.PlainOf.{configuration_of}
use Rattle.wait_report.specs.declared.rows.ObjectRow.{ObjectRow}
use Rattle.wait_report.specs.Calls.{Rising, names_of}
use Rattle.waiting_objects.specs.Waiting.{waiting_rows}
use Rattle.search_text.specs.AnswerText.{stuck_text}
use Rattle.search_text.specs.Answers as A
use Rattle.search_text.proofs.RunLaws.{one_last}
use Rattle.search_text.proofs.answers.stuck_answer.Goals as goal

pub replay-requires : goal.replay-requires
replay-requires c = let h = c.requires.0 in record { first = h.first; last = h.last; starts = h.starts; leads = h.leads; holds = tt }

pub waiting_answer-requires : goal.waiting_answer-requires
waiting_answer-requires c = subst (λ (rows : List ObjectRow). Rising (names_of rows)) (sym c.deref.ensures.value) c.in-Ok-waiting_rows.ensures.rising

pub returns : goal.returns
returns c =
    let p = program_of c.args.program.now.program.now in
    let q = c.args.question.now in
    let led = c.in-Ok.ensures.last in
    let last = one_last p c.args.labels.now _ _ c.requires.0 led ∙ led.holds in
    IfOk-weaker c.waiting_answer.result _ _
    (λ a says. A.stuck c.args.labels.now c.requires
    (says.0 ∙ ap (stuck_text c.args.names.now c.args.labels.now)
    (c.deref.ensures.value ∙ c.in-Ok-waiting_rows.ensures.rows ∙ ap (λ (t : ProgramTree). waiting_rows q.all t (configuration_of c.in-Ok.plain)) c.in-Ok.ensures.program ∙ ap (waiting_rows q.all p) (sym last)))
    says.1)
    c.waiting_answer.ensures
