use Rattle.std.proofs.Common.{ℕ, List, Ok, ap, subst, sym}
use Rattle.std.proofs.lemmas.Result.{IfOk-weaker}
use Rattle.pool_syntax.specs.TreeOf.{program_of}
use Rattle.pool_search.specs.SearchTargets.{IsWantedDead, LeadsInOrder}
use Rattle.search_text.specs.Answers as A
use Rattle.search_text.proofs.answers.sought_answer.Goals as goal

pub dead_answer-requires : goal.dead_answer-requires
dead_answer-requires g c =
    let p = program_of c.args.program.now.program.now in
    let q = c.args.question.now in
    let d = c.in-Ok-Dead in
    let led = d.ensures.dead d.labels d.dead (ap Ok d.field-0-is) in
    subst (λ (ns : List ℕ). LeadsInOrder p d.labels (IsWantedDead p q ns)) (sym c.deref.ensures.value) led

pub returns-in-Ok-Fault : goal.returns-in-Ok-Fault
returns-in-Ok-Fault g c =
    let f = c.in-Ok-Fault in
    IfOk-weaker c.fault_answer.result _ _ (λ a says. A.faulty f.labels (f.ensures.fault f.labels (ap Ok f.field-0-is)) says.0 says.1) c.fault_answer.ensures

pub returns-in-Ok-Finite : goal.returns-in-Ok-Finite
returns-in-Ok-Finite g c =
    let f = c.in-Ok-Finite in
    IfOk-weaker c.finite_answer.result _ _ (λ a says. A.finite f.kept (f.ensures.finite f.kept (ap Ok f.field-0-is)) says.0 says.1) c.finite_answer.ensures

pub returns-in-Ok-Over : goal.returns-in-Ok-Over
returns-in-Ok-Over g c =
    let o = c.in-Ok-Over in
    IfOk-weaker c.over_answer.result _ _ (λ a says. A.over o.kept o.cause (o.ensures.over o.kept o.cause (ap Ok o.field-0-is)) says.0 says.1) c.over_answer.ensures
