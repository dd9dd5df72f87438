use Rattle.std.proofs.Common.{◌≤◌, ℕ, length, subst}
use Rattle.std.proofs.lemmas.Result.{IfOk-weaker}
use Rattle.search_text.specs.Answers as A
use Rattle.search_text.proofs.answers.run_answer.Goals as goal

pub returns-in-Ok-Shown : goal.returns-in-Ok-Shown
returns-in-Ok-Shown g c =
    let s = c.in-Ok-Shown in
    IfOk-weaker c.shown_answer.result _ _ (λ a says. A.run s.outcome s.labels (s.ensures.shown s.outcome s.labels s.field-0-is) says.0 says.1) c.shown_answer.ensures

pub returns-in-Ok-Finite : goal.returns-in-Ok-Finite
returns-in-Ok-Finite g c =
    let f = c.in-Ok-Finite in
    let all = f.ensures.finite f.count f.field-0-is in
    IfOk-weaker c.finite_answer.result _ _
    (λ a says. A.missing all.0 f.count all.1 (subst (λ (n : ℕ). length all.0 ≤ n) c.saturating_sub.ensures all.2) (f.ensures.within f.count f.field-0-is) says.0 says.1)
    c.finite_answer.ensures

pub returns-in-Ok-Over : goal.returns-in-Ok-Over
returns-in-Ok-Over g c =
    let o = c.in-Ok-Over in
    IfOk-weaker c.over_answer.result _ _ (λ a says. A.unknown o.kept o.cause (o.ensures.over o.kept o.cause o.field-0-is) says.0 says.1) c.over_answer.ensures
