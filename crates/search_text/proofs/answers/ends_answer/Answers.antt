use Rattle.std.proofs.Common.{◌≡◌, ◌∙◌, map, string_bytes, subst, sym, true}
use Rattle.std.proofs.lemmas.Result.{IfOk-weaker}
use Rattle.std.specs.Prelude.{IfNone}
use Rattle.run_types.specs.Tables.{Each}
use Rattle.pool_syntax.specs.TreeOf.{program_of}
use Rattle.search_text.specs.Answers as A
use Rattle.search_text.specs.Grading.{is_allowed}
use Rattle.search_text.proofs.GradeLaws.{allowed_grade}
use Rattle.search_text.proofs.answers.ends_answer.Goals as goal

pub returns-in_default : goal.returns-in_default
returns-in_default g c =
    let t = c.in_ok-told.told in
    let h = c.in_ok-told.ensures in
    let names = c.args.names.now in
    let allowed = map string_bytes c.args.allowed.now in
    let right = subst (λ r. IfNone r (Each (λ o. is_allowed allowed names o ≡ true) c.deref.result.now)) c.in_default.is c.in_ok-place.ensures in
    IfOk-weaker c.allowed_answer.result _ _ (λ a says.
    allowed_grade names (program_of c.args.program.now.program.now) allowed c.args.may_run_on c.args.most t.list.items t.whole t.kept t.cause a.text.items a.found h.shown h.all
    (subst (Each (λ o. is_allowed allowed names o ≡ true)) c.deref.ensures.value right) h.within h.cause says)
    c.allowed_answer.ensures

pub returns-then-not-branch : goal.returns-then-not-branch
returns-then-not-branch g c =
    let o = c.in-Shown.outcome in
    IfOk-weaker c.wrong_answer.result _ _
    (λ a says. A.fails o c.in-Shown.labels (c.in_ok-outcome.ensures.shown o c.in-Shown.labels c.in-Shown.is) (sym c.in_ok-is_allowed.ensures ∙ c.if-not-branch.true) says.0 says.1)
    c.wrong_answer.ensures

pub returns : goal.returns
returns g c =
    let t = c.in_ok-told.told in
    let h = c.in_ok-told.ensures in
    IfOk-weaker c.listed_answer.result _ _ (λ a says. A.unknown t.list.items t.kept t.cause h.shown h.cause says.0 says.1) c.listed_answer.ensures
