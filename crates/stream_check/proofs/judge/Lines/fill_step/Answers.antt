use Rattle.std.proofs.Common.{◌≡◌, true, refl, sym, ap, subst, ◌∙◌, List}
use Rattle.std.specs.Prelude.{IfNone, IfSome}
use Rattle.run_types.specs.declared.types.Line.{Line}
use Rattle.pool_syntax.specs.TreeOf.{program_of}
use Rattle.stream_check.specs.declared.judge.Lines.{Lines}
use Rattle.stream_check.specs.declared.filling.Filling.{Filling}
use Rattle.stream_check.specs.FillingLines.{IsReadyToFill, PassesLine}
use Rattle.stream_check.specs.FillProgress.{Stops}
use Rattle.stream_check.specs.Stream.{comes_next, next_number}
use Rattle.stream_check.proofs.FillingSteps.{filled_after, filled_past, filled_stop}
use Rattle.stream_check.proofs.judge.Lines.fill_step.Goals as goal

pub returns-then-shows_local-clause-verdict : goal.returns-then-shows_local-clause-verdict
returns-then-shows_local-clause-verdict c =
    let p = program_of c.args.program.now.program.now in
    let j = c.args.self.now in
    let l = c.args.line.now in
    let i : Lines = record { filling = j.filling; begun = j.begun; last = c.next_number-self.result } in
    λ ls a next event. filled_past p ls l j a i (sym c.shows_local.ensures ∙ c.if-shows_local.true) event next refl refl c.next_number-self.ensures

pub returns-in-Some-clause-verdict : goal.returns-in-Some-clause-verdict
returns-in-Some-clause-verdict c =
    let p = program_of c.args.program.now.program.now in
    let j = c.begin.new.self in
    let l = c.args.line.now in
    let g = c.fill_line.new.self.filling in
    let own = sym c.shows_local.ensures ∙ c.if-shows_local.false in
    let stops = subst (λ o. IfSome o (λ redex. Stops j.filling g l redex)) c.in-Some.is c.in_ok-stop.ensures.stops in
    λ ls a next event. filled_stop p ls l j (c.in_ok-begin.ensures.ready_to_fill ls a own) g c.in-Some.redex stops

pub returns-clause-verdict : goal.returns-clause-verdict
returns-clause-verdict c =
    let p = program_of c.args.program.now.program.now in
    let j = c.begin.new.self in
    let l = c.args.line.now in
    let k = c.fill_line.new.self in
    let g = k.filling in
    let own = sym c.shows_local.ensures ∙ c.if-shows_local.false in
    let cleared : Filling = record { plain = g.plain; lines = c.make.result; last = g.last } in
    let i : Lines = record { filling = cleared; begun = k.begun; last = c.next_number-self-2.result } in
    λ ls a next event.
    let ready : IsReadyToFill p ls l j = c.in_ok-begin.ensures.ready_to_fill ls a own in
    let passes : PassesLine j k l = subst (λ o. IfNone o (PassesLine j k l)) c.in_default.is (c.in_ok-stop.ensures.passes own ready.1) in
    filled_after p ls l j ready g i passes.0 passes.1 (subst (λ n. comes_next n l ≡ true) (a.last ∙ sym ready.0.last) next) event
    (ap (λ (xs : List Line). record g { lines = xs }) c.make.ensures) c.fill_line.ensures.begun (c.next_number-self-2.ensures ∙ ap next_number c.fill_line.ensures.last)
