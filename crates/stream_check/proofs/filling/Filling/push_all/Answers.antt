use Rattle.std.proofs.Common.{◌+◌, ◌∙◌, drop, subst, sym}
use Rattle.stream_check.specs.declared.filling.Filling.{Filling}
use Rattle.stream_check.specs.FillProgress.{Copies}
use Rattle.stream_check.proofs.LoopSteps.{copies_more, copies_past}
use Rattle.stream_check.proofs.filling.Filling.push_all.Goals as goal
use Rattle.stream_check.proofs.filling.Filling.push_all.Goals.{then-not-shows_local+in_ok-push, else-not-shows_local}

pub loop-line-preserved : goal.loop-line-preserved
loop-line-preserved c =
    let l = c.loop-line in
    let f = c.args.self.now in
    let ls = c.args.lines.now in
    let i = l.line-index in
    elim c.if-not-shows_local.branch [
      | then-not-shows_local+in_ok-push w ↦
          let pushed = w.in_ok-push.ensures in
          subst (λ (x : Filling). Copies ls (drop (i + 1) ls) f x) (sym w.self-is)
          (copies_more ls i c.line-item.result f l.self w.push.new.self c.loop-line-test.true c.line-item.is l.invariant (sym c.shows_local.ensures ∙ w.if-not-shows_local.true) pushed.plain pushed.lines pushed.last)
      | else-not-shows_local w ↦
          subst (λ (x : Filling). Copies ls (drop (i + 1) ls) f x) (sym w.self-is)
          (copies_past ls i c.line-item.result f l.self c.loop-line-test.true c.line-item.is l.invariant (sym c.shows_local.ensures ∙ w.if-not-shows_local.false))
    ]
