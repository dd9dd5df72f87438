use Rattle.std.proofs.Common.{◌≡◌, ◌+◌, ◌-◌, ◌∙◌, ap, length, ◌++◌, arith, append-nil, sym}
use Rattle.std.specs.List.{range_with_len}
use Rattle.schedule_reader.specs.Entries.{has_link}
use Rattle.schedule_reader.specs.Events.{moves_to}
use Rattle.run_types.proofs.Laws.{more}
use Rattle.schedule_reader.proofs.Rounds.{move_of, move_step}
use Rattle.schedule_reader.proofs.round.push_moves_to.Goals as goal
use Rattle.schedule_reader.proofs.round.push_moves_to.Goals.{then-has_link+in_ok-push_link, else-has_link}

pub loop-to-preserved : goal.loop-to-preserved
loop-to-preserved c =
    let l = c.loop-to in
    let w = c.args.width in
    let a = c.args.from in
    let cuts = c.args.cuts.now in
    let s = c.args.lossy in
    let all = more (moves_to w cuts s a) (λ k. move_of s (has_link w cuts a k) a k) (move_step w cuts s a) l.to c.args.nodes (omega arith) l.events.items _ l.invariant.items in
    let asked : c.has_link.result ≡ has_link w cuts a l.to =
    c.has_link.ensures
    ∙ (ap (λ n. has_link n cuts c.from-in-loop-to.result c.from-in-loop-to-2.result) c.from.ensures
    ∙ (ap (λ n. has_link w cuts n c.from-in-loop-to-2.result) c.from-in-loop-to.ensures ∙ ap (λ n. has_link w cuts a n) c.from-in-loop-to-2.ensures)) in
    let left = moves_to w cuts s a (range_with_len (l.to + 1) (c.args.nodes - (l.to + 1))) in
    elim c.if-has_link.branch [
      | then-has_link+in_ok-push_link b ↦
          record {
            items =
                ap (λ v. v.items ++ left) b.events-is
                ∙ (ap (λ es. es ++ left) b.in_ok-push_link.ensures.items
                ∙ (ap (λ t. (l.events.items ++ move_of s t a l.to) ++ left) (sym b.if-has_link.true ∙ asked) ∙ all));
            few = omega (arith, ap (λ v. length v.items) b.events-is, b.in_ok-push_link.ensures.few);
          }
      | else-has_link b ↦
          record {
            items =
                ap (λ v. v.items ++ left) b.events-is
                ∙ (ap (λ es. es ++ left) (sym (append-nil l.events.items))
                ∙ (ap (λ t. (l.events.items ++ move_of s t a l.to) ++ left) (sym b.if-has_link.false ∙ asked) ∙ all));
            few = omega (arith, ap (λ v. length v.items) b.events-is);
          }
    ]
