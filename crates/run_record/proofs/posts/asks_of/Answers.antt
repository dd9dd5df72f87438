use Rattle.std.proofs.Common.{◌≡◌, suc, ◌+◌, ◌<◌, [], ◌∷◌, ◌++◌, length, drop, get_or, sym, ap, ◌∙◌, append_assoc, arith}
use Rattle.std.proofs.Math.Seq.{drop-cons}
use Rattle.run_types.specs.Asks.{asks_from}
use Rattle.run_record.proofs.posts.asks_of.Goals as goal

pub loop-line-preserved : goal.loop-line-preserved
loop-line-preserved c =
    let l = c.loop-line in
    let lines = c.args.lines.now in
    let line = c.line-item.result in
    let earlier = l.invariant.earlier in
    let inside : l.line-index < length lines = omega (arith, c.loop-line-test.true, c.loop-line.auto.line-index-end, ap length c.items-line-items.ensures) in
    let rest : drop l.line-index lines ≡ line ∷ drop (l.line-index + 1) lines =
    drop-cons lines l.line-index line inside ∙ ap (λ x. x ∷ drop (suc l.line-index) lines) (sym (c.line-item.is ∙ ap (λ xs. get_or xs l.line-index line) c.items-line-items.ensures))
    ∙ ap (λ k. line ∷ drop k lines) (let e : suc l.line-index ≡ l.line-index + 1 = omega arith in e) in
    record {
      earlier = line ∷ earlier;
      posted = c.in_ok-add.ensures earlier l.invariant.posted;
      all =
          ap (λ ns. ns ++ asks_from (line ∷ earlier) (drop (l.line-index + 1) lines)) c.in_ok-push.ensures.ok
          ∙ (append_assoc l.numbers (c.ask.result ∷ []) (asks_from (line ∷ earlier) (drop (l.line-index + 1) lines))
          ∙ (ap (λ n. l.numbers ++ n ∷ asks_from (line ∷ earlier) (drop (l.line-index + 1) lines)) (c.ask.ensures earlier l.invariant.posted)
          ∙ (ap (λ xs. l.numbers ++ asks_from earlier xs) (sym rest) ∙ l.invariant.all)));
    }
