use Rattle.std.proofs.Common.{rules, ◌≡◌, ◌++◌, ◌+◌, ◌-◌, ap, sym, ◌∙◌, arith}
use Rattle.rand_core.specs.Steps.{first_words}
use Rattle.rand_pcg.specs.Pcg.{pcg32}
use Rattle.pool_gen.specs.Ring.{drawn_line, drawn_lines}
use Rattle.pool_gen.proofs.DrawnLaws.{one_line_more, no_line_more}
use Rattle.pool_gen.proofs.drawn.push_drawn.Goals as goal

pub loop-done-preserved : goal.loop-done-preserved
loop-done-preserved c =
    let left = c.args.count - (c.loop-done.done + 1) in
    let word : drawn_line (pcg32 c.loop-done.generator).0 ≡ c.drawn_line.result.now = search rules in
    let rest : (pcg32 c.loop-done.generator).1 ≡ c.next_word.new.self = search rules in
    let text : c.push_piece.new.text ≡ c.loop-done.text ++ drawn_line (pcg32 c.loop-done.generator).0 = search rules in
    ap (λ t. t ++ drawn_lines (first_words pcg32 left c.next_word.new.self)) text
    ∙ (ap (λ g. (c.loop-done.text ++ drawn_line (pcg32 c.loop-done.generator).0) ++ drawn_lines (first_words pcg32 left g)) (sym rest)
    ∙ (sym (one_line_more (c.args.count - c.loop-done.done) left c.loop-done.generator c.loop-done.text (omega arith))
    ∙ c.loop-done.invariant))

pub returns : goal.returns
returns c =
    sym (no_line_more (c.args.count - c.loop-done.done) c.loop-done.generator c.loop-done.text (omega arith)) ∙ c.loop-done.invariant
