use Rattle.std.proofs.Common.{◌≡◌, ◌+◌, ◌-◌, suc, ap, ◌∙◌, sym, [], ◌∷◌, ◌++◌, length, append_assoc, length-append, arith}
use Rattle.run_types.specs.Operands.{taken, nth}
use Rattle.node_heap.specs.Heaps.{top_at}
use Rattle.object_interp.proofs.Operands.{taken_first}
use Rattle.object_interp.proofs.read.last_values.Goals as goal

pub loop-done-preserved : goal.loop-done-preserved
loop-done-preserved c =
    let vs = (top_at c.args.heap.now c.args.slot).operands in
    let n = c.args.count - (c.loop-done.done + 1) in
    let args = c.loop-done.args in
    let v = c.operand.result in
    let rest = taken n vs [] in
    let one_less : suc n ≡ c.args.count - c.loop-done.done = omega arith in
    let here : c.args.count - 1 - c.loop-done.done ≡ n = omega arith in
    let first : taken (c.args.count - c.loop-done.done) vs [] ≡ v ∷ rest =
    ap (λ m. taken m vs []) (sym one_less) ∙ taken_first n vs [] ∙ ap (λ w. w ∷ rest) (sym (c.operand.ensures ∙ ap (nth vs) here)) in (
      ap (λ l. l ++ rest) c.add.ensures ∙ append_assoc args (v ∷ []) rest ∙ ap (λ l. args ++ l) (sym first) ∙ c.loop-done.invariant.0,
      omega (arith, ap length c.add.ensures, length-append args (v ∷ []), c.loop-done.invariant.1),
    )
