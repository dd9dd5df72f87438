use Rattle.std.proofs.Common.{◌≡◌, suc, ◌+◌, ◌-◌, List, [], ◌∷◌, length, sym, ap, ◌∙◌, arith, length-append}
use Rattle.run_types.specs.declared.types.Value.{Value}
use Rattle.wire_link.specs.Bytes.{read_values}
use Rattle.wire_link.proofs.ByteConcatenation.{in_front, value_more}
use Rattle.wire_link.proofs.reading.args.Goals as goal

pub loop-preserved : goal.loop-preserved
loop-preserved c =
    let l = c.loop in
    let xs : List Value = l.args in
    let v : Value = c.in_ok-value.value in
    let count = c.in_ok-count.count in
    let below = c.loop-test.true in
    let left : count - l.counter ≡ suc (count - (l.counter + 1)) = omega (arith, below) in
    record {
      made = let m = l.invariant.made in let a = ap length c.add.ensures in let b = length-append xs (v ∷ []) in omega (arith, m, a, b);
      values =
          ap (λ (ys : List Value). in_front ys (read_values (count - (l.counter + 1)) c.in_ok-value.rest.now)) c.add.ensures
          ∙ (value_more (count - l.counter) (count - (l.counter + 1)) xs v l.left.now c.in_ok-value.rest.now left (sym c.in_ok-value.ensures) ∙ l.invariant.values);
    }
