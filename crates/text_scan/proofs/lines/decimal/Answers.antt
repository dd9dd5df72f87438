use Rattle.std.proofs.Common.{◌≡◌, ◌+◌, ◌*◌, ◌-◌, get_or, drop, false, inl, inr, sym, ◌∙◌, ap, arith}
use Rattle.std.proofs.lemmas.Bool.{eqb-true}
use Rattle.std.proofs.lemmas.Bool.Decides.{nat_tests}
use Rattle.std.proofs.lemmas.List.{at_drop_more, drop_all}
use Rattle.text_scan.specs.Text.{is_integer, value_of_digits}
use Rattle.text_scan.proofs.DecimalLaws.{digit_at, value_grows, integer, no_integer, decimal_not_digits, decimal_too_large, decimal_value}
use Rattle.text_scan.specs.declared.spans.Decimal.TheVariants.{Value}
use Rattle.text_scan.proofs.lines.decimal.Goals as goal
use Rattle.text_scan.proofs.lines.decimal.Goals.{then-is_empty-via-then-is_empty, then-is_empty-via-else-is_empty+then-run_end-word}

pub returns-then-is_empty : goal.returns-then-is_empty
returns-then-is_empty c =
    let w = c.args.word.now in
    let no : is_integer w ≡ false = elim c.then-is_empty.branch [
      | then-is_empty-via-then-is_empty b ↦ no_integer w (inl (eqb-true _ 0 (sym (b.if-is_empty.ensures))))
      | then-is_empty-via-else-is_empty+then-run_end-word b ↦ no_integer w (inr (omega arith))
    ] in
    sym (decimal_not_digits w no)

pub overflow_sub-byte : goal.overflow_sub-byte
overflow_sub-byte c = (digit_at c.args.word.now c.loop-byte.byte-index (omega arith)).0

pub returns-then-value-digit : goal.returns-then-value-digit
returns-then-value-digit c =
    let w = c.args.word.now in
    let i = c.loop-byte.byte-index in
    let digit = digit_at w i (omega arith) in
    let step = at_drop_more (value_of_digits c.loop-byte.value) w i 0 (omega arith) in
    let grows = value_grows (c.loop-byte.value * 10 + (get_or w i 0 - 48)) (drop (i + 1) w) in
    sym (decimal_too_large w (integer w (omega arith) (omega arith)) (omega (arith, step, c.loop-byte.invariant.whole, grows)))

pub returns : goal.returns
returns c =
    let w = c.args.word.now in
    let whole = sym c.loop-byte.invariant.whole ∙ ap (value_of_digits c.loop-byte.value) (drop_all c.loop-byte.byte-index w (omega arith)) in
    ap Value (sym whole) ∙ sym (decimal_value w (integer w (grind (arith, nat_tests)) (omega arith)) (omega (arith, whole)))
