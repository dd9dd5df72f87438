use Rattle.std.proofs.Common.{◌≡◌, ◌∙◌, List, ℕ, sym, ap, subst, append-nil, length, nat_lt, false, Bool, Some, None, if◌then◌else◌, arith}
use Rattle.station_text.specs.Digits.{bytes_of_digits}
use Rattle.station_text.proofs.DigitPairs.{pair_more, with_rest}
use Rattle.station_text.proofs.digits.bytes_of_digits.Goals as goal

pub returns-in-Nothing : goal.returns-in-Nothing
returns-in-Nothing c =
    let w = c.args.word.now in
    let few = c.if-word-gt208.false in
    let t : nat_lt 208 (length w) ≡ false = grind (arith, few) in
    ap (λ (bs : List ℕ). Some bs) (sym (append-nil c.pairs.bytes.items)) ∙ subst (λ (r : List ℕ). with_rest c.pairs.bytes.items r ≡ bytes_of_digits w) c.in-Nothing.ensures c.pairs.invariant.read
    ∙ ap (λ (b : Bool). if b then None else bytes_of_digits w) (sym t)

pub pairs-preserved : goal.pairs-preserved
pairs-preserved c =
    let few = c.pairs.invariant.few in
    let long = ap length c.in-Two.ensures in
    let more = c.push.ensures.len in
    record {
      few = omega (arith, few, long, more);
      read = ap (λ (bs : List ℕ). with_rest bs c.in-Two.more.now) c.push.ensures.items ∙ pair_more c.pairs.bytes.items c.in-Two.high c.in-Two.low c.in-Some.byte c.in-Two.more.now (sym c.in-Some.ensures)
          ∙ ap (with_rest c.pairs.bytes.items) (sym c.in-Two.ensures) ∙ c.pairs.invariant.read;
    }
