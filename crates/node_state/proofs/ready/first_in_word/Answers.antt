use Rattle.std.proofs.Common.{arith, ◌/◌, ◌%◌, ◌*◌, ◌^◌, get_or}
use Rattle.std.proofs.lemmas.Nat.{and_le_l}
use Rattle.node_state.proofs.BitWords.{none_in_word, first_in_word}
use Rattle.node_state.proofs.ready.first_in_word.Goals as goal

pub returns-then-rest-eq0 : goal.returns-then-rest-eq0
returns-then-rest-eq0 c = none_in_word c.args.words.now c.args.from c.if-rest-eq0.true

pub returns : goal.returns
returns c =
    let word = get_or c.args.words.now (c.args.from / 64) 0 in
    let fits = c.type_inv.words (c.args.from / 64) in
    first_in_word c.args.words.now c.args.from (omega (arith, c.if-rest-eq0.false))
    (omega (arith, and_le_l word (18446744073709551615 * 2 ^ (c.args.from % 64) % 18446744073709551616), fits))
