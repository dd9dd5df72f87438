use Rattle.std.proofs.Common.{sym, ap, ◌∙◌, cond, Bool, w64}
use Rattle.std.proofs.lemmas.Nat.Bits.{bit_at_set_same, bit_at_set_other, bit_at_clear_same, bit_at_clear_other}
use Rattle.node_state.proofs.ready.with_bit.Goals as goal

pub returns-then-ready-clause-same : goal.returns-then-ready-clause-same
returns-then-ready-clause-same c = bit_at_set_same w64 c.args.word c.args.place c.requires ∙ ap (λ (b : Bool). cond b 1 0) (sym c.if-ready.true)

pub returns-then-ready-clause-others : goal.returns-then-ready-clause-others
returns-then-ready-clause-others c i l n = bit_at_set_other w64 c.args.word c.args.place c.requires i n

pub returns-else-ready-clause-same : goal.returns-else-ready-clause-same
returns-else-ready-clause-same c = bit_at_clear_same w64 c.args.word c.args.place c.requires ∙ ap (λ (b : Bool). cond b 1 0) (sym c.if-ready.false)

pub returns-else-ready-clause-others : goal.returns-else-ready-clause-others
returns-else-ready-clause-others c i l n = bit_at_clear_other w64 c.args.word c.args.place c.requires i l n
