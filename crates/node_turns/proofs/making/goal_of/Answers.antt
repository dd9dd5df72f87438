use Rattle.std.proofs.Common.{ℕ, List, ◌+◌, ◌*◌, ◌%◌, ◌≤◌, get_or, ap, ◌∙◌, arith}
use Rattle.std.proofs.lemmas.Nat.{mul-le}
use Rattle.run_types.specs.declared.types.Place.TheVariants as Pl
use Rattle.node_turns.proofs.CreateStep.{goal_read}
use Rattle.node_turns.proofs.making.goal_of.Goals as goal

pub overflow_mul-nodes : goal.overflow_mul-nodes
overflow_mul-nodes c =
    let k : c.args.placement.now.width * c.args.placement.now.height ≤ 64 = mul-le c.args.placement.now.width c.args.placement.now.height 8 8 c.requires.size.0 c.requires.size.1 in omega (arith, k)

pub returns-in-Same : goal.returns-in-Same
returns-in-Same c = goal_read c.args.placement.now c.args.parts.now.id (get_or c.args.parts.now.made c.args.class 0) c.args.class c.items-2.result.now (Pl.At 0) Pl.Same c.items-2.ensures c.requires.places c.in-Same.is

pub returns-in-Spread : goal.returns-in-Spread
returns-in-Spread c =
    ap (λ (ks : List ℕ). (c.args.parts.now.id + get_or ks c.args.class 0) % (c.args.placement.now.width * c.args.placement.now.height)) c.items.ensures
    ∙ goal_read c.args.placement.now c.args.parts.now.id (get_or c.args.parts.now.made c.args.class 0) c.args.class c.items-2.result.now (Pl.At 0) Pl.Spread c.items-2.ensures c.requires.places c.in-Spread.is
