use Rattle.std.proofs.Common.{List, refl, sym, ap, subst, ◌∙◌, map}
use Rattle.std.specs.Option.{option_copied}
use Rattle.run_types.specs.declared.types.What.TheVariants as W
use Rattle.run_types.specs.Tables.{list_at, pair_cmp}
use Rattle.mesh_of_code.specs.Coded.{coded}
use Rattle.node_semantics.specs.Machine.{move_in}
use Rattle.rendezvous_protocol.specs.declared.packet.Packet.{Packet}
use Rattle.rendezvous_protocol.specs.Packets.{numbered}
use Rattle.pool_machine.specs.DidOf as D
use Rattle.pool_machine.specs.Parts.{IsDid, machine_from}
use Rattle.pool_machine.proofs.MovesOfHeads.{no_first}
use Rattle.pool_machine.proofs.InsideMesh.{link_of_links}
use Rattle.pool_machine.proofs.moves.move_link.Goals as goal

pub returns-in_default : goal.returns-in_default
returns-in_default c = record {
  act = let a = c.args.link.from in
      let b = c.args.link.to in
      let nodes = c.args.nodes.now in
      let links = c.args.links.now in
      let none = no_first (list_at pair_cmp (a, b) links.links) (sym c.head.ensures ∙ ap option_copied c.in_default.is) in
      subst (λ (xs : List Packet). IsDid (D.Line W.Idle) nodes links nodes links (move_in (coded c.args.plan.now.unit.now) c.args.plan.now.placement.now (machine_from nodes links.links) a b (map numbered xs))) (sym none) (refl, refl);
  parts = c.requires.kept.parts;
  counts = refl;
}

pub head-requires : goal.head-requires
head-requires c = record { link = link_of_links c.args.plan.now.unit.now c.args.plan.now.placement.now c.args.nodes.now c.args.links.now c.requires.kept.parts c.args.link.from c.args.link.to c.requires.link }

pub arrive-requires : goal.arrive-requires
arrive-requires c = record {
  head = sym c.head.ensures ∙ ap option_copied c.in-Some.is;
  goal = sym c.goal.ensures ∙ c.if-goal-link.true;
  kept = c.requires.kept;
  table = c.requires.table;
  link = c.requires.link;
}

pub pass-requires : goal.pass-requires
pass-requires c = record {
  head = sym c.head.ensures ∙ ap option_copied c.in-Some.is;
  goal = λ e. c.if-goal-link.false (c.goal.ensures ∙ e);
  kept = c.requires.kept;
  table = c.requires.table;
  link = c.requires.link;
}

pub returns-then-goal-link : goal.returns-then-goal-link
returns-then-goal-link c = record {
  act = c.arrive.ensures.act;
  parts = c.arrive.ensures.parts;
  counts = c.arrive.ensures.counts;
}

pub returns-else-goal-link : goal.returns-else-goal-link
returns-else-goal-link c = record {
  act = c.pass.ensures.act;
  parts = c.pass.ensures.parts;
  counts = refl;
}
