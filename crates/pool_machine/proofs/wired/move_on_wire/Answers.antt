use Rattle.std.proofs.Common.{◌≡◌, ◌∙◌, refl, sym, ap, Some}
use Rattle.std.specs.Option.{option_copied_mut}
use Rattle.std.specs.Map.{lookup}
use Rattle.std.specs.BTreeMap.{is_at}
use Rattle.mesh_semantics.specs.KeptWire.{kept_take}
use Rattle.run_types.specs.Tables.{Pair, pair_cmp}
use Rattle.wire_link.specs.declared.wire.Arrived.TheVariants as R
use Rattle.machine_network.specs.LinkWires.{LinkWires, has_wire, wire_of}
use Rattle.machine_network.proofs.Laws.{never_lost, same_at, taken_at, told_of}
use Rattle.pool_machine.proofs.EventsOnWires.{next_comes, next_waits, nothing_comes, stale_comes, wire_stays}
use Rattle.pool_machine.proofs.wired.move_on_wire.Goals as goal

pub unreachable-requires : goal.unreachable-requires
unreachable-requires c =
    never_lost c.args.wires.now.entries (c.args.link.from, c.args.link.to) c.requires.there (sym c.get_mut.ensures.value ∙ ap option_copied_mut c.in_default.is)

pub returns-in-Empty : goal.returns-in-Empty
returns-in-Empty c = record {
  act = let es : LinkWires = c.args.wires.now.entries in
      let k : Pair = (c.args.link.from, c.args.link.to) in
      let v = c.in-Some.wire.now in
      let h : lookup (is_at (pair_cmp k)) es ≡ Some v = sym c.get_mut.ensures.value ∙ ap option_copied_mut c.in-Some.is in
      nothing_comes c.args.plan.now.unit.now c.args.plan.now.placement.now c.args.nodes.now c.args.nodes.now c.args.links.now c.args.links.now es (c.get_mut.follows.lender v).entries c.args.link.from c.args.link.to (told_of es k v h R.Empty (sym c.in-Empty.is ∙ c.peek.ensures)) (same_at es k v h v (c.get_mut.follows.lender v).entries (c.get_mut.follows.holds v).0 refl);
  there = λ j t.
      let es : LinkWires = c.args.wires.now.entries in
      let k : Pair = (c.args.link.from, c.args.link.to) in
      let v = c.in-Some.wire.now in
      let h : lookup (is_at (pair_cmp k)) es ≡ Some v = sym c.get_mut.ensures.value ∙ ap option_copied_mut c.in-Some.is in
      ap (λ z. has_wire z j) (same_at es k v h v (c.get_mut.follows.lender v).entries (c.get_mut.follows.holds v).0 refl) ∙ t;
  parts = c.requires.kept.parts;
  counts = refl;
}

pub returns-in-Stale : goal.returns-in-Stale
returns-in-Stale c = record {
  act = let es : LinkWires = c.args.wires.now.entries in
      let k : Pair = (c.args.link.from, c.args.link.to) in
      let v = c.in-Some.wire.now in
      let h : lookup (is_at (pair_cmp k)) es ≡ Some v = sym c.get_mut.ensures.value ∙ ap option_copied_mut c.in-Some.is in
      stale_comes c.args.plan.now.unit.now c.args.plan.now.placement.now c.args.nodes.now c.args.nodes.now c.args.links.now c.args.links.now es (c.get_mut.follows.lender c.arrive.new.self).entries c.args.link.from c.args.link.to
      c.in-Stale.number (told_of es k v h (R.Stale c.in-Stale.number) (sym c.in-Stale.is ∙ c.peek.ensures)) (taken_at es k v h c.get_mut.ensures.ordered c.arrive.new.self (c.get_mut.follows.lender c.arrive.new.self).entries (c.get_mut.follows.holds c.arrive.new.self).0 c.arrive.ensures.change);
  there = λ j t.
      let es : LinkWires = c.args.wires.now.entries in
      let k : Pair = (c.args.link.from, c.args.link.to) in
      let v = c.in-Some.wire.now in
      let h : lookup (is_at (pair_cmp k)) es ≡ Some v = sym c.get_mut.ensures.value ∙ ap option_copied_mut c.in-Some.is in
      wire_stays k j (kept_take (wire_of es k)) es (c.get_mut.follows.lender c.arrive.new.self).entries (taken_at es k v h c.get_mut.ensures.ordered c.arrive.new.self (c.get_mut.follows.lender c.arrive.new.self).entries (c.get_mut.follows.holds c.arrive.new.self).0 c.arrive.ensures.change) t;
  parts = c.requires.kept.parts;
  counts = refl;
}

pub returns-in-Ok : goal.returns-in-Ok
returns-in-Ok c = record {
  act = let es : LinkWires = c.args.wires.now.entries in
      let k : Pair = (c.args.link.from, c.args.link.to) in
      let v = c.in-Some.wire.now in
      let h : lookup (is_at (pair_cmp k)) es ≡ Some v = sym c.get_mut.ensures.value ∙ ap option_copied_mut c.in-Some.is in
      next_comes c.args.plan.now.unit.now c.args.plan.now.placement.now c.args.nodes.now c.move_link.new.nodes c.args.links.now c.move_link.new.links es (c.get_mut.follows.lender c.arrive-in-Ok.new.self).entries c.args.link.from c.args.link.to
      c.in-Next.packet (told_of es k v h (R.Next c.in-Next.packet) (sym c.in-Next.is ∙ c.peek.ensures)) c.move_link.new.room.what c.in-Ok.ensures.act (taken_at es k v h c.get_mut.ensures.ordered c.arrive-in-Ok.new.self (c.get_mut.follows.lender c.arrive-in-Ok.new.self).entries (c.get_mut.follows.holds c.arrive-in-Ok.new.self).0 c.arrive-in-Ok.ensures.change);
  there = λ j t.
      let es : LinkWires = c.args.wires.now.entries in
      let k : Pair = (c.args.link.from, c.args.link.to) in
      let v = c.in-Some.wire.now in
      let h : lookup (is_at (pair_cmp k)) es ≡ Some v = sym c.get_mut.ensures.value ∙ ap option_copied_mut c.in-Some.is in
      wire_stays k j (kept_take (wire_of es k)) es (c.get_mut.follows.lender c.arrive-in-Ok.new.self).entries (taken_at es k v h c.get_mut.ensures.ordered c.arrive-in-Ok.new.self (c.get_mut.follows.lender c.arrive-in-Ok.new.self).entries (c.get_mut.follows.holds c.arrive-in-Ok.new.self).0 c.arrive-in-Ok.ensures.change) t;
  parts = c.in-Ok.ensures.parts;
  counts = c.in-Ok.ensures.counts;
}

pub returns-in-Err : goal.returns-in-Err
returns-in-Err c = record {
  act = let es : LinkWires = c.args.wires.now.entries in
      let k : Pair = (c.args.link.from, c.args.link.to) in
      let v = c.in-Some.wire.now in
      let h : lookup (is_at (pair_cmp k)) es ≡ Some v = sym c.get_mut.ensures.value ∙ ap option_copied_mut c.in-Some.is in
      next_waits c.args.plan.now.unit.now c.args.plan.now.placement.now c.args.nodes.now c.move_link.new.nodes c.args.links.now c.move_link.new.links es (c.get_mut.follows.lender v).entries c.args.link.from c.args.link.to
      c.in-Next.packet (told_of es k v h (R.Next c.in-Next.packet) (sym c.in-Next.is ∙ c.peek.ensures)) c.in-Err.limit.kind c.in-Err.limit.node c.in-Err.ensures.act (same_at es k v h v (c.get_mut.follows.lender v).entries (c.get_mut.follows.holds v).0 refl);
  there = λ j t.
      let es : LinkWires = c.args.wires.now.entries in
      let k : Pair = (c.args.link.from, c.args.link.to) in
      let v = c.in-Some.wire.now in
      let h : lookup (is_at (pair_cmp k)) es ≡ Some v = sym c.get_mut.ensures.value ∙ ap option_copied_mut c.in-Some.is in
      ap (λ z. has_wire z j) (same_at es k v h v (c.get_mut.follows.lender v).entries (c.get_mut.follows.holds v).0 refl) ∙ t;
  parts = c.in-Err.ensures.parts;
  counts = c.in-Err.ensures.counts;
}

pub move_link-requires : goal.move_link-requires
move_link-requires c = record {
  kept = c.requires.kept;
  table = c.requires.table;
  link = c.requires.link;
}
