use Rattle.std.proofs.Common.{◌≡◌, ◌∙◌, sym, ap, arith, Some, true, is_some}
use Rattle.std.specs.List.{list_any}
use Rattle.std.proofs.lemmas.Option.{slice_get_within}
use Rattle.rendezvous_protocol.specs.Numbers.{is_number}
use Rattle.rendezvous_protocol.proofs.SlotNumbers.{settled, is_out_there}
use Rattle.rendezvous_protocol.proofs.outstanding.Outstanding.settle.Goals as goal

pub index_mut-requires : goal.index_mut-requires
index_mut-requires c =
    let at = c.self.invariant.forth c.args.number c.in-Some.slot (sym c.in-Some.ensures.value) in
    let within = slice_get_within c.self.inside.numbers.items c.in-Some.slot (Some c.args.number) at in
    omega (arith, within, c.self.inside.numbers.ok)

pub invariant_of-self : goal.invariant_of-self
invariant_of-self c =
    let e = c.in-Some.ensures in
    settled c.self.inside.slots c.try_remove.new.self c.self.inside.numbers.items c.in-Some.slot c.args.number c.self.invariant (sym e.value) e.updates e.len e.capacity

pub unreachable-requires : goal.unreachable-requires
unreachable-requires c =
    let e = c.in-None.ensures.value in
    let n = is_out_there c.self.inside.slots c.self.inside.numbers.items c.args.number c.self.invariant in
    let yes : list_any (is_number c.args.number) c.self.inside.numbers.items ≡ true = ap (λ xs. list_any (is_number c.args.number) xs) c.self.view_is ∙ c.requires in
    absurd (let q = ap is_some e ∙ n ∙ yes in cc)
