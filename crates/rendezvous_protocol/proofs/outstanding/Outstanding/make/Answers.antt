use Rattle.std.proofs.Common.{rules, ◌≡◌, ◌<◌, ◌^◌, arith, replicate, None, Option, ℕ}
use Rattle.rendezvous_protocol.proofs.SlotNumbers.{starts}
use Rattle.rendezvous_protocol.proofs.outstanding.Outstanding.make.Goals as goal

pub invariant_of-result : goal.invariant_of-result
invariant_of-result c =
    let row : c.in_ok-numbers.numbers.items ≡ replicate {A = Option ℕ} c.args.objects None = search rules in
    let narrow : c.in_ok-slots.slots.capacity < 2 ^ 32 = omega (arith, c.if-capacity-ge4294967296.false, c.capacity.ensures.value) in
    starts c.in_ok-slots.slots c.in_ok-numbers.numbers.items c.args.objects c.in_ok-slots.ensures.empty c.in_ok-slots.ensures.capacity narrow row
