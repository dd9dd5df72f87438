-- Packets that bring an object its value.
use Rattle.std.proofs.Common.{◌≡◌, refl, ℕ, ◌≤◌, List, [], ◌∷◌, length, false, arith}
use Rattle.run_types.specs.Tables.{Pair, list_at, pair_cmp}
use Rattle.run_types.specs.LinkTables.{leaving}
use Rattle.rendezvous_protocol.specs.declared.packet.Packet.{Packet}
use Rattle.machine_network.proofs.Laws.{list_within}
use Rattle.pool_machine.specs.ObjectReport.{is_brought}

none_in : (o : ℕ) (xs : List Packet) → length xs ≤ 0 → is_brought o xs ≡ false
none_in o [] h = refl
none_in o (x ∷ xs) h = absurd (omega (arith, h))

-- nothing is on a link of a node that no packet leaves
pub nothing_leaves : (o a b : ℕ) (links : List (Pair × List Packet)) (count : ℕ) → count ≡ leaving links a → count ≤ 0 → is_brought o (list_at pair_cmp (a, b) links) ≡ false
nothing_leaves o a b links count e h = none_in o (list_at pair_cmp (a, b) links) (let z = list_within (a, b) links in omega (arith, z, e, h))
