-- The counts of a station as its code reads them.
use Rattle.std.proofs.Common.{◌≡◌, sym, ap, ap₂, subst, ◌∙◌, ℕ, zero, suc, ◌+◌, ◌*◌, ◌<◌, ◌≤◌, List, [], ◌∷◌, length, get_or, map, arith}
use Rattle.std.proofs.lemmas.List.{length-map}
use Rattle.run_types.specs.Tables.{pair_cmp, list_at}
use Rattle.rendezvous_protocol.specs.Packets.{numbered}
use Rattle.machine_network.specs.LinkWires.{numbered_link}
use Rattle.machine_network.proofs.Laws.{list_numbered}
use Rattle.station_semantics.specs.AllQuiet.{entered}
use Rattle.station_semantics.specs.Station.{count_at}
use Rattle.node_station.specs.declared.parts.StationParts.{StationParts}
use Rattle.node_station.specs.Parts.{IsStation, view_of}
use Rattle.node_station.specs.StationOf.{StationOf, counts_from, station_of}
use Rattle.node_station.proofs.Counts.{count_is}

-- an item of a list, whatever the default
pub item_is : (xs : List ℕ) (i r : ℕ) → i < length xs → r ≡ get_or xs i r → get_or xs i 0 ≡ r
item_is [] i r h e = absurd (omega arith)
item_is (x ∷ xs) zero r h e = sym e
item_is (x ∷ xs) (suc i) r h e = item_is xs i r (omega (arith, h)) e

module _ (p : StationParts) (s : StationOf) (seen : view_of p ≡ s) (ok : IsStation p) (b r : ℕ) (inside : b < s.placement.width * s.placement.height) where
  inside_parts : b < p.table.width * p.table.height
  inside_parts = subst (λ (z : StationOf). b < z.placement.width * z.placement.height) (sym seen) inside

  in_acked : b < length p.acked.items
  in_acked = subst (λ n. b < n) (sym ok.acked) inside_parts

  in_handed : b < length p.handed.items
  in_handed = subst (λ n. b < n) (sym ok.handed) inside_parts

  pub acked_seen : r ≡ get_or p.acked.items b r → r ≡ count_at b (counts_from 0 s.acked)
  acked_seen e = sym (item_is p.acked.items b r in_acked e) ∙ sym (count_is 0 b b p.acked.items (omega arith)) ∙ ap (λ (z : StationOf). count_at b (counts_from 0 z.acked)) seen

  pub handed_seen : r ≡ get_or p.handed.items b r → r ≡ count_at b (counts_from 0 s.handed)
  handed_seen e = sym (item_is p.handed.items b r in_handed e) ∙ sym (count_is 0 b b p.handed.items (omega arith)) ∙ ap (λ (z : StationOf). count_at b (counts_from 0 z.handed)) seen

  pub waits_seen : (waits : ℕ) → waits ≡ length (list_at pair_cmp (p.id, b) p.links.links) → waits ≡ length (list_at pair_cmp (s.node.id, b) (station_of s).links)
  waits_seen waits e =
      e ∙ sym (length-map (list_at pair_cmp (p.id, b) p.links.links) numbered) ∙ ap length (sym (list_numbered (p.id, b) p.links.links))
      ∙ ap (λ i. length (list_at pair_cmp (i, b) (map numbered_link p.links.links))) (sym ok.id)
      ∙ ap (λ (z : StationOf). length (list_at pair_cmp (z.node.id, b) (map numbered_link z.links))) seen

  pub entered_seen : (waits : ℕ) → r ≡ get_or p.acked.items b r → waits ≡ length (list_at pair_cmp (p.id, b) p.links.links) → r + waits ≡ entered (station_of s) s.node.id b
  entered_seen waits e f = ap₂ (λ x y. x + y) (acked_seen e) (waits_seen waits f)

  pub entered_small : (waits : ℕ) → r ≡ get_or p.acked.items b r → waits ≡ length (list_at pair_cmp (p.id, b) p.links.links) → r + waits ≤ p.steps
  entered_small waits e f = let a = ok.entered b in let z = item_is p.acked.items b r in_acked e in omega (arith, a, z, f)
