-- A station after an acknowledgement.
use Rattle.std.proofs.Common.{◌≡◌, ◌≢◌, ◌⊎◌, inl, inr, refl, sym, ap, subst, IsTrue, ℕ, zero, suc, ◌+◌, ◌-◌, ◌<◌, ◌≤◌, List, [], ◌∷◌, length, get_or, drop, arith, length-drop}
use Rattle.std.specs.Prelude.{slice_set}
use Rattle.std.specs.FinMap.Entries.{is_sorted}
use Rattle.run_types.specs.LinkTables.{leaving}
use Rattle.run_types.specs.Tables.{Pair, pair_cmp, list_at, put_list}
use Rattle.run_types.proofs.Laws.{decide, listed_here, listed_sorted, listed_there}
use Rattle.node_semantics.specs.Node.{message_count}
use Rattle.node_semantics.proofs.Laws.{decide_link}
use Rattle.rendezvous_protocol.specs.declared.packet.Packet.{Packet}
use Rattle.mesh_routing.specs.Links.{LinksOf}
use Rattle.station_semantics.proofs.Laws.{leaving_less}
use Rattle.node_station.specs.declared.parts.StationParts.{StationParts}
use Rattle.node_station.specs.Parts.{IsStation}
use Rattle.node_station.proofs.ForgottenPackets.{forgotten}

-- the list of counts after one was set
pub set_here : (ks : List ℕ) (a v : ℕ) → a < length ks → get_or (slice_set ks a v) a 0 ≡ v
set_here [] a v h = absurd (omega arith)
set_here (k ∷ ks) zero v h = refl
set_here (k ∷ ks) (suc a) v h = set_here ks a v (omega (arith, h))

pub set_there : (ks : List ℕ) (a b v : ℕ) → b ≢ a → get_or (slice_set ks a v) b 0 ≡ get_or ks b 0
set_there [] a b v d = refl
set_there (k ∷ ks) zero zero v d = absurd (d refl)
set_there (k ∷ ks) zero (suc b) v d = refl
set_there (k ∷ ks) (suc a) zero v d = refl
set_there (k ∷ ks) (suc a) (suc b) v d = set_there ks a b v (λ e. d (ap suc e))

pub set_length : (ks : List ℕ) (a v : ℕ) → length (slice_set ks a v) ≡ length ks
set_length [] a v = refl
set_length (k ∷ ks) zero v = refl
set_length (k ∷ ks) (suc a) v = ap suc (set_length ks a v)

module _ (p : StationParts) (ok : IsStation p) (to number acked : ℕ) (was : get_or p.acked.items to 0 ≡ acked) (more : acked < number) (inside : to < length p.acked.items)
    (there : number - acked ≤ length (list_at pair_cmp (p.id, to) p.links.links)) (links' : LinksOf Packet) (is : links' ≡ forgotten p.id to (number - acked) p.links) where
  abbrev after : List (Pair × List Packet)
  after = put_list pair_cmp (p.id, to) (drop (number - acked) (list_at pair_cmp (p.id, to) p.links.links)) p.links.links

  after_sorted : IsTrue (is_sorted pair_cmp after)
  after_sorted = listed_sorted p.links.links (p.id, to) (drop (number - acked) (list_at pair_cmp (p.id, to) p.links.links)) ok.sorted

  pub heard_sorted : IsTrue (is_sorted pair_cmp links'.links)
  heard_sorted = subst (λ (z : LinksOf Packet). IsTrue (is_sorted pair_cmp z.links)) (sym is) after_sorted

  fewer : (k : Pair) → (k ≡ (p.id, to)) ⊎ (k ≢ (p.id, to)) → length (list_at pair_cmp k after) ≤ length (list_at pair_cmp k p.links.links)
  fewer k (inl e) =
      let a : length (list_at pair_cmp (p.id, to) after) ≡ length (drop (number - acked) (list_at pair_cmp (p.id, to) p.links.links)) = ap length (listed_here p.links.links (p.id, to) (drop (number - acked) (list_at pair_cmp (p.id, to) p.links.links))) in
      let b = length-drop (number - acked) (list_at pair_cmp (p.id, to) p.links.links) in
      subst (λ j. length (list_at pair_cmp j after) ≤ length (list_at pair_cmp j p.links.links)) (sym e) (omega (arith, a, b))
  fewer k (inr d) = let a = ap length (listed_there p.links.links k (p.id, to) (drop (number - acked) (list_at pair_cmp (p.id, to) p.links.links)) d) in omega (arith, a)

  pub heard_room : message_count p.node.state.slots + leaving links'.links p.id ≤ p.table.cells
  heard_room = subst (λ (z : LinksOf Packet). message_count p.node.state.slots + leaving z.links p.id ≤ p.table.cells) (sym is)
      (let a = leaving_less p.id after p.links.links after_sorted (λ k e. fewer k (decide_link k (p.id, to))) in let b = ok.room in omega (arith, a, b))

  pub heard_entered : (b : ℕ) → get_or (slice_set p.acked.items to number) b 0 + length (list_at pair_cmp (p.id, b) links'.links) ≤ p.steps
  heard_entered b = subst (λ (z : LinksOf Packet). get_or (slice_set p.acked.items to number) b 0 + length (list_at pair_cmp (p.id, b) z.links) ≤ p.steps) (sym is) (by (decide b to))
    where
      by : (b ≡ to) ⊎ (b ≢ to) → get_or (slice_set p.acked.items to number) b 0 + length (list_at pair_cmp (p.id, b) after) ≤ p.steps
      by (inl e) =
          let a = set_here p.acked.items to number inside in
          let c : length (list_at pair_cmp (p.id, to) after) ≡ length (drop (number - acked) (list_at pair_cmp (p.id, to) p.links.links)) = ap length (listed_here p.links.links (p.id, to) (drop (number - acked) (list_at pair_cmp (p.id, to) p.links.links))) in
          let d = length-drop (number - acked) (list_at pair_cmp (p.id, to) p.links.links) in
          let f = ok.entered to in
          subst (λ j. get_or (slice_set p.acked.items to number) j 0 + length (list_at pair_cmp (p.id, j) after) ≤ p.steps) (sym e) (omega (arith, a, c, d, f, was, more, there))
      by (inr d) =
          let a = set_there p.acked.items to b number d in
          let c = ap length (listed_there p.links.links (p.id, b) (p.id, to) (drop (number - acked) (list_at pair_cmp (p.id, to) p.links.links)) (λ (q : ◌≡◌ {A = Pair} (p.id, b) (p.id, to)). d (ap (λ (k : Pair). k.1) q))) in
          let f = ok.entered b in omega (arith, a, c, f)
