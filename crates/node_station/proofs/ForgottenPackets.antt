-- The packets that an acknowledgement removes, and those that are sent again.
use Rattle.std.proofs.Common.{◌≡◌, refl, ap, ap₂, subst, ◌∙◌, ℕ, zero, suc, ◌+◌, ◌-◌, ◌≤◌, ◌<◌, List, [], ◌∷◌, length, get_or, map, drop, Option, Some, None, Bool, true, false, ◌&&◌, nat_lt, if◌then◌else◌, arith}
use Rattle.std.specs.Prelude.{nat_le, slice_get, slice_set}
use Rattle.std.specs.Option.{option_map}
use Rattle.std.specs.Cmp.{tied_itself}
use Rattle.std.specs.declared.cmp.Ordering.{Ordering}
use Rattle.std.specs.declared.cmp.Ordering.TheVariants.{Less, Equal, Greater}
use Rattle.std.specs.FinMap.{put}
use Rattle.std.proofs.lemmas.List.{drop-map}
use Rattle.std.proofs.lemmas.Option.{slice_get-map}
use Rattle.std.proofs.lemmas.List.{length-map}
use Rattle.run_types.specs.Tables.{Pair, pair_cmp, list_at, put_list, without}
use Rattle.run_types.proofs.Laws.{listed_here, pair_total}
use Rattle.mesh_of_code.specs.Coded.{Placed}
use Rattle.mesh_routing.specs.Links.{LinksOf, with_links}
use Rattle.node_semantics.specs.Node.{NodeState}
use Rattle.rendezvous_protocol.specs.declared.packet.Packet.{Packet}
use Rattle.rendezvous_protocol.specs.Packets.{numbered}
use Rattle.machine_network.specs.LinkWires.{numbered_link}
use Rattle.machine_network.proofs.Laws.{list_numbered, listed_numbered}
use Rattle.station_semantics.specs.Station.{Counts, Station, count_at, frame_to, heard, put_count, sent_again}
use Rattle.node_station.specs.StationOf.{counts_from}
use Rattle.node_station.specs.Outcomes.{frame_with}
use Rattle.node_station.proofs.Counts.{count_is, put_is}

itself : (k : Pair) → pair_cmp k k ≡ Equal
itself k = tied_itself pair_total k

module _ {X : Type 0} where
  put_put : (k : Pair) (v w : List X) (es : List (Pair × List X)) → put pair_cmp k w (put pair_cmp k v es) ≡ put pair_cmp k w es
  put_put k v w [] = let e = itself k in rw e refl
  put_put k v w (e ∷ es) = by (pair_cmp k e.0) refl (put_put k v w es)
    where
      by : (r : Ordering) → pair_cmp k e.0 ≡ r → put pair_cmp k w (put pair_cmp k v es) ≡ put pair_cmp k w es → put pair_cmp k w (put pair_cmp k v (e ∷ es)) ≡ put pair_cmp k w (e ∷ es)
      by Less i h = let j = itself k in rw (i, j) refl
      by Equal i h = rw (i, i) refl
      by Greater i h = rw (i, i) (ap (λ z. e ∷ z) h)

  put_without : (k : Pair) (v : List X) (es : List (Pair × List X)) → without pair_cmp k (put pair_cmp k v es) ≡ without pair_cmp k es
  put_without k v [] = let e = itself k in rw e refl
  put_without k v (e ∷ es) = by (pair_cmp k e.0) refl (put_without k v es)
    where
      by : (r : Ordering) → pair_cmp k e.0 ≡ r → without pair_cmp k (put pair_cmp k v es) ≡ without pair_cmp k es → without pair_cmp k (put pair_cmp k v (e ∷ es)) ≡ without pair_cmp k (e ∷ es)
      by Less i h = let j = itself k in rw (i, j, i) refl
      by Equal i h = rw (i, i) refl
      by Greater i h = rw (i, i) (ap (λ z. e ∷ z) h)

  -- of two lists under one key the second counts, if the first is not empty
  put_twice : (k : Pair) (x : X) (xs ys : List X) (es : List (Pair × List X)) → put_list pair_cmp k ys (put_list pair_cmp k (x ∷ xs) es) ≡ put_list pair_cmp k ys es
  put_twice k x xs [] es = put_without k (x ∷ xs) es
  put_twice k x xs (y ∷ ys) es = put_put k (x ∷ xs) (y ∷ ys) es

  drop_one : (i : ℕ) (xs : List X) → drop 1 (drop i xs) ≡ drop (i + 1) xs
  drop_one zero xs = refl
  drop_one (suc i) [] = let e : suc i + 1 ≡ suc (i + 1) = omega arith in rw e refl
  drop_one (suc i) (x ∷ xs) = let e : suc i + 1 ≡ suc (i + 1) = omega arith in rw e (drop_one i xs)

  one_there : (i : ℕ) (xs : List X) → i < length xs → (x : X) × (rest : List X) × (drop i xs ≡ x ∷ rest)
  one_there i [] h = absurd (omega arith)
  one_there zero (x ∷ xs) h = (x, xs, refl)
  one_there (suc i) (x ∷ xs) h = one_there i xs (omega (arith, h))

-- the links without the first i packets of a link
abbrev pub forgotten : ℕ → ℕ → ℕ → LinksOf Packet → LinksOf Packet
forgotten from to i k = with_links k (put_list pair_cmp (from, to) (drop i (list_at pair_cmp (from, to) k.links)) k.links)

-- one packet more is removed
pub forgets_one : (from to i : ℕ) (first old new : LinksOf Packet) → i < length (list_at pair_cmp (from, to) first.links) → old ≡ forgotten from to i first
    → new ≡ with_links old (put_list pair_cmp (from, to) (drop 1 (list_at pair_cmp (from, to) old.links)) old.links) → new ≡ forgotten from to (i + 1) first
forgets_one from to i first old new small was is = subst (λ (o : LinksOf Packet). new ≡ with_links o (put_list pair_cmp (from, to) (drop 1 (list_at pair_cmp (from, to) o.links)) o.links)) was is ∙ ap (with_links first) same
  where
    xs : List Packet
    xs = list_at pair_cmp (from, to) first.links

    there : (x : Packet) × (rest : List Packet) × (drop i xs ≡ x ∷ rest)
    there = one_there i xs small

    same : put_list pair_cmp (from, to) (drop 1 (list_at pair_cmp (from, to) (put_list pair_cmp (from, to) (drop i xs) first.links))) (put_list pair_cmp (from, to) (drop i xs) first.links)
        ≡ put_list pair_cmp (from, to) (drop (i + 1) xs) first.links
    same =
        ap (λ zs. put_list pair_cmp (from, to) (drop 1 zs) (put_list pair_cmp (from, to) (drop i xs) first.links)) (listed_here first.links (from, to) (drop i xs))
        ∙ ap (λ zs. put_list pair_cmp (from, to) zs (put_list pair_cmp (from, to) (drop i xs) first.links)) (drop_one i xs)
        ∙ ap (λ zs. put_list pair_cmp (from, to) (drop (i + 1) xs) (put_list pair_cmp (from, to) zs first.links)) there.2
        ∙ put_twice (from, to) there.0 there.1 (drop (i + 1) xs) first.links

-- the station by its parts
abbrev seen : NodeState Placed → List (Pair × List Packet) → List ℕ → Counts → Station Placed
seen x es ks hs = record { node = x; links = map numbered_link es; acked = counts_from 0 ks; handed = hs }

module _ (n b k : ℕ) (x : NodeState Placed) (es : List (Pair × List Packet)) (ks : List ℕ) (hs : Counts) where
  acked_is : count_at b (counts_from 0 ks) ≡ get_or ks b 0
  acked_is = count_is 0 b b ks (omega arith)

  waits_is : length (list_at pair_cmp (n, b) (map numbered_link es)) ≡ length (list_at pair_cmp (n, b) es)
  waits_is = ap length (list_numbered (n, b) es) ∙ length-map (list_at pair_cmp (n, b) es) numbered

  abbrev is_heard : Bool
  is_heard = nat_lt (count_at b (counts_from 0 ks)) k && nat_le k (count_at b (counts_from 0 ks) + length (list_at pair_cmp (n, b) (map numbered_link es)))

  abbrev after_ack : Station Placed
  after_ack = record (seen x es ks hs) {
    acked = put_count b k (counts_from 0 ks);
    links = put_list pair_cmp (n, b) (drop (k - count_at b (counts_from 0 ks)) (list_at pair_cmp (n, b) (map numbered_link es))) (map numbered_link es);
  }

  by_test : (t : Bool) → is_heard ≡ t → heard n b k (seen x es ks hs) ≡ (if t then after_ack else seen x es ks hs)
  by_test t e = ap (λ z. if z then after_ack else seen x es ks hs) e

  pub heard_low : k ≤ get_or ks b 0 → heard n b k (seen x es ks hs) ≡ seen x es ks hs
  heard_low h = by_test false (let a = acked_is in let t : nat_lt (count_at b (counts_from 0 ks)) k ≡ false = grind (arith, a, h) in rw t refl)

  pub heard_high : length (list_at pair_cmp (n, b) es) < k - get_or ks b 0 → heard n b k (seen x es ks hs) ≡ seen x es ks hs
  heard_high h = by_test false (both (nat_lt (count_at b (counts_from 0 ks)) k))
    where
      both : (t : Bool) → (t && nat_le k (count_at b (counts_from 0 ks) + length (list_at pair_cmp (n, b) (map numbered_link es)))) ≡ false
      both false = refl
      both true = let a = acked_is in let c = waits_is in grind (arith, a, c, h)

  pub heard_next : get_or ks b 0 < k → k - get_or ks b 0 ≤ length (list_at pair_cmp (n, b) es) → b < length ks
      → heard n b k (seen x es ks hs) ≡ seen x (put_list pair_cmp (n, b) (drop (k - get_or ks b 0) (list_at pair_cmp (n, b) es)) es) (slice_set ks b k) hs
  heard_next h few small =
      let a = acked_is in
      let c = waits_is in
      let s : nat_lt (count_at b (counts_from 0 ks)) k ≡ true = grind (arith, a, h) in
      let t : nat_le k (count_at b (counts_from 0 ks) + length (list_at pair_cmp (n, b) (map numbered_link es))) ≡ true = grind (arith, a, c, h, few) in
      by_test true (rw (s, t) refl) ∙ λ i. record { node = x; links = moved i; acked = put_is 0 b b k ks (omega arith) small (omega (arith, h)) i; handed = hs }
    where
      moved : put_list pair_cmp (n, b) (drop (k - count_at b (counts_from 0 ks)) (list_at pair_cmp (n, b) (map numbered_link es))) (map numbered_link es)
          ≡ map numbered_link (put_list pair_cmp (n, b) (drop (k - get_or ks b 0) (list_at pair_cmp (n, b) es)) es)
      moved =
          ap₂ (λ c zs. put_list pair_cmp (n, b) (drop (k - c) zs) (map numbered_link es)) acked_is (list_numbered (n, b) es)
          ∙ ap (λ zs. put_list pair_cmp (n, b) zs (map numbered_link es)) (drop-map numbered (k - get_or ks b 0) (list_at pair_cmp (n, b) es))
          ∙ listed_numbered (n, b) (drop (k - get_or ks b 0) (list_at pair_cmp (n, b) es)) es

  frame_is : (o : Option Packet) → frame_to b k (option_map numbered o) ≡ frame_with b k o
  frame_is None = refl
  frame_is (Some p) = refl

  pub again_low : k < get_or ks b 0 → sent_again n (seen x es ks hs) (b, k) ≡ []
  again_low h = let a = acked_is in let t : nat_lt k (count_at b (counts_from 0 ks)) ≡ true = grind (arith, a, h) in rw t refl

  pub again_there : get_or ks b 0 ≤ k → sent_again n (seen x es ks hs) (b, k) ≡ frame_with b k (slice_get (list_at pair_cmp (n, b) es) (k - get_or ks b 0))
  again_there h =
      let a = acked_is in
      let t : nat_lt k (count_at b (counts_from 0 ks)) ≡ false = grind (arith, a, h) in
      rw t
      (ap₂ (λ c zs. frame_to b k (slice_get zs (k - c))) acked_is (list_numbered (n, b) es)
      ∙ ap (frame_to b k) (slice_get-map numbered (list_at pair_cmp (n, b) es) (k - get_or ks b 0)) ∙ frame_is (slice_get (list_at pair_cmp (n, b) es) (k - get_or ks b 0)))
