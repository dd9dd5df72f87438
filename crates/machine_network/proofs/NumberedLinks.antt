-- A change of the packets on links is the same change of the numbered packets. Some counts of a node stay the same.
use Rattle.std.proofs.Common.{◌≡◌, ◌≢◌, refl, sym, ap, ap₂, ◌∙◌, ℕ, ◌+◌, ◌≤◌, ◌==◌, List, [], ◌∷◌, ◌++◌, length, map, Option, Some, None, Bool, true, false, not, cond, if◌then◌else◌, arith}
use Rattle.std.specs.Option.{option_map, unwrap_or}
use Rattle.std.specs.Ordering.{nat_cmp, eq_by_cmp, is_eq, ordering_then}
use Rattle.std.specs.List.{list_any}
use Rattle.std.specs.declared.cmp.Ordering.{Ordering}
use Rattle.std.specs.declared.cmp.Ordering.TheVariants.{Less, Equal, Greater}
use Rattle.std.specs.FinMap.{nat_cmp-IsAntisymmetric}
use Rattle.std.specs.FinMap.Entries.{by_order, find, put}
use Rattle.std.proofs.lemmas.List.{map-append, length-map}
use Rattle.std.proofs.lemmas.List.Sums.{sum_by-cons}
use Rattle.run_types.specs.Tables.{Pair, pair_cmp, list_at, put_list, without, has_some, no_entry_empty}
use Rattle.run_types.specs.LinkTables.{push_list, leaving}
use Rattle.run_types.proofs.Laws.{first, second, both, equal}
use Rattle.mesh_semantics.specs.NumberedPackets.{NumberedPacket}
use Rattle.rendezvous_protocol.specs.declared.packet.Packet.{Packet}
use Rattle.rendezvous_protocol.specs.Packets.{numbered}
use Rattle.machine_network.specs.LinkWires.{numbered_link}

abbrev Links : Type 0
Links = List (Pair × List Packet)

abbrev all_numbered : Links → List (Pair × List NumberedPacket)
all_numbered es = map numbered_link es

find_numbered : (k : Pair) (es : Links) → find pair_cmp k (all_numbered es) ≡ option_map (map numbered) (find pair_cmp k es)
find_numbered k [] = refl
find_numbered k (e ∷ es) = by (eq_by_cmp pair_cmp k e.0) (find_numbered k es)
  where
    by : (b : Bool) → find pair_cmp k (all_numbered es) ≡ option_map (map numbered) (find pair_cmp k es)
        → cond b (Some (map numbered e.1)) (find pair_cmp k (all_numbered es)) ≡ option_map (map numbered) (cond b (Some e.1) (find pair_cmp k es))
    by true h = refl
    by false h = h

pub list_numbered : (k : Pair) (es : Links) → list_at pair_cmp k (all_numbered es) ≡ map numbered (list_at pair_cmp k es)
list_numbered k es = ap (λ z. unwrap_or z []) (find_numbered k es) ∙ by (find pair_cmp k es)
  where
    by : (z : Option (List Packet)) → unwrap_or (option_map (map numbered) z) [] ≡ map numbered (unwrap_or z [])
    by None = refl
    by (Some xs) = refl

put_numbered : (k : Pair) (xs : List Packet) (es : Links) → put pair_cmp k (map numbered xs) (all_numbered es) ≡ all_numbered (put pair_cmp k xs es)
put_numbered k xs [] = refl
put_numbered k xs (e ∷ es) = by (pair_cmp k e.0) (put_numbered k xs es)
  where
    by : (r : Ordering) → put pair_cmp k (map numbered xs) (all_numbered es) ≡ all_numbered (put pair_cmp k xs es)
        → by_order r ((k, map numbered xs) ∷ all_numbered (e ∷ es)) ((e.0, map numbered xs) ∷ all_numbered es) (numbered_link e ∷ put pair_cmp k (map numbered xs) (all_numbered es))
        ≡ all_numbered (by_order r ((k, xs) ∷ e ∷ es) ((e.0, xs) ∷ es) (e ∷ put pair_cmp k xs es))
    by Less h = refl
    by Equal h = refl
    by Greater h = ap (λ (z : List (Pair × List NumberedPacket)). numbered_link e ∷ z) h

without_numbered : (k : Pair) (es : Links) → without pair_cmp k (all_numbered es) ≡ all_numbered (without pair_cmp k es)
without_numbered k [] = refl
without_numbered k (e ∷ es) = by (not (eq_by_cmp pair_cmp k e.0)) (without_numbered k es)
  where
    by : (b : Bool) → without pair_cmp k (all_numbered es) ≡ all_numbered (without pair_cmp k es)
        → cond b (numbered_link e ∷ without pair_cmp k (all_numbered es)) (without pair_cmp k (all_numbered es)) ≡ all_numbered (cond b (e ∷ without pair_cmp k es) (without pair_cmp k es))
    by true h = ap (λ (z : List (Pair × List NumberedPacket)). numbered_link e ∷ z) h
    by false h = h

pub push_numbered : (k : Pair) (x : Packet) (es : Links) → push_list pair_cmp k (numbered x) (all_numbered es) ≡ all_numbered (push_list pair_cmp k x es)
push_numbered k x es =
    ap (λ (z : List NumberedPacket). put pair_cmp k (z ++ numbered x ∷ []) (all_numbered es)) (list_numbered k es)
    ∙ ap (λ (z : List NumberedPacket). put pair_cmp k z (all_numbered es)) (sym (map-append numbered (list_at pair_cmp k es) (x ∷ [])))
    ∙ put_numbered k (list_at pair_cmp k es ++ x ∷ []) es

pub listed_numbered : (k : Pair) (xs : List Packet) (es : Links) → put_list pair_cmp k (map numbered xs) (all_numbered es) ≡ all_numbered (put_list pair_cmp k xs es)
listed_numbered k [] es = without_numbered k es
listed_numbered k (x ∷ xs) es = put_numbered k (x ∷ xs) es

-- the packets on the links that leave a node

abbrev counted : {X : Type 0} → ℕ → Pair × List X → ℕ
counted n e = if e.0.0 == n then length e.1 else 0

pub leaving_numbered : (n : ℕ) (es : Links) → leaving (all_numbered es) n ≡ leaving es n
leaving_numbered n [] = refl
leaving_numbered n (e ∷ es) =
    sum_by-cons (λ (z : Pair × List NumberedPacket). counted n z) (numbered_link e) (all_numbered es)
    ∙ ap₂ (λ i j. i + j) (ap (λ i. if e.0.0 == n then i else 0) (length-map e.1 numbered)) (leaving_numbered n es)
    ∙ sym (sum_by-cons (λ (z : Pair × List Packet). counted n z) e es)

same_from : (k j : Pair) → pair_cmp k j ≡ Equal → k.0 ≡ j.0
same_from k j = by (nat_cmp k.0 j.0) refl
  where
    by : (r : Ordering) → nat_cmp k.0 j.0 ≡ r → ordering_then (nat_cmp k.0 j.0) (nat_cmp k.1 j.1) ≡ Equal → k.0 ≡ j.0
    by Equal i h = nat_cmp-IsAntisymmetric k.0 j.0 i
    by Less i h = absurd (let z : Less ≡ Equal = rw i at h in cc)
    by Greater i h = absurd (let z : Greater ≡ Equal = rw i at h in cc)

tied_from : (k j : Pair) → eq_by_cmp pair_cmp k j ≡ true → k.0 ≡ j.0
tied_from k j h = same_from k j (by (pair_cmp k j) h)
  where
    by : (r : Ordering) → is_eq r ≡ true → r ≡ Equal
    by Equal h = refl
    by Less h = absurd (cc)
    by Greater h = absurd (cc)

module _ {X : Type 0} where
  none_counted : (n : ℕ) (k : Pair) (xs : List X) → k.0 ≢ n → counted n (k, xs) ≡ 0
  none_counted n k xs away = by (k.0 == n) refl
    where
      by : (b : Bool) → (k.0 == n) ≡ b → (if b then length xs else 0) ≡ 0
      by true i = absurd (away (equal k.0 n i))
      by false i = refl

  cons_count : (n : ℕ) (e : Pair × List X) (es : List (Pair × List X)) → leaving (e ∷ es) n ≡ counted n e + leaving es n
  cons_count n e es = sum_by-cons (λ (z : Pair × List X). counted n z) e es

  put_elsewhere : (n : ℕ) (k : Pair) (xs : List X) (es : List (Pair × List X)) → k.0 ≢ n → leaving (put pair_cmp k xs es) n ≡ leaving es n
  put_elsewhere n k xs [] away = cons_count n (k, xs) [] ∙ ap (λ i. i + 0) (none_counted n k xs away)
  put_elsewhere n k xs (e ∷ es) away = by (pair_cmp k e.0) refl (put_elsewhere n k xs es away)
    where
      by : (r : Ordering) → pair_cmp k e.0 ≡ r → leaving (put pair_cmp k xs es) n ≡ leaving es n
          → leaving (by_order r ((k, xs) ∷ e ∷ es) ((e.0, xs) ∷ es) (e ∷ put pair_cmp k xs es)) n ≡ leaving (e ∷ es) n
      by Less i h = let a = cons_count n (k, xs) (e ∷ es) in let b = none_counted n k xs away in omega (arith, a, b)
      by Equal i h =
          let other : e.0.0 ≢ n = λ z. away (same_from k e.0 i ∙ z) in
          let a = cons_count n (e.0, xs) es in let b = none_counted n e.0 xs other in
          let c = cons_count n e es in let d = none_counted n e.0 e.1 other in omega (arith, a, b, c, d)
      by Greater i h = let a = cons_count n e (put pair_cmp k xs es) in let b = cons_count n e es in omega (arith, a, b, h)

  without_elsewhere : (n : ℕ) (k : Pair) (es : List (Pair × List X)) → k.0 ≢ n → leaving (without pair_cmp k es) n ≡ leaving es n
  without_elsewhere n k [] away = refl
  without_elsewhere n k (e ∷ es) away = by (eq_by_cmp pair_cmp k e.0) refl (without_elsewhere n k es away)
    where
      by : (b : Bool) → eq_by_cmp pair_cmp k e.0 ≡ b → leaving (without pair_cmp k es) n ≡ leaving es n
          → leaving (cond (not b) (e ∷ without pair_cmp k es) (without pair_cmp k es)) n ≡ leaving (e ∷ es) n
      by true i h =
          let other : e.0.0 ≢ n = λ z. away (tied_from k e.0 i ∙ z) in
          let c = cons_count n e es in let d = none_counted n e.0 e.1 other in omega (arith, c, d, h)
      by false i h = let a = cons_count n e (without pair_cmp k es) in let b = cons_count n e es in omega (arith, a, b, h)

  -- a list on a link that leaves another node
  pub listed_elsewhere : (n : ℕ) (k : Pair) (xs : List X) (es : List (Pair × List X)) → k.0 ≢ n → leaving (put_list pair_cmp k xs es) n ≡ leaving es n
  listed_elsewhere n k [] es away = without_elsewhere n k es away
  listed_elsewhere n k (x ∷ xs) es away = put_elsewhere n k (x ∷ xs) es away

  -- a link has no more packets than leave its node
  pub list_within : (k : Pair) (es : List (Pair × List X)) → length (list_at pair_cmp k es) ≤ leaving es k.0
  list_within k [] = omega arith
  list_within k (e ∷ es) = by (eq_by_cmp pair_cmp k e.0) refl (list_within k es)
    where
      by : (b : Bool) → eq_by_cmp pair_cmp k e.0 ≡ b → length (list_at pair_cmp k es) ≤ leaving es k.0
          → length (unwrap_or (cond b (Some e.1) (find pair_cmp k es)) []) ≤ leaving (e ∷ es) k.0
      by true i h =
          let a = cons_count k.0 e es in
          let b : counted k.0 e ≡ length e.1 = rw (sym (tied_from k e.0 i), itself k.0) refl in omega (arith, a, b)
        where
          itself : (n : ℕ) → (n == n) ≡ true
          itself n = grind arith
      by false i h = let a = cons_count k.0 e es in omega (arith, a, h)

  -- no entry is empty

  put_filled : (k : Pair) (xs : List X) (es : List (Pair × List X)) → has_some xs ≡ true → no_entry_empty es ≡ true → no_entry_empty (put pair_cmp k xs es) ≡ true
  put_filled k xs [] some h = both (has_some xs) true some refl
  put_filled k xs (e ∷ es) some h = by (pair_cmp k e.0) (put_filled k xs es some (second (has_some e.1) (no_entry_empty es) h))
    where
      by : (r : Ordering) → no_entry_empty (put pair_cmp k xs es) ≡ true → no_entry_empty (by_order r ((k, xs) ∷ e ∷ es) ((e.0, xs) ∷ es) (e ∷ put pair_cmp k xs es)) ≡ true
      by Less z = both (has_some xs) (no_entry_empty (e ∷ es)) some h
      by Equal z = both (has_some xs) (no_entry_empty es) some (second (has_some e.1) (no_entry_empty es) h)
      by Greater z = both (has_some e.1) (no_entry_empty (put pair_cmp k xs es)) (first (has_some e.1) (no_entry_empty es) h) z

  without_filled : (k : Pair) (es : List (Pair × List X)) → no_entry_empty es ≡ true → no_entry_empty (without pair_cmp k es) ≡ true
  without_filled k [] h = refl
  without_filled k (e ∷ es) h = by (not (eq_by_cmp pair_cmp k e.0)) (without_filled k es (second (has_some e.1) (no_entry_empty es) h))
    where
      by : (b : Bool) → no_entry_empty (without pair_cmp k es) ≡ true → no_entry_empty (cond b (e ∷ without pair_cmp k es) (without pair_cmp k es)) ≡ true
      by true z = both (has_some e.1) (no_entry_empty (without pair_cmp k es)) (first (has_some e.1) (no_entry_empty es) h) z
      by false z = z

  pub listed_filled : (k : Pair) (xs : List X) (es : List (Pair × List X)) → no_entry_empty es ≡ true → no_entry_empty (put_list pair_cmp k xs es) ≡ true
  listed_filled k [] es h = without_filled k es h
  listed_filled k (x ∷ xs) es h = put_filled k (x ∷ xs) es refl h

  pub pushed_filled : (k : Pair) (x : X) (es : List (Pair × List X)) → no_entry_empty es ≡ true → no_entry_empty (push_list pair_cmp k x es) ≡ true
  pushed_filled k x es h = put_filled k (list_at pair_cmp k es ++ x ∷ []) es (more (list_at pair_cmp k es)) h
    where
      more : (ys : List X) → has_some (ys ++ x ∷ []) ≡ true
      more [] = refl
      more (y ∷ ys) = refl

-- a packet is on a link exactly where there is an entry
pub any_filled : (es : Links) → no_entry_empty es ≡ true → list_any (λ (e : Pair × List NumberedPacket). has_some e.1) (all_numbered es) ≡ has_some es
any_filled [] h = refl
any_filled (e ∷ es) h = by e.1 (first (has_some e.1) (no_entry_empty es) h)
  where
    by : (xs : List Packet) → has_some xs ≡ true → list_any (λ (e : Pair × List NumberedPacket). has_some e.1) ((e.0, map numbered xs) ∷ all_numbered es) ≡ true
    by [] i = absurd (cc)
    by (x ∷ xs) i = refl
