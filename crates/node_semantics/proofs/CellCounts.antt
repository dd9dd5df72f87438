-- The messages in mailboxes and the packets on links, counted by slots and links and by the delay.
use Rattle.std.proofs.Common.{◌≡◌, ◌≢◌, ◌⊎◌, inl, inr, refl, sym, ap, ap₂, subst, ◌∙◌, IsTrue, ℕ, zero, suc, ◌+◌, ◌<◌, ◌≤◌, ◌==◌, List, [], ◌∷◌, length, Some, None, Bool, true, false, cond, if◌then◌else◌, arith}
use Rattle.std.specs.Prelude.{slice_get}
use Rattle.std.specs.Option.{unwrap_or}
use Rattle.std.specs.Ordering.{is_lt, is_eq, nat_cmp}
use Rattle.std.specs.declared.cmp.Ordering.{Ordering}
use Rattle.std.specs.declared.cmp.Ordering.TheVariants.{Less, Equal, Greater}
use Rattle.std.specs.FinMap.{nat_cmp-IsAntisymmetric, find}
use Rattle.std.specs.FinMap.Entries.{is_sorted, below_all}
use Rattle.std.proofs.lemmas.List.Sums.{sum_by-cons}
use Rattle.run_types.specs.Tables.{Pair, pair_cmp, list_at}
use Rattle.run_types.specs.LinkTables.{leaving}
use Rattle.run_types.proofs.Laws.{decide, equal, equals, differ, first, second, both}
use Rattle.run_types.specs.Paths.{total, under, is_link, on_link}
use Rattle.mesh_semantics.specs.Delay.{Arrival, Packet}
use Rattle.mesh_semantics.specs.NumberedPackets.{NumberedPacket}
use Rattle.run_types.specs.ObjectNames.{node_of, slot_of}
use Rattle.node_semantics.specs.Node.{name_at, Slot, NumberedArrival, arrivals, message_count}
use Rattle.node_semantics.specs.StandsFor.{packets}
use Rattle.node_semantics.proofs.PostedLinks.{decide_link}
use Rattle.node_semantics.proofs.NamesAndSlots.{whole_name, name_node}

apart : (n a b : ℕ) → a ≢ b → name_at n a ≢ name_at n b
apart n a b h e = h (omega (arith, e))

-- what is under the names of a node from i on, j of them
module _ {X : Type 0} (n : ℕ) where
  abbrev pub counted : ℕ → ℕ → List (ℕ × X) → ℕ
  counted i zero es = 0
  counted i (suc j) es = length (under (λ r. r == name_at n i) es) + counted (i + 1) j es

  none : (i j : ℕ) (es : List (ℕ × X)) → es ≡ [] → counted i j es ≡ 0
  none i zero es e = refl
  none i (suc j) es e = let k = none (i + 1) j es e in rw (e) (let z : counted (i + 1) j [] ≡ 0 = ap (counted (i + 1) j) (sym e) ∙ k in omega (arith, z))

  -- an entry of one of these names counts once
  one_out : (e : ℕ × X) (es : List (ℕ × X)) (i j : ℕ) → ((k : ℕ) → i ≤ k → k < i + j → e.0 ≢ name_at n k) → counted i j (e ∷ es) ≡ counted i j es
  one_out e es i zero h = refl
  one_out e es i (suc j) h =
      let z : (e.0 == name_at n i) ≡ false = differ e.0 (name_at n i) (h i (omega arith) (omega arith)) in
      rw z (ap (λ k. length (under (λ r. r == name_at n i) es) + k) (one_out e es (i + 1) j (λ k a b. h k (omega (arith, a)) (omega (arith, b)))))

  one_in : (e : ℕ × X) (es : List (ℕ × X)) (i j p : ℕ) → e.0 ≡ name_at n p → i ≤ p → p < i + j → counted i j (e ∷ es) ≡ 1 + counted i j es
  one_in e es i zero p h a b = absurd (omega (arith, a, b))
  one_in e es i (suc j) p h a b = by (decide p i) (one_in e es (i + 1) j p h)
    where
      by : (p ≡ i) ⊎ (p ≢ i) → (i + 1 ≤ p → p < i + 1 + j → counted (i + 1) j (e ∷ es) ≡ 1 + counted (i + 1) j es) → counted i (suc j) (e ∷ es) ≡ 1 + counted i (suc j) es
      by (inl q) rest =
          let z : (e.0 == name_at n i) ≡ true = rw (h ∙ ap (name_at n) q) (equals (name_at n i)) in
          let y = one_out e es (i + 1) j (λ k c f w. apart n p k (λ v. absurd (omega (arith, c, v, q))) (sym h ∙ w)) in
          rw (z, y) (omega arith)
      by (inr q) rest =
          let z : (e.0 == name_at n i) ≡ false = differ e.0 (name_at n i) (λ w. apart n p i q (sym h ∙ w)) in
          let y = rest (omega (arith, a, q)) (omega (arith, b)) in
          rw (z, y) (omega arith)

  pub counted_is : (es : List (ℕ × X)) (j : ℕ) → j ≤ 65536 → ((q : ℕ) → node_of q ≡ n → j ≤ slot_of q → under (λ r. r == q) es ≡ [])
      → total (λ e. if node_of e.0 == n then 1 else 0) es ≡ counted 0 j es
  counted_is [] j f out = sym (none 0 j [] refl)
  counted_is (e ∷ es) j f out = by (node_of e.0 == n) refl (counted_is es j f rest)
    where
      drop : (b : Bool) (q : ℕ) → (e.0 == q) ≡ b → under (λ r. r == q) (e ∷ es) ≡ [] → under (λ r. r == q) es ≡ []
      drop true q i k = absurd (let z : e.1 ∷ under (λ r. r == q) es ≡ [] = rw i at k in cc)
      drop false q i k = rw i at k

      rest : (q : ℕ) → node_of q ≡ n → j ≤ slot_of q → under (λ r. r == q) es ≡ []
      rest q a b = drop (e.0 == q) q refl (out q a b)

      inside : node_of e.0 ≡ n → slot_of e.0 < j
      inside a = by_order (nat_order (slot_of e.0) j)
        where
          nat_order : (a b : ℕ) → (a < b) ⊎ (b ≤ a)
          nat_order a b = grind arith

          by_order : (slot_of e.0 < j) ⊎ (j ≤ slot_of e.0) → slot_of e.0 < j
          by_order (inl z) = z
          by_order (inr z) = absurd (let k = out e.0 a z in let w : (e.0 == e.0) ≡ true = equals e.0 in let y : e.1 ∷ under (λ r. r == e.0) es ≡ [] = rw w at k in cc)

      by : (b : Bool) → (node_of e.0 == n) ≡ b → total (λ e. if node_of e.0 == n then 1 else 0) es ≡ counted 0 j es
          → total (λ e. if node_of e.0 == n then 1 else 0) (e ∷ es) ≡ counted 0 j (e ∷ es)
      by true i k =
          let a : node_of e.0 ≡ n = equal (node_of e.0) n i in
          let b = inside a in
          let y = one_in e es 0 j (slot_of e.0) (sym (whole_name e.0) ∙ ap (λ z. name_at z (slot_of e.0)) a) (omega arith) (omega (arith, b)) in
          rw (i, k, y) refl
      by false i k =
          let y = one_out e es 0 j (λ z a b w. absurd (let c : (node_of e.0 == n) ≡ true = rw (ap node_of w ∙ name_node n z (omega (arith, b, f))) (equals n) in cc)) in
          rw (i, k, y) (omega arith)

length_messages : (ls : List NumberedArrival) → length (arrivals ls) ≡ length ls
length_messages [] = refl
length_messages (a ∷ ls) = ap suc (length_messages ls)

counted_mailboxes : {S : Type 0} (n : ℕ) (es : List (ℕ × Arrival)) (i : ℕ) (ss : List (Slot S))
    → ((j : ℕ) (s : Slot S) → slice_get ss j ≡ Some s → arrivals s.mailbox ≡ under (λ r. r == name_at n (i + j)) es) → counted n i (length ss) es ≡ message_count ss
counted_mailboxes n es i [] f = refl
counted_mailboxes {S} n es i (s ∷ ss) f =
    let a : length (under (λ r. r == name_at n i) es) ≡ length s.mailbox = subst (λ k. length (under (λ r. r == name_at n k) es) ≡ length s.mailbox) (omega arith) (sym (ap length (f 0 s refl)) ∙ length_messages s.mailbox) in
    let b : counted n (i + 1) (length ss) es ≡ message_count ss =
    counted_mailboxes n es (i + 1) ss (λ j z e. let k : i + (j + 1) ≡ i + 1 + j = omega arith in subst (λ w. arrivals z.mailbox ≡ under (λ r. r == name_at n w) es) k (f (j + 1) z (subst (λ w. slice_get (s ∷ ss) w ≡ Some z) (suc_is j) e))) in
    let c = sum_by-cons (λ (y : Slot S). length y.mailbox) s ss in
    ap₂ (λ x y. x + y) a b ∙ sym c
  where
    suc_is : (j : ℕ) → suc j ≡ j + 1
    suc_is j = omega arith

-- the mailboxes of a node have what has arrived at its objects
pub mailboxes_count : {S : Type 0} (n : ℕ) (es : List (ℕ × Arrival)) (ss : List (Slot S)) → length ss ≤ 65536
    → ((j : ℕ) (s : Slot S) → slice_get ss j ≡ Some s → arrivals s.mailbox ≡ under (λ r. r == name_at n j) es)
    → ((q : ℕ) → node_of q ≡ n → length ss ≤ slot_of q → under (λ r. r == q) es ≡ [])
    → message_count ss ≡ total (λ e. if node_of e.0 == n then 1 else 0) es
mailboxes_count {S} n es ss f g out =
    sym (counted_is n es (length ss) f out ∙ counted_mailboxes n es 0 ss (λ j s e. let k : 0 + j ≡ j = omega arith in subst (λ w. arrivals s.mailbox ≡ under (λ r. r == name_at n w) es) (sym k) (g j s e)))

-- the packets on links that leave a node, by links and in one list

length_packets : (es : List NumberedPacket) → length (packets es) ≡ length es
length_packets [] = refl
length_packets (e ∷ es) = ap suc (length_packets es)

abbrev not_on : Pair → List (Pair × Packet) → List (Pair × Packet)
not_on k [] = []
not_on k (e ∷ es) = if is_link k.0 k.1 e.0 then not_on k es else e ∷ not_on k es

link_is : (k j : Pair) → is_link k.0 k.1 j ≡ true → j ≡ k
link_is k j e = let a = equal j.0 k.0 (first (j.0 == k.0) (j.1 == k.1) e) in let b = equal j.1 k.1 (second (j.0 == k.0) (j.1 == k.1) e) in λ i. (a i, b i)

link_itself : (k : Pair) → is_link k.0 k.1 k ≡ true
link_itself k = both (k.0 == k.0) (k.1 == k.1) (equals k.0) (equals k.1)

link_not : (k j : Pair) → j ≢ k → is_link k.0 k.1 j ≡ false
link_not k j n = by (is_link k.0 k.1 j) refl
  where
    by : (b : Bool) → is_link k.0 k.1 j ≡ b → is_link k.0 k.1 j ≡ false
    by true e = absurd (n (link_is k j e))
    by false e = e

not_on_same : (k : Pair) (es : List (Pair × Packet)) → on_link (not_on k es) k ≡ []
not_on_same k [] = refl
not_on_same k (e ∷ es) = by (is_link k.0 k.1 e.0) refl (not_on_same k es)
  where
    by : (b : Bool) → is_link k.0 k.1 e.0 ≡ b → on_link (not_on k es) k ≡ [] → on_link (not_on k (e ∷ es)) k ≡ []
    by true i r = rw i r
    by false i r = rw (i, i) r

not_on_other : (j k : Pair) (es : List (Pair × Packet)) → j ≢ k → on_link (not_on k es) j ≡ on_link es j
not_on_other j k [] n = refl
not_on_other j k (e ∷ es) n = by (is_link k.0 k.1 e.0) refl (not_on_other j k es n)
  where
    keep : (b : Bool) → is_link j.0 j.1 e.0 ≡ b → on_link (not_on k es) j ≡ on_link es j → on_link (e ∷ not_on k es) j ≡ on_link (e ∷ es) j
    keep true i r = rw i (ap (λ (ps : List Packet). e.1 ∷ ps) r)
    keep false i r = rw i r

    by : (b : Bool) → is_link k.0 k.1 e.0 ≡ b → on_link (not_on k es) j ≡ on_link es j → on_link (not_on k (e ∷ es)) j ≡ on_link (e ∷ es) j
    by true i r = let z : is_link j.0 j.1 e.0 ≡ false = link_not j e.0 (λ w. n (sym w ∙ link_is k e.0 i)) in rw (i, z) r
    by false i r = rw i (keep (is_link j.0 j.1 e.0) refl r)

-- those of one link, and the others
parts : (n : ℕ) (k : Pair) (es : List (Pair × Packet))
    → total (λ e. if e.0.0 == n then 1 else 0) es ≡ (if k.0 == n then length (on_link es k) else 0) + total (λ e. if e.0.0 == n then 1 else 0) (not_on k es)
parts n k [] = by (k.0 == n)
  where
    by : (b : Bool) → 0 ≡ (if b then 0 else 0) + 0
    by true = omega arith
    by false = omega arith
parts n k (e ∷ es) = by (is_link k.0 k.1 e.0) (k.0 == n) refl refl (parts n k es)
  where
    Rest : Type 0
    Rest = total (λ e. if e.0.0 == n then 1 else 0) es ≡ (if k.0 == n then length (on_link es k) else 0) + total (λ e. if e.0.0 == n then 1 else 0) (not_on k es)

    by : (b t : Bool) → is_link k.0 k.1 e.0 ≡ b → (k.0 == n) ≡ t → Rest
        → total (λ e. if e.0.0 == n then 1 else 0) (e ∷ es) ≡ (if k.0 == n then length (on_link (e ∷ es) k) else 0) + total (λ e. if e.0.0 == n then 1 else 0) (not_on k (e ∷ es))
    by true true i j r =
        let z : (e.0.0 == n) ≡ true = rw (ap (λ (p : Pair). p.0) (link_is k e.0 i)) j in
        let y : total (λ e. if e.0.0 == n then 1 else 0) es ≡ length (on_link es k) + total (λ e. if e.0.0 == n then 1 else 0) (not_on k es) = rw j at r in
        rw (i, j, z) (omega (arith, y))
    by true false i j r =
        let z : (e.0.0 == n) ≡ false = rw (ap (λ (p : Pair). p.0) (link_is k e.0 i)) j in
        let y : total (λ e. if e.0.0 == n then 1 else 0) es ≡ 0 + total (λ e. if e.0.0 == n then 1 else 0) (not_on k es) = rw j at r in
        rw (i, j, z) (omega (arith, y))
    by false true i j r =
        let y : total (λ e. if e.0.0 == n then 1 else 0) es ≡ length (on_link es k) + total (λ e. if e.0.0 == n then 1 else 0) (not_on k es) = rw j at r in
        rw (i, j) (omega (arith, y))
    by false false i j r =
        let y : total (λ e. if e.0.0 == n then 1 else 0) es ≡ 0 + total (λ e. if e.0.0 == n then 1 else 0) (not_on k es) = rw j at r in
        rw (i, j) (omega (arith, y))

pub find_first : {Y : Type 0} (k : Pair) (y : Y) (es : List (Pair × Y)) → find pair_cmp k ((k, y) ∷ es) ≡ Some y
find_first k y es = let z : nat_cmp k.0 k.0 ≡ Equal = grind arith in let w : nat_cmp k.1 k.1 ≡ Equal = grind arith in rw (z, w) refl

pub find_next : {Y : Type 0} (j k : Pair) (y : Y) (es : List (Pair × Y)) → j ≢ k → find pair_cmp j ((k, y) ∷ es) ≡ find pair_cmp j es
find_next j k y es n = by (nat_cmp j.0 k.0) (nat_cmp j.1 k.1) refl refl
  where
    by : (a b : Ordering) → nat_cmp j.0 k.0 ≡ a → nat_cmp j.1 k.1 ≡ b → find pair_cmp j ((k, y) ∷ es) ≡ find pair_cmp j es
    by Less b i r = rw i refl
    by Greater b i r = rw i refl
    by Equal Less i r = rw (i, r) refl
    by Equal Greater i r = rw (i, r) refl
    by Equal Equal i r = absurd (let a = nat_cmp-IsAntisymmetric j.0 k.0 i in let b = nat_cmp-IsAntisymmetric j.1 k.1 r in n (λ t. (a t, b t)))

pub find_none : {Y : Type 0} (k : Pair) (es : List (Pair × Y)) → IsTrue (below_all pair_cmp k es) → find pair_cmp k es ≡ None
find_none k [] h = refl
find_none {Y} k (e ∷ es) h = by (pair_cmp k e.0) refl (find_none k es (second (is_lt (pair_cmp k e.0)) (below_all pair_cmp k es) h))
  where
    lt : is_lt (pair_cmp k e.0) ≡ true
    lt = first (is_lt (pair_cmp k e.0)) (below_all pair_cmp k es) h

    by : (r : Ordering) → pair_cmp k e.0 ≡ r → find pair_cmp k es ≡ None → find pair_cmp k (e ∷ es) ≡ None
    by Less i r = ap (λ (z : Ordering). cond (is_eq z) (Some e.1) (find pair_cmp k es)) i ∙ r
    by Equal i r = absurd (let z : is_lt Equal ≡ true = subst (λ w. is_lt w ≡ true) i lt in cc)
    by Greater i r = absurd (let z : is_lt Greater ≡ true = subst (λ w. is_lt w ≡ true) i lt in cc)

pub nothing_on : (es : List (Pair × Packet)) → ((k : Pair) → on_link es k ≡ []) → es ≡ []
nothing_on [] h = refl
nothing_on (e ∷ es) h = absurd (let y : on_link (e ∷ es) e.0 ≡ [] = h e.0 in let z : e.1 ∷ on_link es e.0 ≡ [] = rw (link_itself e.0) at y in cc)

pub leaving_count : (n : ℕ) (links : List (Pair × List NumberedPacket)) (es : List (Pair × Packet)) → IsTrue (is_sorted pair_cmp links)
    → ((k : Pair) → packets (list_at pair_cmp k links) ≡ on_link es k) → leaving links n ≡ total (λ e. if e.0.0 == n then 1 else 0) es
leaving_count n [] es o h = let z = nothing_on es (λ k. sym (h k)) in rw z refl
leaving_count n (e ∷ links) es o h =
    let k : Pair = e.0 in
    let below = first (below_all pair_cmp e.0 links) (is_sorted pair_cmp links) o in
    let rest = leaving_count n links (not_on e.0 es) (second (below_all pair_cmp e.0 links) (is_sorted pair_cmp links) o) (λ j. at j (decide_link j e.0) below) in
    let a : length e.1 ≡ length (on_link es e.0) =
    sym (length_packets e.1) ∙ ap length (ap (λ z. packets (unwrap_or z [])) (sym (find_first e.0 e.1 links)) ∙ h e.0) in
    sum_by-cons (λ (z : Pair × List NumberedPacket). if z.0.0 == n then length z.1 else 0) e links
    ∙ ap₂ (λ x y. (if e.0.0 == n then x else 0) + y) a rest ∙ sym (parts n e.0 es)
  where
    at : (j : Pair) → (j ≡ e.0) ⊎ (j ≢ e.0) → IsTrue (below_all pair_cmp e.0 links) → packets (list_at pair_cmp j links) ≡ on_link (not_on e.0 es) j
    at j (inl i) b = subst (λ z. packets (list_at pair_cmp z links) ≡ on_link (not_on e.0 es) z) (sym i)
        (ap (λ z. packets (unwrap_or z [])) (find_none e.0 links b) ∙ sym (not_on_same e.0 es))
    at j (inr i) b = ap (λ z. packets (unwrap_or z [])) (sym (find_next j e.0 e.1 links i)) ∙ h j ∙ sym (not_on_other j e.0 es i)
