-- A test of the packets on links of a machine is the test of the packets on links of the delay.
use Rattle.std.proofs.Common.{◌≡◌, ◌≢◌, ◌⊎◌, inl, inr, refl, sym, ap, ap₂, ◌∙◌, IsTrue, List, [], ◌∷◌, Bool, true, false, ◌||◌, cond}
use Rattle.std.specs.List.{list_any}
use Rattle.std.specs.Option.{unwrap_or}
use Rattle.std.specs.Ordering.{is_eq}
use Rattle.std.specs.declared.cmp.Ordering.{Ordering}
use Rattle.std.specs.declared.cmp.Ordering.TheVariants.{Less, Equal, Greater}
use Rattle.std.specs.Prelude.{Some}
use Rattle.std.specs.FinMap.{find}
use Rattle.std.specs.FinMap.Entries.{is_sorted, below_all}
use Rattle.run_types.specs.Tables.{Pair, pair_cmp, list_at}
use Rattle.run_types.proofs.Laws.{equals, first, second}
use Rattle.run_types.specs.Paths.{on_link, is_link}
use Rattle.mesh_semantics.specs.Delay.{Packet}
use Rattle.mesh_semantics.specs.NumberedPackets.{NumberedPacket}
use Rattle.node_semantics.specs.StandsFor.{packets}
use Rattle.node_semantics.proofs.PostedLinks.{decide_link}
use Rattle.node_semantics.proofs.CellCounts.{find_first, find_next, find_none}

neither : (a b : Bool) → (a || b) ≡ false → (a ≡ false) × (b ≡ false)
neither true b h = absurd (cc)
neither false b h = (refl, h)

-- a test of the lists of links that the empty list does not pass
module _ (t : List NumberedPacket → Bool) (empty : t [] ≡ false) where
  all_fail : (es : List (Pair × List NumberedPacket)) → IsTrue (is_sorted pair_cmp es) → ((k : Pair) → t (list_at pair_cmp k es) ≡ false) → list_any (λ e. t e.1) es ≡ false
  all_fail [] o h = refl
  all_fail (e ∷ es) o h =
      let below = first (below_all pair_cmp e.0 es) (is_sorted pair_cmp es) o in
      let here : t e.1 ≡ false = ap (λ z. t (unwrap_or z [])) (sym (find_first e.0 e.1 es)) ∙ h e.0 in
      ap₂ (λ a b. a || b) here (all_fail es (second (below_all pair_cmp e.0 es) (is_sorted pair_cmp es) o) (λ k. at k (decide_link k e.0) below))
    where
      at : (k : Pair) → (k ≡ e.0) ⊎ (k ≢ e.0) → IsTrue (below_all pair_cmp e.0 es) → t (list_at pair_cmp k es) ≡ false
      at k (inl i) b = ap (λ z. t (list_at pair_cmp z es)) i ∙ ap (λ z. t (unwrap_or z [])) (find_none e.0 es b) ∙ empty
      at k (inr i) b = ap (λ z. t (unwrap_or z [])) (sym (find_next k e.0 e.1 es i)) ∙ h k

  each_fails : (es : List (Pair × List NumberedPacket)) → list_any (λ e. t e.1) es ≡ false → (k : Pair) → t (list_at pair_cmp k es) ≡ false
  each_fails [] h k = empty
  each_fails (e ∷ es) h k = by (pair_cmp k e.0) refl (each_fails es parts.1 k)
    where
      parts : (t e.1 ≡ false) × (list_any (λ z. t z.1) es ≡ false)
      parts = neither (t e.1) (list_any (λ z. t z.1) es) h

      by : (r : Ordering) → pair_cmp k e.0 ≡ r → t (list_at pair_cmp k es) ≡ false → t (list_at pair_cmp k (e ∷ es)) ≡ false
      by Equal i z = ap (λ w. t (unwrap_or (cond (is_eq w) (Some e.1) (find pair_cmp k es)) [])) i ∙ parts.0
      by Less i z = ap (λ w. t (unwrap_or (cond (is_eq w) (Some e.1) (find pair_cmp k es)) [])) i ∙ z
      by Greater i z = ap (λ w. t (unwrap_or (cond (is_eq w) (Some e.1) (find pair_cmp k es)) [])) i ∙ z

-- a test of packets
module _ (b : Packet → Bool) where
  any_packets : (es : List NumberedPacket) → list_any (λ p. b p.packet) es ≡ list_any b (packets es)
  any_packets [] = refl
  any_packets (e ∷ es) = ap (λ z. b e.packet || z) (any_packets es)

  fails_on : (ls : List (Pair × Packet)) → list_any (λ e. b e.1) ls ≡ false → (k : Pair) → list_any b (on_link ls k) ≡ false
  fails_on [] h k = refl
  fails_on (e ∷ ls) h k = by (is_link k.0 k.1 e.0) refl (fails_on ls parts.1 k)
    where
      parts : (b e.1 ≡ false) × (list_any (λ z. b z.1) ls ≡ false)
      parts = neither (b e.1) (list_any (λ z. b z.1) ls) h

      by : (t : Bool) → is_link k.0 k.1 e.0 ≡ t → list_any b (on_link ls k) ≡ false → list_any b (on_link (e ∷ ls) k) ≡ false
      by true z f = rw z (ap₂ (λ p q. p || q) parts.0 f)
      by false z f = rw z f

  fails_flat : (ls : List (Pair × Packet)) → ((k : Pair) → list_any b (on_link ls k) ≡ false) → list_any (λ e. b e.1) ls ≡ false
  fails_flat [] h = refl
  fails_flat (e ∷ ls) h = ap₂ (λ p q. p || q) head (fails_flat ls rest)
    where
      head : b e.1 ≡ false
      head =
          let y : list_any b (on_link (e ∷ ls) e.0) ≡ false = h e.0 in
          let z : (b e.1 || list_any b (on_link ls e.0)) ≡ false = rw (equals e.0.0, equals e.0.1) at y in
          (neither (b e.1) (list_any b (on_link ls e.0)) z).0

      rest : (k : Pair) → list_any b (on_link ls k) ≡ false
      rest k = by (is_link k.0 k.1 e.0) refl
        where
          by : (t : Bool) → is_link k.0 k.1 e.0 ≡ t → list_any b (on_link ls k) ≡ false
          by true z =
              let y : list_any b (on_link (e ∷ ls) k) ≡ false = h k in
              let w : (b e.1 || list_any b (on_link ls k)) ≡ false = rw z at y in
              (neither (b e.1) (list_any b (on_link ls k)) w).1
          by false z = let y : list_any b (on_link (e ∷ ls) k) ≡ false = h k in rw z at y

  pub any_on_links : (links : List (Pair × List NumberedPacket)) (ls : List (Pair × Packet)) → IsTrue (is_sorted pair_cmp links)
      → ((k : Pair) → packets (list_at pair_cmp k links) ≡ on_link ls k) → list_any (λ e. list_any (λ p. b p.packet) e.1) links ≡ list_any (λ e. b e.1) ls
  any_on_links links ls o h = by (list_any (λ e. list_any (λ p. b p.packet) e.1) links) (list_any (λ e. b e.1) ls) refl refl
    where
      on : (k : Pair) → list_any (λ p. b p.packet) (list_at pair_cmp k links) ≡ list_any b (on_link ls k)
      on k = any_packets (list_at pair_cmp k links) ∙ ap (list_any b) (h k)

      by : (x y : Bool) → list_any (λ e. list_any (λ p. b p.packet) e.1) links ≡ x → list_any (λ e. b e.1) ls ≡ y
          → list_any (λ e. list_any (λ p. b p.packet) e.1) links ≡ list_any (λ e. b e.1) ls
      by true true i j = i ∙ sym j
      by false false i j = i ∙ sym j
      by true false i j = absurd (let z = all_fail (list_any (λ p. b p.packet)) refl links o (λ k. on k ∙ fails_on ls j k) in cc)
      by false true i j = absurd (let z = fails_flat ls (λ k. sym (on k) ∙ each_fails (list_any (λ p. b p.packet)) refl links i k) in cc)
