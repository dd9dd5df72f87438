-- Links after a packet was put last on one, and after the head of one has left.
use Rattle.std.proofs.Common.{◌≡◌, ◌≢◌, ◌⊎◌, inl, inr, refl, sym, ap, subst, ◌∙◌, List, [], ◌∷◌, ◌++◌, Some}
use Rattle.run_types.specs.Tables.{Pair, pair_cmp, list_at, put_list, Each}
use Rattle.run_types.specs.LinkTables.{push_list}
use Rattle.run_types.proofs.Laws.{decide, pushed_here, pushed_there, listed_here, listed_there}
use Rattle.mesh_semantics.proofs.Laws.{on_put_same, on_put_other, on_moved_same, on_moved_other}
use Rattle.run_types.specs.Paths.{on_link, put_last, move_head}
use Rattle.mesh_semantics.specs.Delay.{Packet}
use Rattle.mesh_semantics.specs.NumberedPackets.{NumberedPacket}
use Rattle.mesh_semantics.specs.Act.{first_of}
use Rattle.node_semantics.specs.StandsFor.{packets}

-- two links are one, or not
pub decide_link : (j k : Pair) → (j ≡ k) ⊎ (j ≢ k)
decide_link j k = by (decide j.0 k.0) (decide j.1 k.1)
  where
    by : (j.0 ≡ k.0) ⊎ (j.0 ≢ k.0) → (j.1 ≡ k.1) ⊎ (j.1 ≢ k.1) → (j ≡ k) ⊎ (j ≢ k)
    by (inl e) (inl f) = inl (λ i. (e i, f i))
    by (inl e) (inr f) = inr (λ z. f (ap (λ (p : Pair). p.1) z))
    by (inr e) f = inr (λ z. e (ap (λ (p : Pair). p.0) z))

packets_append : (es : List NumberedPacket) (e : NumberedPacket) → packets (es ++ e ∷ []) ≡ packets es ++ e.packet ∷ []
packets_append [] e = refl
packets_append (x ∷ es) e = ap (λ (ps : List Packet). x.packet ∷ ps) (packets_append es e)

each_join : {X : Type 0} (P : X → Type 0) (xs : List X) (y : X) → Each P xs → P y → Each P (xs ++ y ∷ [])
each_join P [] y h p = (p, tt)
each_join P (x ∷ xs) y h p = (h.0, each_join P xs y h.1 p)

module _ (links : List (Pair × List NumberedPacket)) (ls : List (Pair × Packet)) (same : (k : Pair) → packets (list_at pair_cmp k links) ≡ on_link ls k) (k : Pair) where
  -- one more
  module _ (e : NumberedPacket) where
    pub posted_links : (j : Pair) → packets (list_at pair_cmp j (push_list pair_cmp k e links)) ≡ on_link (put_last k e.packet ls) j
    posted_links j = by (decide_link j k)
      where
        here : packets (list_at pair_cmp k (push_list pair_cmp k e links)) ≡ on_link (put_last k e.packet ls) k
        here = ap packets (pushed_here links k e) ∙ packets_append (list_at pair_cmp k links) e
            ∙ ap (λ (ps : List Packet). ps ++ e.packet ∷ []) (same k) ∙ sym (on_put_same k e.packet ls)

        by : (j ≡ k) ⊎ (j ≢ k) → packets (list_at pair_cmp j (push_list pair_cmp k e links)) ≡ on_link (put_last k e.packet ls) j
        by (inl i) = subst (λ z. packets (list_at pair_cmp z (push_list pair_cmp k e links)) ≡ on_link (put_last k e.packet ls) z) (sym i) here
        by (inr i) = ap packets (pushed_there links j k e i) ∙ same j ∙ sym (on_put_other j k e.packet ls i)

    pub posted_each : (P : NumberedPacket → Type 0) → ((j : Pair) → Each P (list_at pair_cmp j links)) → P e → (j : Pair) → Each P (list_at pair_cmp j (push_list pair_cmp k e links))
    posted_each P h p j = by (decide_link j k)
      where
        by : (j ≡ k) ⊎ (j ≢ k) → Each P (list_at pair_cmp j (push_list pair_cmp k e links))
        by (inl i) = subst (λ z. Each P (list_at pair_cmp z (push_list pair_cmp k e links))) (sym i)
            (subst (Each P) (sym (pushed_here links k e)) (each_join P (list_at pair_cmp k links) e (h k) p))
        by (inr i) = subst (Each P) (sym (pushed_there links j k e i)) (h j)

  -- one less
  module _ (e : NumberedPacket) (rest : List NumberedPacket) (head : list_at pair_cmp k links ≡ e ∷ rest) where
    pub is_head : first_of (on_link ls k) ≡ Some e.packet
    is_head = let h : on_link ls k ≡ e.packet ∷ packets rest = sym (same k) ∙ ap packets head in rw h refl

    pub moved_links : (j : Pair) → packets (list_at pair_cmp j (put_list pair_cmp k rest links)) ≡ on_link (move_head k ls) j
    moved_links j = by (decide_link j k)
      where
        here : packets (list_at pair_cmp k (put_list pair_cmp k rest links)) ≡ on_link (move_head k ls) k
        here =
            let a : on_link ls k ≡ e.packet ∷ on_link (move_head k ls) k = on_moved_same k e.packet ls is_head in
            let b : on_link ls k ≡ e.packet ∷ packets rest = sym (same k) ∙ ap packets head in
            let z : packets rest ≡ on_link (move_head k ls) k = cc in
            ap packets (listed_here links k rest) ∙ z

        by : (j ≡ k) ⊎ (j ≢ k) → packets (list_at pair_cmp j (put_list pair_cmp k rest links)) ≡ on_link (move_head k ls) j
        by (inl i) = subst (λ z. packets (list_at pair_cmp z (put_list pair_cmp k rest links)) ≡ on_link (move_head k ls) z) (sym i) here
        by (inr i) = ap packets (listed_there links j k rest i) ∙ same j ∙ sym (on_moved_other j k ls i)

    pub moved_each : (P : NumberedPacket → Type 0) → ((j : Pair) → Each P (list_at pair_cmp j links)) → P e × ((j : Pair) → Each P (list_at pair_cmp j (put_list pair_cmp k rest links)))
    moved_each P h = (all.0, λ j. by j (decide_link j k))
      where
        all : P e × Each P rest
        all = subst (Each P) head (h k)

        by : (j : Pair) → (j ≡ k) ⊎ (j ≢ k) → Each P (list_at pair_cmp j (put_list pair_cmp k rest links))
        by j (inl i) = subst (λ z. Each P (list_at pair_cmp z (put_list pair_cmp k rest links))) (sym i) (subst (Each P) (sym (listed_here links k rest)) all.1)
        by j (inr i) = subst (Each P) (sym (listed_there links j k rest i)) (h j)
