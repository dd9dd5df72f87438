-- Traffic with one list of all links, as in a delay, is the traffic with a list for each link.
use Rattle.std.proofs.Common.{◌≡◌, refl, sym, ap, subst, ◌∙◌, ℕ, ◌==◌, List, [], ◌∷◌, ◌++◌, Option, Some, None, Bool, true, false, if◌then◌else◌}
use Rattle.run_types.specs.declared.types.Placement.{Placement}
use Rattle.run_types.specs.Tables.{Pair, pair_cmp, list_at, put_list}
use Rattle.run_types.specs.LinkTables.{push_list}
use Rattle.run_types.specs.Paths.{next, on_link, put_last, move_head}
use Rattle.mesh_semantics.specs.Act.{first_of}
use Rattle.mesh_semantics.specs.Traffic as T
use Rattle.mesh_semantics.specs.Traffic.{Load, Traffic, Change, Enter, Move, traffic}
use Rattle.mesh_semantics.proofs.LinksAndArrivals.{Same, Is, Not, same, on_put_same, on_put_other, on_moved_same, on_moved_other}
use Rattle.run_types.proofs.Laws.{put_list_same, put_list_other, push_list_same, push_list_other}

-- the same with one list of all links, each load with its link
pub record Flat (X : Type 0) : Type 0 where
  pub links : List (Pair × Load X)
  pub entered : List (Load X)
  pub left : List (Load X)

-- a load that has left a link leaves at its goal, and else goes last on its next link
abbrev pub goes_on : {X : Type 0} → Placement → Flat X → Pair → Load X → Flat X
goes_on l t k x =
    if x.to == k.1 then record t { links = move_head k t.links; left = t.left ++ x ∷ [] }
    else record t { links = put_last (k.1, next l k.1 x.to) x (move_head k t.links) }

abbrev pub moved_on : {X : Type 0} → Placement → Flat X → Pair → Option (Load X) → Flat X
moved_on l t k None = t
moved_on l t k (Some x) = goes_on l t k x

abbrev pub happens : {X : Type 0} → Placement → Flat X → Change X → Flat X
happens l t (Enter a b v) =
    if a == b then t
    else record t { links = put_last (a, next l a b) (record { from = a; to = b; value = v }) t.links; entered = t.entered ++ record { from = a; to = b; value = v } ∷ [] }
happens l t (Move k) = moved_on l t k (first_of (on_link t.links k))

abbrev pub flat : {X : Type 0} → Placement → Flat X → List (Change X) → Flat X
flat l t [] = t
flat l t (e ∷ es) = flat l (happens l t e) es

abbrev pub no_flat : {X : Type 0} → Flat X
no_flat = record { links = []; entered = []; left = [] }

-- the same loads on each link, and the same that entered and left
pub record Alike {X : Type 0} (t : Traffic X) (u : Flat X) : Type 0 where
  pub links : (k : Pair) → list_at pair_cmp k t.links ≡ on_link u.links k
  pub entered : t.entered ≡ u.entered
  pub left : t.left ≡ u.left

module _ {X : Type 0} where
  pushed : (ts : List (Pair × List (Load X))) (us : List (Pair × Load X)) (j : Pair) (x : Load X) → ((k : Pair) → list_at pair_cmp k ts ≡ on_link us k)
      → (k : Pair) → list_at pair_cmp k (push_list pair_cmp j x ts) ≡ on_link (put_last j x us) k
  pushed ts us j x h k = by (same k j)
    where
      by : Same k j → list_at pair_cmp k (push_list pair_cmp j x ts) ≡ on_link (put_last j x us) k
      by (Is e i) = subst (λ (q : Pair). list_at pair_cmp q (push_list pair_cmp j x ts) ≡ on_link (put_last j x us) q) (sym e)
          (push_list_same j x ts ∙ ap (λ ys. ys ++ x ∷ []) (h j) ∙ sym (on_put_same j x us))
      by (Not n i) = push_list_other j x ts k n ∙ h k ∙ sym (on_put_other k j x us n)

  handed : (ts : List (Pair × List (Load X))) (us : List (Pair × Load X)) (j : Pair) (x : Load X) (rest : List (Load X)) → ((k : Pair) → list_at pair_cmp k ts ≡ on_link us k)
      → on_link us j ≡ x ∷ rest → (k : Pair) → list_at pair_cmp k (put_list pair_cmp j rest ts) ≡ on_link (move_head j us) k
  handed ts us j x rest h e k = by (same k j)
    where
      tail : on_link (move_head j us) j ≡ rest
      tail = let m : x ∷ rest ≡ x ∷ on_link (move_head j us) j = sym e ∙ on_moved_same j x us (rw e refl) in cc

      by : Same k j → list_at pair_cmp k (put_list pair_cmp j rest ts) ≡ on_link (move_head j us) k
      by (Is f i) = subst (λ (q : Pair). list_at pair_cmp q (put_list pair_cmp j rest ts) ≡ on_link (move_head j us) q) (sym f) (put_list_same j rest ts ∙ sym tail)
      by (Not n i) = put_list_other j rest ts k n ∙ h k ∙ sym (on_moved_other k j us n)

  module _ (l : Placement) where
    entered_alike : (a b : ℕ) (v : X) (t : Traffic X) (u : Flat X) → Alike t u → Alike (T.happens l t (Enter a b v)) (happens l u (Enter a b v))
    entered_alike a b v t u k = by (a == b) refl
      where
        by : (c : Bool) → (a == b) ≡ c → Alike (T.happens l t (Enter a b v)) (happens l u (Enter a b v))
        by true e = rw e k
        by false e = rw e (record {
          links = pushed t.links u.links (a, next l a b) (record { from = a; to = b; value = v }) k.links;
          entered = ap (λ xs. xs ++ record { from = a; to = b; value = v } ∷ []) k.entered;
          left = k.left;
        })

    moved_alike : (m : Pair) (t : Traffic X) (u : Flat X) → Alike t u → Alike (T.happens l t (Move m)) (happens l u (Move m))
    moved_alike m t u k = by (on_link u.links m) refl (k.links m)
      where
        by : (xs : List (Load X)) → on_link u.links m ≡ xs → list_at pair_cmp m t.links ≡ on_link u.links m → Alike (T.happens l t (Move m)) (happens l u (Move m))
        by [] e f = let i = f ∙ e in rw (i, e) k
        by (x ∷ rest) e f = let i = f ∙ e in rw (i, e) (at (x.to == m.1) refl)
          where
            at : (c : Bool) → (x.to == m.1) ≡ c → Alike (T.moved_on l t m (x ∷ rest)) (goes_on l u m x)
            at true g = rw g (record {
              links = handed t.links u.links m x rest k.links e;
              entered = k.entered;
              left = ap (λ ys. ys ++ x ∷ []) k.left;
            })
            at false g = rw g (record {
              links = pushed (put_list pair_cmp m rest t.links) (move_head m u.links) (m.1, next l m.1 x.to) x (handed t.links u.links m x rest k.links e);
              entered = k.entered;
              left = k.left;
            })

    pub all_alike : (es : List (Change X)) (t : Traffic X) (u : Flat X) → Alike t u → Alike (traffic l t es) (flat l u es)
    all_alike [] t u k = k
    all_alike (Enter a b v ∷ es) t u k = all_alike es (T.happens l t (Enter a b v)) (happens l u (Enter a b v)) (entered_alike a b v t u k)
    all_alike (Move m ∷ es) t u k = all_alike es (T.happens l t (Move m)) (happens l u (Move m)) (moved_alike m t u k)
