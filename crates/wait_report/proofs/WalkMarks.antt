-- The seen indices and the marks, along a walk.
use Rattle.std.proofs.Common.{◌≡◌, ◌≢◌, ◌⊎◌, inl, inr, refl, sym, ap, subst, ◌∙◌, ℕ, zero, suc, ◌<◌, List, [], ◌∷◌, ◌++◌, length, set, get_or, replicate, Option, Some, None, Bool, true, false, not, cond, count_by, arith}
use Rattle.std.proofs.lemmas.List.{get_or-set_same, get_or-set_other, length-set, length-replicate}
use Rattle.std.proofs.lemmas.List.Sums.{sum_by-set}
use Rattle.run_types.specs.PathFacts.{In}
use Rattle.mesh_semantics.specs.Standing.{chase}
use Rattle.mesh_semantics.specs.Cycles.{Closes}
use Rattle.run_types.proofs.Laws.{decide, same_some}
use Rattle.mesh_semantics.proofs.Laws.{chased, Begun, CyclesIs as Is}
use Rattle.wait_report.specs.Cycles.{jump, least_from, IsMarked}
use Rattle.wait_report.proofs.Chains.{Chain, GoesOn, chain_push, reach, back, after, goes, least_found}

-- what holds along a walk from a place, where `old` had been seen before
pub record Walking (next : List (Option ℕ)) (old seen : List Bool) (from : ℕ) (path : List ℕ) (at : ℕ) : Type 0 where
  pub many : length seen ≡ length next
  pub there : at < length next
  pub next_seen : (k j : ℕ) → get_or seen k false ≡ true → jump next k ≡ Some j → (get_or seen j false ≡ true) ⊎ (j ≡ at)
  pub in_path : (k : ℕ) → get_or seen k false ≡ true → (get_or old k false ≡ true) ⊎ In k path
  pub kept : (k : ℕ) → get_or old k false ≡ true → get_or seen k false ≡ true
  pub new : (k : ℕ) → In k path → get_or old k false ≢ true
  pub within : (k : ℕ) → In k path → k < length next
  pub chain : Chain (jump next) path at
  pub begun : (from ≡ at) ⊎ (get_or seen from false ≡ true)

in_last : (k : ℕ) (xs : List ℕ) (y : ℕ) → In k (xs ++ y ∷ []) → In k xs ⊎ (y ≡ k)
in_last k [] y (inl e) = inr e
in_last k [] y (inr i) = absurd i
in_last k (x ∷ xs) y (inl e) = inl (inl e)
in_last k (x ∷ xs) y (inr i) = on (in_last k xs y i)
  where
    on : In k xs ⊎ (y ≡ k) → In k (x ∷ xs) ⊎ (y ≡ k)
    on (inl p) = inl (inr p)
    on (inr e) = inr e

in_front : (k : ℕ) (xs : List ℕ) (y : ℕ) → In k xs → In k (xs ++ y ∷ [])
in_front k [] y i = absurd i
in_front k (x ∷ xs) y (inl e) = inl e
in_front k (x ∷ xs) y (inr i) = inr (in_front k xs y i)

at_last : (xs : List ℕ) (y : ℕ) → In y (xs ++ y ∷ [])
at_last [] y = inl refl
at_last (x ∷ xs) y = inr (at_last xs y)

-- a list of marks with one more
more : (seen : List Bool) (at k : ℕ) → at < length seen → get_or seen k false ≡ true → get_or (set seen at true) k false ≡ true
more seen at k l e = by (decide k at)
  where
    by : (k ≡ at) ⊎ (k ≢ at) → get_or (set seen at true) k false ≡ true
    by (inl s) = subst (λ z. get_or (set seen at true) z false ≡ true) (sym s) (get_or-set_same seen at true false l)
    by (inr n) = get_or-set_other seen at k true false n ∙ e

was : (seen : List Bool) (at k : ℕ) → get_or (set seen at true) k false ≡ true → (k ≡ at) ⊎ (get_or seen k false ≡ true)
was seen at k e = by (decide k at)
  where
    by : (k ≡ at) ⊎ (k ≢ at) → (k ≡ at) ⊎ (get_or seen k false ≡ true)
    by (inl s) = inl s
    by (inr n) = inr (sym (get_or-set_other seen at k true false n) ∙ e)

abbrev pub mark : List Bool → Option ℕ → List Bool
mark starts None = starts
mark starts (Some l) = set starts l true

-- the cycle that is told from a place
pub record Told (next : List (Option ℕ)) (i : ℕ) : Type 0 where
  pub rest : List ℕ
  pub closes : Closes (jump next) i (i ∷ rest)

told : (next : List (Option ℕ)) (n i : ℕ) (ns : List ℕ) → chase (jump next) n i i ≡ Some ns → Told next i
told next n i ns e = let c = chased (jump next) i n i ns e in by c.0 c.1
  where
    by : Begun (jump next) i i ns → Closes (jump next) i ns → Told next i
    by (Is rest s) z = record { rest = rest; closes = subst (Closes (jump next) i) s z }

cycle_on : (next : List (Option ℕ)) (i : ℕ) (t : Told next i) → GoesOn (jump next) (λ k. In k (i ∷ t.rest))
cycle_on next i t k j q e = on (after (jump next) i i t.rest k j t.closes q e)
  where
    on : (j ≡ i) ⊎ In j (i ∷ t.rest) → In j (i ∷ t.rest)
    on (inl s) = inl (sym s)
    on (inr q) = q

module _ (next : List (Option ℕ)) (old : List Bool) (from : ℕ) where
  pub sets_out : length old ≡ length next → from < length next → ((k j : ℕ) → get_or old k false ≡ true → jump next k ≡ Some j → get_or old j false ≡ true)
      → Walking next old old from [] from
  sets_out m l c =
      record { many = m; there = l; next_seen = λ k j s e. inl (c k j s e); in_path = λ k s. inl s; kept = λ k s. s; new = λ k p. absurd p; within = λ k p. absurd p; chain = tt; begun = inl refl }

  pub goes_on : (seen : List Bool) (path : List ℕ) (at b : ℕ) → Walking next old seen from path at → get_or seen at false ≡ false → jump next at ≡ Some b → b < length next
      → Walking next old (set seen at true) from (path ++ at ∷ []) b
  goes_on seen path at b w f e l =
      record {
        many = length-set seen at true ∙ w.many;
        there = l;
        next_seen = λ k j s g. next_seen k j (was seen at k s) g;
        in_path = λ k s. in_path k (was seen at k s);
        kept = λ k s. more seen at k la (w.kept k s);
        new = λ k p. new k (in_last k path at p);
        within = λ k p. within k (in_last k path at p);
        chain = chain_push (jump next) path at b w.chain e;
        begun = inr (begun w.begun);
      }
    where
      la : at < length seen
      la = omega (arith, w.many, w.there)

      here : get_or (set seen at true) at false ≡ true
      here = get_or-set_same seen at true false la

      next_seen : (k j : ℕ) → (k ≡ at) ⊎ (get_or seen k false ≡ true) → jump next k ≡ Some j → (get_or (set seen at true) j false ≡ true) ⊎ (j ≡ b)
      next_seen k j (inl s) g = inr (same_some (sym g ∙ ap (jump next) s ∙ e))
      next_seen k j (inr s) g = on (w.next_seen k j s g)
        where
          on : (get_or seen j false ≡ true) ⊎ (j ≡ at) → (get_or (set seen at true) j false ≡ true) ⊎ (j ≡ b)
          on (inl t) = inl (more seen at j la t)
          on (inr t) = inl (subst (λ z. get_or (set seen at true) z false ≡ true) (sym t) here)

      in_path : (k : ℕ) → (k ≡ at) ⊎ (get_or seen k false ≡ true) → (get_or old k false ≡ true) ⊎ In k (path ++ at ∷ [])
      in_path k (inl s) = inr (subst (λ z. In z (path ++ at ∷ [])) (sym s) (at_last path at))
      in_path k (inr s) = on (w.in_path k s)
        where
          on : (get_or old k false ≡ true) ⊎ In k path → (get_or old k false ≡ true) ⊎ In k (path ++ at ∷ [])
          on (inl t) = inl t
          on (inr p) = inr (in_front k path at p)

      new : (k : ℕ) → In k path ⊎ (at ≡ k) → get_or old k false ≢ true
      new k (inl p) s = w.new k p s
      new k (inr t) s = absurd (let q = sym f ∙ w.kept at (subst (λ z. get_or old z false ≡ true) (sym t) s) in cc)

      within : (k : ℕ) → In k path ⊎ (at ≡ k) → k < length next
      within k (inl p) = w.within k p
      within k (inr t) = subst (λ z. z < length next) t w.there

      begun : (from ≡ at) ⊎ (get_or seen from false ≡ true) → get_or (set seen at true) from false ≡ true
      begun (inl s) = subst (λ z. get_or (set seen at true) z false ≡ true) (sym s) here
      begun (inr s) = more seen at from la s

  -- nothing comes next
  pub ends : (seen starts : List Bool) (path : List ℕ) (at : ℕ) → Walking next old seen from path at → IsMarked next old starts → jump next at ≡ None
      → IsMarked next (set seen at true) starts
  ends seen starts path at w m none =
      record {
        seen_many = length-set seen at true ∙ w.many;
        starts_many = m.starts_many;
        closed = λ k j s e. closed k j (was seen at k s) e;
        starts_at = λ i ns s e. starts_at i ns (was seen at i s) e;
      }
    where
      la : at < length seen
      la = omega (arith, w.many, w.there)

      closed : (k j : ℕ) → (k ≡ at) ⊎ (get_or seen k false ≡ true) → jump next k ≡ Some j → get_or (set seen at true) j false ≡ true
      closed k j (inl s) e = absurd (let q = sym e ∙ ap (jump next) s ∙ none in cc)
      closed k j (inr s) e = on (w.next_seen k j s e)
        where
          on : (get_or seen j false ≡ true) ⊎ (j ≡ at) → get_or (set seen at true) j false ≡ true
          on (inl t) = more seen at j la t
          on (inr t) = subst (λ z. get_or (set seen at true) z false ≡ true) (sym t) (get_or-set_same seen at true false la)

      starts_at : (i : ℕ) (ns : List ℕ) → (i ≡ at) ⊎ (get_or seen i false ≡ true) → chase (jump next) (length next) i i ≡ Some ns → get_or starts i false ≡ true
      starts_at i ns (inl s) e =
          let t = told next (length next) i ns e in
          absurd (goes (jump next) i i t.rest i t.closes (inl refl) (ap (jump next) s ∙ none))
      starts_at i ns (inr s) e = on (w.in_path i s)
        where
          on : (get_or old i false ≡ true) ⊎ In i path → get_or starts i false ≡ true
          on (inl o) = m.starts_at i ns o e
          on (inr p) =
              let t = told next (length next) i ns e in
              let q : In at (i ∷ t.rest) = reach (jump next) (λ k. In k (i ∷ t.rest)) (cycle_on next i t) path at i w.chain p (inl refl) in
              absurd (goes (jump next) i i t.rest at t.closes q none)

  -- a place comes next that was seen
  pub comes_back : (seen starts : List Bool) (path : List ℕ) (at : ℕ) → Walking next old seen from path at → IsMarked next old starts → get_or seen at false ≡ true
      → IsMarked next seen (mark starts (least_from at path))
  comes_back seen starts path at w m here =
      record {
        seen_many = w.many;
        starts_many = many (least_from at path) ∙ m.starts_many;
        closed = λ k j s e. closed j (w.next_seen k j s e);
        starts_at = λ i ns s e. starts_at i ns e (w.in_path i s);
      }
    where
      many : (o : Option ℕ) → length (mark starts o) ≡ length starts
      many None = refl
      many (Some l) = length-set starts l true

      closed : (j : ℕ) → (get_or seen j false ≡ true) ⊎ (j ≡ at) → get_or seen j false ≡ true
      closed j (inl t) = t
      closed j (inr t) = subst (λ z. get_or seen z false ≡ true) (sym t) here

      still : (o : Option ℕ) (i : ℕ) → get_or starts i false ≡ true → get_or (mark starts o) i false ≡ true
      still None i e = e
      still (Some l) i e = by (decide i l)
        where
          by : (i ≡ l) ⊎ (i ≢ l) → get_or (set starts l true) i false ≡ true
          by (inl s) = subst (λ z. get_or (set starts l true) z false ≡ true) (sym s) (get_or-set_same starts l true false (subst (λ z. z < length starts) s (inside i starts e)))
            where
              inside : (k : ℕ) (bs : List Bool) → get_or bs k false ≡ true → k < length bs
              inside k [] e = absurd (cc)
              inside zero (b ∷ bs) e = omega arith
              inside (suc k) (b ∷ bs) e = let r = inside k bs e in omega (arith, r)
          by (inr n) = get_or-set_other starts l i true false n ∙ e

      starts_at : (i : ℕ) (ns : List ℕ) → chase (jump next) (length next) i i ≡ Some ns → (get_or old i false ≡ true) ⊎ In i path → get_or (mark starts (least_from at path)) i false ≡ true
      starts_at i ns e (inl o) = still (least_from at path) i (m.starts_at i ns o e)
      starts_at i ns e (inr p) =
          let t = told next (length next) i ns e in
          let q : In at (i ∷ t.rest) = reach (jump next) (λ k. In k (i ∷ t.rest)) (cycle_on next i t) path at i w.chain p (inl refl) in
          on t q (w.in_path at here)
        where
          on : (t : Told next i) → In at (i ∷ t.rest) → (get_or old at false ≡ true) ⊎ In at path → get_or (mark starts (least_from at path)) i false ≡ true
          on t q (inl o) = absurd (w.new i p (back (jump next) i (λ k. get_or old k false ≡ true) m.closed i t.rest at t.closes q o))
          on t q (inr r) =
              let f = least_found (jump next) i t.rest path at t.closes w.chain r q in
              let l : i < length starts = (let k = w.within i p in omega (arith, k, m.starts_many)) in
              subst (λ o. get_or (mark starts o) i false ≡ true) (sym f) (get_or-set_same starts i true false l)

-- a mark more is a place less that was not seen
pub fewer : (seen : List Bool) (at : ℕ) → at < length seen → get_or seen at false ≡ false → count_by not (set seen at true) < count_by not seen
fewer seen at l e =
    let s = sum_by-set (λ b. cond (not b) 1 0) seen at true false l in
    let k : ◌≡◌ {A = ℕ} (cond (not (get_or seen at false)) 1 0) 1 = ap (λ b. cond (not b) 1 0) e in
    omega (arith, s, k)
