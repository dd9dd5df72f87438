-- A list of a search that puts off no label for ever finds each property of runs that later transitions keep.
use Rattle.std.proofs.Common.{◌≡◌, ◌≢◌, ◌≤◌, ◌⊎◌, inl, inr, refl, sym, ap, ◌∙◌, subst, ◌<◌, ℕ, zero, suc, List, [], ◌∷◌, ◌++◌, ◌+◌, length, map, Some, Bool, true, arith}
use Rattle.std.proofs.lemmas.List.{length-map}
use Rattle.run_types.proofs.Laws.{first, second, equals, same_some}
use Rattle.run_types.specs.declared.types.Label.{Label}
use Rattle.run_types.specs.declared.types.Label.TheVariants as L
use Rattle.pool_syntax.specs.Terms.{ProgramTree}
use Rattle.pool_relation.specs.Configuration.{Configuration}
use Rattle.pool_relation.specs.Transition.{transition, run}
use Rattle.reachability.specs.Search.{IsIn, IsInOrder, after, names_next, in_order}
use Rattle.search_laws.specs.Stubborn.{are_others}
use Rattle.search_laws.specs.ClosedBeside as D
use Rattle.search_laws.specs.ClosedBeside.{SettlesFreely}
use Rattle.search_laws.specs.PutOff as F
use Rattle.search_laws.specs.PutOff.{LeadsFreely, IsTriedInTheEnd, IsClosedByChoices}
use Rattle.search_laws.specs.TriedAt as A
use Rattle.search_laws.specs.TriedAt.{IsTriedAt}
use Rattle.search_laws.specs.Renamed.{Renaming, renamed_label, IsRenamed, IsNameless}
use Rattle.search_laws.proofs.Births.{Advanced, Brought, Within, Behind, brought, kind_makes_none, names_any, not_before}
use Rattle.search_laws.proofs.Known.{Known, known_after}
use Rattle.search_laws.proofs.ReducedSearch.{stays, both_hold, First, first_of, joined_step}
use Rattle.search_laws.proofs.Commutation.{Alone, alone_makes_none, same_label, commutes}
use Rattle.search_laws.proofs.ChoiceFreeRuns.{sorted_after}
use Rattle.search_laws.proofs.Splits.{same_next, Split, split, around, joined, longer}

-- transitions that need no choice give no name
pub known_settled : (p : ProgramTree) (free : Label → Bool) → IsNameless p → (n : ℕ) (c e : Configuration) → Known n c → SettlesFreely p free c e → Known n e
known_settled p free less n c e known D.AtRest = known
known_settled p free less n c e known (D.GoesFreely {d = d} l kind is_free step rest) =
    let none = kind_makes_none l kind in
    known_settled p free less n d e (subst (λ (m : ℕ). Known m d) (stays n l none) (known_after p less n c known d l (names_any n l none) step)) rest

-- a property of runs, by their labels and last configurations, that stays if a free label is left out or comes last
module _ (p : ProgramTree) (free : Label → Bool) (P : List Label → Configuration → Type 0)
    (left_out : (t : Label) (ls : List Label) (d : Configuration) → free t ≡ true → P (t ∷ ls) d → P ls d)
    (behind : (l : Label) (ls ms : List Label) (d e : Configuration) → (P ls d → P ms e) → P (l ∷ ls) d → P (l ∷ ms) e)
    (comes_after : (t : Label) (ls : List Label) (d e : Configuration) → free t ≡ true → transition p d t ≡ Some e → P ls d → P ls e) where
  inside_out : (before : List Label) (t : Label) (ls : List Label) (d : Configuration) → free t ≡ true → P (before ++ t ∷ ls) d → P (before ++ ls) d
  inside_out [] t ls d f h = left_out t ls d f h
  inside_out (l ∷ before) t ls d f h = behind l (before ++ t ∷ ls) (before ++ ls) d d (inside_out before t ls d f) h

  -- a run from e that is no longer, and has the property if the run to d has it
  pub record Still (n : ℕ) (ls : List Label) (d e : Configuration) : Type 0 where
    pub labels : List Label
    pub shorter : length labels ≤ length ls
    pub orders : in_order n labels ≡ true
    pub to : Configuration
    pub leads : run p e labels ≡ Some to
    pub holds : P ls d → P labels to

  still : (n : ℕ) (c d e : Configuration) (k : Label) (ls : List Label) → Alone p c k → free k ≡ true → transition p c k ≡ Some e → in_order n ls ≡ true → run p c ls ≡ Some d → Still n ls d e
  still n c d e k [] a b i s r =
      let is : c ≡ d = same_some r in
      record { labels = []; shorter = omega arith; orders = refl; to = e; leads = refl; holds = λ h. comes_after k [] d e b (ap (λ x. transition p x k) (sym is) ∙ i) h }
  still n c d e k (l ∷ ls) a b i s r =
      by (first_of p c d l ls r) (same_label p c k a l) (λ c' e' a' i' r'. still (after n l) c' d e' k ls a' b i' (second (names_next n l) (in_order (after n l) ls) s) r')
    where
      by : First p c d l ls → (l ≡ k) ⊎ (l ≢ k)
          → ((c' e' : Configuration) → Alone p c' k → transition p c' k ≡ Some e' → run p c' ls ≡ Some d → Still (after n l) ls d e') → Still n (l ∷ ls) d e
      by f (inl g) rest =
          let made : Some f.next ≡ Some e = sym f.step ∙ ap (transition p c) g ∙ i in
          let is : f.next ≡ e = same_some made in
          let same : after n l ≡ n = ap (after n) g ∙ stays n k (alone_makes_none p c k a) in
          record {
            labels = ls;
            shorter = omega arith;
            orders = ap (λ m. in_order m ls) (sym same) ∙ second (names_next n l) (in_order (after n l) ls) s;
            to = d;
            leads = subst (λ x. run p x ls ≡ Some d) is f.rest;
            holds = λ h. left_out l ls d (ap free g ∙ b) h;
          }
      by f (inr g) rest =
          let both = commutes p c f.next e k l a i f.step g in
          let w = rest f.next both.1.0 both.0 both.1.1 f.rest in
          let few = w.shorter in
          record {
            labels = l ∷ w.labels;
            shorter = omega arith;
            orders = both_hold _ _ (first (names_next n l) (in_order (after n l) ls) s) w.orders;
            to = w.to;
            leads = joined_step p e both.1.0 w.to l w.labels both.1.2 w.leads;
            holds = behind l ls w.labels d w.to w.holds;
          }

  pub all_still : (n : ℕ) (c d f : Configuration) (ls : List Label) → IsInOrder c → SettlesFreely p free c f → in_order n ls ≡ true → run p c ls ≡ Some d → Still n ls d f
  all_still n c d f ls i D.AtRest s r = record { labels = ls; shorter = omega arith; orders = s; to = d; leads = r; holds = λ h. h }
  all_still n c d f ls i (D.GoesFreely {d = e} l kind is_free step rest) s r =
      let w = still n c d e l ls (record { kind = kind; sorted = i }) is_free step s r in
      let v = all_still n e w.to f w.labels (sorted_after p c e l i step) rest w.orders w.leads in
      let one = w.shorter in
      let two = v.shorter in
      record { labels = v.labels; shorter = omega arith; orders = v.orders; to = v.to; leads = v.leads; holds = λ h. v.holds (w.holds h) }

  -- The property does not depend on names of objects but those below low.
  module _ (less : IsNameless p) (low : ℕ) (under : (g : Renaming) (ls : List Label) (d e : Configuration) → ((q : ℕ) → q < low → g.to q ≡ q) → IsRenamed g.to d e → P ls d → P (map (renamed_label g.to) ls) e)
      (es : List (ℕ × Configuration)) (closed : IsClosedByChoices p free es) (R : Type 0) (found : (n : ℕ) (c : Configuration) → IsIn n c es → P [] c → R) where
    -- if a configuration of the list with the property gives R, so does a run of at most that many labels from the list
    abbrev pub Tells : ℕ → Type 0
    Tells most = (n : ℕ) (c d : Configuration) (ls : List Label) → length ls ≤ most → low ≤ n → Known n c → IsIn n c es → in_order n ls ≡ true → run p c ls ≡ Some d → P ls d → R

    onward : (most n : ℕ) (c y d : Configuration) (l : Label) (ls : List Label) → Tells most → length ls ≤ most → low ≤ n → Known n c → IsIn n c es → LeadsFreely p free es n c l → names_next n l ≡ true
        → transition p c l ≡ Some y → in_order (after n l) ls ≡ true → run p y ls ≡ Some d → (free l ≡ true → P ls d) → R
    onward most n c y d l ls shorter few lower known i leads named step o r h =
        let s = leads y named step in
        let w = all_still (after n l) y d s.1.0 ls (sorted_after p c y l (closed.in_order n c i) step) s.1.1 o r in
        let short = w.shorter in
        let more = not_before n l in
        let settled = known_settled p free less (after n l) y s.1.0 (known_after p less n c known y l named step) s.1.1 in
        shorter (after n l) s.1.0 w.to w.labels (omega (arith, short, few)) (omega (arith, more, lower)) settled s.1.2 w.orders w.leads (w.holds (h s.0))

    -- If a label of the stubborn set is in the run, it can also come first. If none is, the one that stays possible
    -- comes first, and leads on. So it is with a creation, under other names.
    from_here : (most : ℕ) → Tells most → (n : ℕ) (c : Configuration) → IsTriedInTheEnd p free es n c → low ≤ n → Known n c → IsIn n c es → (d : Configuration) (ls : List Label) → length ls ≤ suc most
        → in_order n ls ≡ true → run p c ls ≡ Some d → P ls d → R
    from_here most shorter n c t lower known i d [] few o r h = let is : c ≡ d = same_some r in found n c i (subst (P []) (sym is) h)
    from_here most shorter n c (F.Created w k is_free y e step settles there rest) lower known i d (l ∷ ls) few o r h =
        by (brought p less n w k c d y (l ∷ ls) known (closed.in_order n c i) step o r) (from_here most shorter (suc n) e rest (omega (arith, lower)) settled there)
      where
        after_it : Known (suc n) y
        after_it = known_after p less n c known y (L.New w n k) (equals n) step

        settled : Known (suc n) e
        settled = known_settled p free less (suc n) y e after_it settles

        go : (ks : List Label) (x : Configuration) (a : Advanced p n x y ks) → P ks x → Still (suc n) (map (renamed_label a.names.to) ks) a.to e × P (map (renamed_label a.names.to) ks) a.to
        go ks x a q = (
          all_still (suc n) y a.to e (map (renamed_label a.names.to) ks) (sorted_after p c y (L.New w n k) (closed.in_order n c i) step) settles a.orders a.leads,
          under a.names ks x a.to (λ q lt. a.keeps q (omega (arith, lt, lower))) a.same q,
        )

        by : Brought p n w k d y (l ∷ ls) → ((d : Configuration) (ls : List Label) → length ls ≤ suc most → in_order (suc n) ls ≡ true → run p e ls ≡ Some d → P ls d → R) → R
        by (Within before behind m is a) again =
            let g = go (before ++ behind) d a (inside_out before (L.New w m k) behind d (is_free m) (subst (λ (ks : List Label). P ks d) is h)) in
            let same = length-map (before ++ behind) (renamed_label a.names.to) in
            let short = g.0.shorter in
            let long = longer before behind (L.New w m k) in
            let all = ap length is in
            shorter (suc n) e g.0.to g.0.labels (omega (arith, same, short, long, all, few)) (omega (arith, lower)) settled there g.0.orders g.0.leads (g.0.holds g.1)
        by (Behind m z t a) again =
            let g = go (l ∷ ls) z a (comes_after (L.New w m k) (l ∷ ls) d z (is_free m) t h) in
            let same = length-map (l ∷ ls) (renamed_label a.names.to) in
            let short = g.0.shorter in
            again g.0.to g.0.labels (omega (arith, same, short, few)) g.0.orders g.0.leads (g.0.holds g.1)
    from_here most shorter n c (F.Every leads) lower known i d (l ∷ ls) few o r h =
        let f = first_of p c d l ls r in
        onward most n c f.next d l ls shorter (omega arith) lower known i (leads l) (first (names_next n l) (in_order (after n l) ls) o) f.step (second (names_next n l) (in_order (after n l) ls) o) f.rest
        (λ g. left_out l ls d g h)
    from_here most shorter n c (F.Chosen chosen stubborn leads y e step settles there rest) lower known i d (l ∷ ls) few o r h =
        by (split chosen (l ∷ ls)) (from_here most shorter n e rest lower settled there)
      where
        settled : Known n e
        settled =
            let named = same_next n stubborn.one (stubborn.makes_none stubborn.one stubborn.is_chosen) in
            known_settled p free less n y e (subst (λ (m : ℕ). Known m y) named.0 (known_after p less n c known y stubborn.one named.1 step)) settles

        by : (are_others chosen (l ∷ ls) ≡ true) ⊎ Split chosen (l ∷ ls)
            → ((d : Configuration) (ls : List Label) → length ls ≤ suc most → in_order n ls ≡ true → run p e ls ≡ Some d → P ls d → R) → R
        by (inl others) again =
            let x = stubborn.stays (l ∷ ls) d others o r in
            let f = stubborn.first (l ∷ ls) d x.0 stubborn.one others o r stubborn.is_chosen x.1 in
            let is : f.0 ≡ y = same_some (sym f.1 ∙ step) in
            let named = same_next n stubborn.one (stubborn.makes_none stubborn.one stubborn.is_chosen) in
            let is_free = (leads stubborn.one stubborn.is_chosen y named.1 step).0 in
            let w = all_still n y x.0 e (l ∷ ls) (sorted_after p c y stubborn.one (closed.in_order n c i) step) settles o (subst (λ z. run p z (l ∷ ls) ≡ Some x.0) is f.2) in
            let short = w.shorter in
            again w.to w.labels (omega arith) w.orders w.leads (w.holds (comes_after stubborn.one (l ∷ ls) d x.0 is_free x.1 h))
        by (inr s) again =
            let makes = stubborn.makes_none s.one s.is_chosen in
            let a = around p n c d s.before s.one s.behind makes (ap (in_order n) (sym s.is) ∙ o) (ap (run p c) (sym s.is) ∙ r) in
            let f = stubborn.first s.before a.here a.there s.one s.others a.orders a.leads s.is_chosen a.step in
            let next = same_next n s.one makes in
            let long = longer s.before s.behind s.one in
            let same = ap length s.is in
            onward most n c f.0 d s.one (s.before ++ s.behind) shorter (omega arith) lower known i (leads s.one s.is_chosen) next.1 f.1
            (ap (λ m. in_order m (s.before ++ s.behind)) next.0 ∙ a.all) (joined p f.0 a.there d s.before s.behind f.2 a.goes_on)
            (λ g. inside_out s.before s.one s.behind d g (subst (λ k. P k d) s.is h))

    pub tells : (most : ℕ) → Tells most
    tells zero n c d [] few lower known i o r h = let is : c ≡ d = same_some r in found n c i (subst (P []) (sym is) h)
    tells zero n c d (l ∷ ls) few lower known i o r h = absurd (omega arith)
    tells (suc most) n c d ls few lower known i o r h = from_here most (tells most) n c (closed.in_the_end n c i) lower known i d ls few o r h

-- If each label that stays possible leads to a later place, no label is put off for ever. A creation raises the next
-- name, which is at most top.
module _ (p : ProgramTree) (free : Label → Bool) (es : List (ℕ × Configuration)) (At : ℕ → ℕ → Configuration → Type 0) (most top : ℕ)
    (within : (i n : ℕ) (c : Configuration) → At i n c → (i ≤ most) × (n ≤ top)) (inside : (i n : ℕ) (c : Configuration) → At i n c → IsIn n c es)
    (tried : (i n : ℕ) (c : Configuration) → At i n c → IsTriedAt p free es At i n c) where
  -- of all configurations whose next name is greater
  abbrev Above : ℕ → Type 0
  Above n = (j : ℕ) (e : Configuration) → At j (suc n) e → IsTriedInTheEnd p free es (suc n) e

  at_name : (n : ℕ) → Above n → (left i : ℕ) (c : Configuration) → most ≤ i + left → At i n c → IsTriedInTheEnd p free es n c
  at_name n above zero i c far at = by (tried i n c at)
    where
      by : IsTriedAt p free es At i n c → IsTriedInTheEnd p free es n c
      by (A.AllThere leads) = F.Every leads
      by (A.SomeThere chosen stubborn leads d e step settles j later there) = absurd (let low = (within j n e there).0 in omega arith)
      by (A.CreatedThere o k is_free d e step settles j there) = F.Created o k is_free d e step settles (inside j (suc n) e there) (above j e there)
  at_name n above (suc left) i c far at = by (tried i n c at) (at_name n above left)
    where
      by : IsTriedAt p free es At i n c → ((i : ℕ) (c : Configuration) → most ≤ i + left → At i n c → IsTriedInTheEnd p free es n c) → IsTriedInTheEnd p free es n c
      by (A.AllThere leads) again = F.Every leads
      by (A.SomeThere chosen stubborn leads d e step settles j later there) again =
          F.Chosen chosen stubborn leads d e step settles (inside j n e there) (again j e (omega arith) there)
      by (A.CreatedThere o k is_free d e step settles j there) again = F.Created o k is_free d e step settles (inside j (suc n) e there) (above j e there)

  to_the_end : (names i n : ℕ) (c : Configuration) → top ≤ n + names → At i n c → IsTriedInTheEnd p free es n c
  to_the_end zero i n c far at = at_name n (λ j e there. absurd (let low = (within j (suc n) e there).1 in omega arith)) most i c (omega arith) at
  to_the_end (suc names) i n c far at = at_name n (λ j e there. to_the_end names j (suc n) e (omega arith) there) most i c (omega arith) at

  pub in_the_end_by_places : (i n : ℕ) (c : Configuration) → At i n c → IsTriedInTheEnd p free es n c
  in_the_end_by_places i n c at = to_the_end top i n c (omega arith) at
