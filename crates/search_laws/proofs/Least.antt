-- If each label that is tried keeps a lower bound, no run to an end falls below it.
use Rattle.std.proofs.Common.{◌≡◌, ◌≢◌, ◌≤◌, ◌⊎◌, inl, inr, refl, sym, ap, ◌∙◌, subst, ℕ, zero, suc, List, [], ◌∷◌, ◌++◌, ◌+◌, length, map, Option, Some, None, Bool, true, arith}
use Rattle.run_types.proofs.Laws.{first, second, same_some}
use Rattle.run_types.specs.declared.types.Label.{Label}
use Rattle.run_types.specs.Partial.{◌>>=◌}
use Rattle.pool_syntax.specs.Terms.{ProgramTree, ClassTree}
use Rattle.pool_relation.specs.Configuration.{Configuration}
use Rattle.pool_relation.specs.Transition.{transition, run, last_class, start}
use Rattle.reachability.specs.Search.{IsAtEnd, IsInOrder, after, names_next, in_order}
use Rattle.search_laws.specs.Renamed.{Renaming, renamed_program, renamed_label, IsRenamed, IsNameless}
use Rattle.search_laws.specs.Stubborn.{are_others}
use Rattle.search_laws.specs.StubbornSets.{IsStubborn}
use Rattle.search_laws.specs.Monitors.{Watched, IsWatched}
use Rattle.search_laws.specs.Bounded as B
use Rattle.search_laws.specs.Bounded.{costs, IsOfKinds, SettlesIn, SettlesAbove, LeadsAbove, IsRaised, IsWholeAbove}
use Rattle.search_laws.proofs.RenamedTransition.{Alike, Neither, Both}
use Rattle.search_laws.proofs.RenamedRun.{run_renamed}
use Rattle.search_laws.proofs.NamesInOrder.{swap_first, swapped, same_all, arranged}
use Rattle.search_laws.proofs.SearchCompleteness.{lone, below_start, lone_renamed, at_end_kept}
use Rattle.search_laws.proofs.ReducedSearch.{stays, both_hold, First, first_of, joined_step}
use Rattle.search_laws.proofs.Commutation.{Alone, alone_makes_none, same_label, commutes}
use Rattle.search_laws.proofs.ChoiceFreeRuns.{sorted_after, start_sorted}
use Rattle.search_laws.proofs.Splits.{same_next, Split, split, around, joined, longer}
use Rattle.search_laws.proofs.Bounded.{dearer, same_costs}

module _ (p : ProgramTree) (cost : Label → ℕ) where
  -- a run from e to the end d, without transitions that cost so much together
  record Rest (n paid : ℕ) (ls : List Label) (e d : Configuration) : Type 0 where
    labels : List Label
    shorter : length labels ≤ length ls
    orders : in_order n labels ≡ true
    leads : run p e labels ≡ Some d
    price : costs cost ls ≡ paid + costs cost labels

  rest_of : (n : ℕ) (c d e : Configuration) (k : Label) (ls : List Label) → Alone p c k → transition p c k ≡ Some e → in_order n ls ≡ true → run p c ls ≡ Some d → IsAtEnd p d → Rest n (cost k) ls e d
  rest_of n c d e k [] a i o r ended =
      let is : c ≡ d = same_some r in
      absurd (let none : transition p c k ≡ None = subst (λ x. transition p x k ≡ None) (sym is) (ended k) in let z : Some e ≡ None = sym i ∙ none in cc)
  rest_of n c d e k (l ∷ ls) a i o r ended =
      by (first_of p c d l ls r) (same_label p c k a l) (λ c' e' a' i' r'. rest_of (after n l) c' d e' k ls a' i' (second (names_next n l) (in_order (after n l) ls) o) r' ended)
    where
      by : First p c d l ls → (l ≡ k) ⊎ (l ≢ k)
          → ((c' e' : Configuration) → Alone p c' k → transition p c' k ≡ Some e' → run p c' ls ≡ Some d → Rest (after n l) (cost k) ls e' d) → Rest n (cost k) (l ∷ ls) e d
      by f (inl q) rest =
          let made : Some f.next ≡ Some e = sym f.step ∙ ap (transition p c) q ∙ i in
          let is : f.next ≡ e = same_some made in
          let still : after n l ≡ n = ap (after n) q ∙ stays n k (alone_makes_none p c k a) in
          record {
            labels = ls;
            shorter = omega arith;
            orders = ap (λ m. in_order m ls) (sym still) ∙ second (names_next n l) (in_order (after n l) ls) o;
            leads = subst (λ x. run p x ls ≡ Some d) is f.rest;
            price = ap (λ x. x + costs cost ls) (ap cost q);
          }
      by f (inr q) rest =
          let both = commutes p c f.next e k l a i f.step q in
          let w = rest f.next both.1.0 both.0 both.1.1 f.rest in
          let few = w.shorter in
          let same = w.price in
          record {
            labels = l ∷ w.labels;
            shorter = omega arith;
            orders = both_hold _ _ (first (names_next n l) (in_order (after n l) ls) o) w.orders;
            leads = joined_step p e both.1.0 d l w.labels both.1.2 w.leads;
            price = omega arith;
          }

  all_rest : (n k v : ℕ) (c d f : Configuration) (ls : List Label) → IsInOrder c → SettlesIn p cost k v c f → in_order n ls ≡ true → run p c ls ≡ Some d → IsAtEnd p d → Rest n v ls f d
  all_rest n k v c d f ls i B.InNone o r ended = record { labels = ls; shorter = omega arith; orders = o; leads = r; price = omega arith }
  all_rest n k v c d f ls i (B.InMore {k = j} {v = u} {d = e} l kind step rest) o r ended =
      let w = rest_of n c d e l ls (record { kind = kind; sorted = i }) step o r ended in
      let t = all_rest n j u e d f w.labels (sorted_after p c e l i step) rest w.orders w.leads ended in
      let one = w.shorter in
      let two = t.shorter in
      let three = w.price in
      let four = t.price in
      record { labels = t.labels; shorter = omega arith; orders = t.orders; leads = t.leads; price = omega arith }

  module _ (es : List (Watched ℕ)) (in_list : (n v : ℕ) (c : Configuration) → IsWatched ℕ n v c es → IsInOrder c) (raised : (n v : ℕ) (c : Configuration) → IsWatched ℕ n v c es → IsRaised p cost es n v c)
      (at_ends : (n v : ℕ) (c : Configuration) → IsWatched ℕ n v c es → IsAtEnd p c → v ≡ 0) (d : Configuration) (ended : IsAtEnd p d) where
    -- no run of at most that many labels from the list to the end d falls below the bound
    abbrev AtLeast : ℕ → Type 0
    AtLeast most = (n v : ℕ) (c : Configuration) (ls : List Label) → length ls ≤ most → IsWatched ℕ n v c es → in_order n ls ≡ true → run p c ls ≡ Some d → v ≤ costs cost ls

    settled : (most n v : ℕ) (c : Configuration) (ls : List Label) → AtLeast most → length ls ≤ most → IsInOrder c → SettlesAbove p cost es n v c → in_order n ls ≡ true → run p c ls ≡ Some d → v ≤ costs cost ls
    settled most n v c ls shorter few i s o r =
        let w = all_rest n s.steps s.paid c d s.to ls i s.settles o r ended in
        let short = w.shorter in
        let t = shorter n s.owed s.to w.labels (omega arith) s.is_in w.orders w.leads in
        let same = w.price in
        let more = s.dearer in
        omega arith

    onward : (most n v : ℕ) (c y : Configuration) (l : Label) (ls : List Label) → AtLeast most → length ls ≤ most → IsInOrder c → LeadsAbove p cost es n v c l → names_next n l ≡ true → transition p c l ≡ Some y
        → in_order (after n l) ls ≡ true → run p y ls ≡ Some d → v ≤ costs cost (l ∷ ls)
    onward most n v c y l ls shorter few i leads named step o r =
        let s = leads y named step in
        let more = s.1 in
        let t = settled most (after n l) s.0 y ls shorter few (sorted_after p c y l i step) s.2 o r in
        omega arith

    at_least : (most : ℕ) → AtLeast most
    at_least most n v c [] few i o r =
        let is : c ≡ d = same_some r in
        let none = at_ends n v c i (subst (IsAtEnd p) (sym is) ended) in
        omega arith
    at_least zero n v c (l ∷ ls) few i o r = absurd (omega arith)
    at_least (suc most) n v c (l ∷ ls) few i o r = by (raised n v c i) (at_least most)
      where
        chosen_first : AtLeast most → (chosen : Label → Bool) → IsStubborn p n c chosen → ((l : Label) → chosen l ≡ true → LeadsAbove p cost es n v c l) → (are_others chosen (l ∷ ls) ≡ true) ⊎ Split chosen (l ∷ ls)
            → v ≤ costs cost (l ∷ ls)
        chosen_first shorter chosen stubborn leads (inl none) =
            let x = stubborn.stays (l ∷ ls) d none o r in
            absurd (let z : None ≡ Some x.0 = sym (ended stubborn.one) ∙ x.1 in cc)
        chosen_first shorter chosen stubborn leads (inr s) =
            let makes = stubborn.makes_none s.one s.is_chosen in
            let a = around p n c d s.before s.one s.behind makes (ap (in_order n) (sym s.is) ∙ o) (ap (run p c) (sym s.is) ∙ r) in
            let f = stubborn.first s.before a.here a.there s.one s.others a.orders a.leads s.is_chosen a.step in
            let next = same_next n s.one makes in
            let long = longer s.before s.behind s.one in
            let dear = dearer cost s.before s.behind s.one in
            let size = ap length s.is in
            let price = ap (costs cost) s.is in
            let t = onward most n v c f.0 s.one (s.before ++ s.behind) shorter (omega arith) (in_list n v c i) (leads s.one s.is_chosen) next.1 f.1
            (ap (λ m. in_order m (s.before ++ s.behind)) next.0 ∙ a.all) (joined p f.0 a.there d s.before s.behind f.2 a.goes_on) in
            omega arith

        by : IsRaised p cost es n v c → AtLeast most → v ≤ costs cost (l ∷ ls)
        by (B.EachRaises leads) shorter =
            let f = first_of p c d l ls r in
            onward most n v c f.next l ls shorter (omega arith) (in_list n v c i) (leads l) (first (names_next n l) (in_order (after n l) ls) o) f.step (second (names_next n l) (in_order (after n l) ls) o) f.rest
        by (B.SomeRaise chosen stubborn leads) shorter = chosen_first shorter chosen stubborn leads (split chosen (l ∷ ls))

    pub from_here : (n v : ℕ) (c : Configuration) (ls : List Label) → IsInOrder c → SettlesAbove p cost es n v c → in_order n ls ≡ true → run p c ls ≡ Some d → v ≤ costs cost ls
    from_here n v c ls i s o r = settled (length ls) n v c ls (at_least (length ls)) (omega arith) i s o r

-- no run to an end is cheaper than the bound of the list, whatever the names
pub no_end_is_cheaper : (p : ProgramTree) (cost : Label → ℕ) (es : List (Watched ℕ)) (v : ℕ) → IsNameless p → IsOfKinds cost → IsWholeAbove p cost es v
    → (root : ℕ) (c d : Configuration) (ls : List Label) → start p root ≡ Some c → run p c ls ≡ Some d → IsAtEnd p d → v ≤ costs cost ls
no_end_is_cheaper p cost es v less kinds whole root c d ls starts leads ended = by (last_class p) refl starts
  where
    go : (x : ClassTree) → last_class p ≡ Some x → run p (lone root x) ls ≡ Some d → v ≤ costs cost ls
    go x e r =
        let a = arranged p (lone root x) d ls 1 (swapped same_all root 0) (below_start x root) r in
        let z : (swapped same_all root 0).to root ≡ 0 = swap_first root 0 in
        let first : a.names.to root ≡ 0 = a.keeps root (omega arith) ∙ z in
        let alike = run_renamed a.names p (lone root x) (lone 0 x) ls (lone_renamed a.names p x root less e first) in
        let starts : start p 0 ≡ Some (lone 0 x) = ap (λ o. o >>= λ c. Some (lone 0 c)) e in
        there a.names a.orders starts (run p (lone root x) ls) r (run (renamed_program a.names.to p) (lone 0 x) (map (renamed_label a.names.to) ls)) refl alike
      where
        there : (g : Renaming) → in_order 1 (map (renamed_label g.to) ls) ≡ true → start p 0 ≡ Some (lone 0 x) → (u : Option Configuration) → u ≡ Some d → (y : Option Configuration)
            → run (renamed_program g.to p) (lone 0 x) (map (renamed_label g.to) ls) ≡ y → Alike g.to u y → v ≤ costs cost ls
        there g orders starts u i y j Neither = absurd (cc)
        there g orders starts u i y j (Both {c = b} {d = e} same) =
            let is : b ≡ d = cc in
            let named : IsRenamed g.to d e = subst (λ (y : Configuration). IsRenamed g.to y e) is same in
            let t = from_here p cost es whole.in_order whole.raised whole.ends e (at_end_kept g p d e less named ended) 1 v (lone 0 x) (map (renamed_label g.to) ls) (start_sorted p (lone 0 x) starts)
            (whole.begins (lone 0 x) starts) orders (ap (λ q. run q (lone 0 x) (map (renamed_label g.to) ls)) (sym (less g.to)) ∙ j) in
            let price = same_costs cost kinds g.to ls in
            omega arith

    by : (o : Option ClassTree) → last_class p ≡ o → (o >>= λ k. Some (lone root k)) ≡ Some c → v ≤ costs cost ls
    by None i s = absurd (cc)
    by (Some x) i s =
        let is : lone root x ≡ c = cc in
        go x i (ap (λ y. run p y ls) is ∙ leads)
