-- If each label that is tried leads to lower bounds, no run exceeds them. It does not matter which labels are put off.
use Rattle.std.proofs.Common.{◌≡◌, ◌≢◌, ◌≤◌, ◌⊎◌, inl, inr, refl, sym, ap, ◌∙◌, subst, ℕ, zero, suc, List, [], ◌∷◌, ◌++◌, ◌+◌, length, map, Option, Some, None, true, arith}
use Rattle.run_types.proofs.Laws.{first, second, same_some}
use Rattle.run_types.specs.declared.types.Label.{Label}
use Rattle.run_types.specs.Partial.{◌>>=◌}
use Rattle.pool_syntax.specs.Terms.{ProgramTree, ClassTree}
use Rattle.pool_relation.specs.Configuration.{Configuration}
use Rattle.pool_relation.specs.Transition.{transition, run, last_class, start}
use Rattle.reachability.specs.Search.{IsInOrder, after, names_next, in_order}
use Rattle.search_laws.specs.Renamed.{Renaming, renamed_program, renamed_label, IsNameless}
use Rattle.search_laws.specs.Stubborn.{are_others}
use Rattle.search_laws.specs.Bounded as B
use Rattle.search_laws.specs.Bounded.{costs, IsOfKinds, SettlesIn, Bounded, IsBounded, SettlesLower, LeadsLower, IsLowered, IsWholeBounded}
use Rattle.search_laws.proofs.RenamedTransition.{Alike, Neither, Both}
use Rattle.search_laws.proofs.RenamedRun.{run_renamed}
use Rattle.search_laws.proofs.NamesInOrder.{swap_first, swapped, same_all, arranged}
use Rattle.search_laws.proofs.SearchCompleteness.{lone, below_start, lone_renamed}
use Rattle.search_laws.proofs.ReducedSearch.{stays, both_hold, First, first_of, joined_step}
use Rattle.search_laws.proofs.Commutation.{Alone, alone_makes_none, same_label, commutes}
use Rattle.search_laws.proofs.ChoiceFreeRuns.{sorted_after, start_sorted}
use Rattle.search_laws.proofs.Splits.{same_next, Split, split, around, joined, longer}

pub dearer : (cost : Label → ℕ) (ls ks : List Label) (l : Label) → costs cost (ls ++ l ∷ ks) ≡ cost l + costs cost (ls ++ ks)
dearer cost [] ks l = refl
dearer cost (k ∷ ls) ks l = let rest = dearer cost ls ks l in let all : cost k + costs cost (ls ++ l ∷ ks) ≡ cost l + (cost k + costs cost (ls ++ ks)) = omega arith in all

same_length : (f : ℕ → ℕ) (ls : List Label) → length (map (renamed_label f) ls) ≡ length ls
same_length f [] = refl
same_length f (l ∷ ls) = ap suc (same_length f ls)

pub same_costs : (cost : Label → ℕ) → IsOfKinds cost → (f : ℕ → ℕ) (ls : List Label) → costs cost (map (renamed_label f) ls) ≡ costs cost ls
same_costs cost kinds f [] = refl
same_costs cost kinds f (l ∷ ls) = let one = kinds f l in let rest = same_costs cost kinds f ls in omega arith

module _ (p : ProgramTree) (cost : Label → ℕ) where
  -- a run from e that is at most so much shorter and cheaper
  record Less (n few cheap : ℕ) (ls : List Label) (e : Configuration) : Type 0 where
    labels : List Label
    orders : in_order n labels ≡ true
    to : Configuration
    leads : run p e labels ≡ Some to
    shorter : length ls ≤ few + length labels
    cheaper : costs cost ls ≤ cheap + costs cost labels

  less : (n : ℕ) (c d e : Configuration) (k : Label) (ls : List Label) → Alone p c k → transition p c k ≡ Some e → in_order n ls ≡ true → run p c ls ≡ Some d → Less n 1 (cost k) ls e
  less n c d e k [] a i s r = record { labels = []; orders = refl; to = e; leads = refl; shorter = omega arith; cheaper = omega arith }
  less n c d e k (l ∷ ls) a i s r =
      by (first_of p c d l ls r) (same_label p c k a l) (λ c' e' a' i' r'. less (after n l) c' d e' k ls a' i' (second (names_next n l) (in_order (after n l) ls) s) r')
    where
      by : First p c d l ls → (l ≡ k) ⊎ (l ≢ k)
          → ((c' e' : Configuration) → Alone p c' k → transition p c' k ≡ Some e' → run p c' ls ≡ Some d → Less (after n l) 1 (cost k) ls e') → Less n 1 (cost k) (l ∷ ls) e
      by f (inl g) rest =
          let made : Some f.next ≡ Some e = sym f.step ∙ ap (transition p c) g ∙ i in
          let is : f.next ≡ e = same_some made in
          let still : after n l ≡ n = ap (after n) g ∙ stays n k (alone_makes_none p c k a) in
          let price : cost l ≡ cost k = ap cost g in
          record {
            labels = ls;
            orders = ap (λ m. in_order m ls) (sym still) ∙ second (names_next n l) (in_order (after n l) ls) s;
            to = d;
            leads = subst (λ x. run p x ls ≡ Some d) is f.rest;
            shorter = omega arith;
            cheaper = omega arith;
          }
      by f (inr g) rest =
          let both = commutes p c f.next e k l a i f.step g in
          let w = rest f.next both.1.0 both.0 both.1.1 f.rest in
          let few = w.shorter in
          let cheap = w.cheaper in
          record {
            labels = l ∷ w.labels;
            orders = both_hold _ _ (first (names_next n l) (in_order (after n l) ls) s) w.orders;
            to = w.to;
            leads = joined_step p e both.1.0 w.to l w.labels both.1.2 w.leads;
            shorter = omega arith;
            cheaper = omega arith;
          }

  all_less : (n k v : ℕ) (c d f : Configuration) (ls : List Label) → IsInOrder c → SettlesIn p cost k v c f → in_order n ls ≡ true → run p c ls ≡ Some d → Less n k v ls f
  all_less n k v c d f ls i B.InNone s r = record { labels = ls; orders = s; to = d; leads = r; shorter = omega arith; cheaper = omega arith }
  all_less n k v c d f ls i (B.InMore {k = j} {v = u} {d = e} l kind step rest) s r =
      let w = less n c d e l ls (record { kind = kind; sorted = i }) step s r in
      let t = all_less n j u e w.to f w.labels (sorted_after p c e l i step) rest w.orders w.leads in
      let one = w.shorter in
      let two = t.shorter in
      let three = w.cheaper in
      let four = t.cheaper in
      record { labels = t.labels; orders = t.orders; to = t.to; leads = t.leads; shorter = omega arith; cheaper = omega arith }

  module _ (es : List Bounded) (in_list : (n k v : ℕ) (c : Configuration) → IsBounded n k v c es → IsInOrder c) (lowered : (n k v : ℕ) (c : Configuration) → IsBounded n k v c es → IsLowered p cost es n k v c) where
    abbrev AtMost : ℕ → ℕ → List Label → Type 0
    AtMost k v ls = (length ls ≤ k) × (costs cost ls ≤ v)

    -- no run from a configuration of the list with at most this bound exceeds its bounds
    abbrev Within : ℕ → Type 0
    Within most = (n k v : ℕ) (c d : Configuration) (ls : List Label) → k ≤ most → IsBounded n k v c es → in_order n ls ≡ true → run p c ls ≡ Some d → AtMost k v ls

    settled : (most n k v : ℕ) (c d : Configuration) (ls : List Label) → Within most → IsInOrder c → k ≤ most → SettlesLower p cost es n k v c → in_order n ls ≡ true → run p c ls ≡ Some d → AtMost k v ls
    settled most n k v c d ls lower i few s o r =
        let w = all_less n s.steps s.paid c d s.to ls i s.settles o r in
        let one = s.shorter in
        let two = s.cheaper in
        let t = lower n s.left s.owed s.to w.to w.labels (omega arith) s.is_in w.orders w.leads in
        let three = w.shorter in
        let four = w.cheaper in
        let five = t.0 in
        let six = t.1 in
        (omega arith, omega arith)

    onward : (most n k v : ℕ) (c y d : Configuration) (l : Label) (ls : List Label) → Within most → k ≤ suc most → IsInOrder c → LeadsLower p cost es n k v c l → names_next n l ≡ true → transition p c l ≡ Some y
        → in_order (after n l) ls ≡ true → run p y ls ≡ Some d → AtMost k v (l ∷ ls)
    onward most n k v c y d l ls lower few i leads named step o r =
        let s = leads y named step in
        let one = s.2 in
        let two = s.3 in
        let t = settled most (after n l) s.0 s.1 y d ls lower (sorted_after p c y l i step) (omega arith) s.4 o r in
        let three = t.0 in
        let four = t.1 in
        (omega arith, omega arith)

    by_lower : (most n k v : ℕ) (c d : Configuration) (ls : List Label) → Within most → k ≤ suc most → IsInOrder c → IsLowered p cost es n k v c → in_order n ls ≡ true → run p c ls ≡ Some d → AtMost k v ls
    by_lower most n k v c d [] lower few i h o r = (omega arith, omega arith)
    by_lower most n k v c d (l ∷ ls) lower few i (B.EachLowers leads) o r =
        let f = first_of p c d l ls r in
        onward most n k v c f.next d l ls lower few i (leads l) (first (names_next n l) (in_order (after n l) ls) o) f.step (second (names_next n l) (in_order (after n l) ls) o) f.rest
    by_lower most n k v c d (l ∷ ls) lower few i (B.SomeLower chosen stubborn leads) o r = by (split chosen (l ∷ ls))
      where
        by : (are_others chosen (l ∷ ls) ≡ true) ⊎ Split chosen (l ∷ ls) → AtMost k v (l ∷ ls)
        by (inl others) =
            let x = stubborn.stays (l ∷ ls) d others o r in
            let f = stubborn.first (l ∷ ls) d x.0 stubborn.one others o r stubborn.is_chosen x.1 in
            let next = same_next n stubborn.one (stubborn.makes_none stubborn.one stubborn.is_chosen) in
            let t = onward most n k v c f.0 x.0 stubborn.one (l ∷ ls) lower few i (leads stubborn.one stubborn.is_chosen) next.1 f.1 (ap (λ m. in_order m (l ∷ ls)) next.0 ∙ o) f.2 in
            let one = t.0 in
            let two = t.1 in
            (omega arith, omega arith)
        by (inr s) =
            let makes = stubborn.makes_none s.one s.is_chosen in
            let a = around p n c d s.before s.one s.behind makes (ap (in_order n) (sym s.is) ∙ o) (ap (run p c) (sym s.is) ∙ r) in
            let f = stubborn.first s.before a.here a.there s.one s.others a.orders a.leads s.is_chosen a.step in
            let next = same_next n s.one makes in
            let long = longer s.before s.behind s.one in
            let dear = dearer cost s.before s.behind s.one in
            let size = ap length s.is in
            let price = ap (costs cost) s.is in
            let t = onward most n k v c f.0 d s.one (s.before ++ s.behind) lower few i (leads s.one s.is_chosen) next.1 f.1
            (ap (λ m. in_order m (s.before ++ s.behind)) next.0 ∙ a.all) (joined p f.0 a.there d s.before s.behind f.2 a.goes_on) in
            let one = t.0 in
            let two = t.1 in
            (omega arith, omega arith)

    within : (most : ℕ) → Within most
    within zero n k v c d ls few i o r = at_zero ls o r (lowered n k v c i)
      where
        at_zero : (ls : List Label) → in_order n ls ≡ true → run p c ls ≡ Some d → IsLowered p cost es n k v c → AtMost k v ls
        at_zero [] o r h = (omega arith, omega arith)
        at_zero (l ∷ ls) o r (B.EachLowers leads) =
            let f = first_of p c d l ls r in
            let s = leads l f.next (first (names_next n l) (in_order (after n l) ls) o) f.step in
            let one = s.2 in
            absurd (omega arith)
        at_zero (l ∷ ls) o r (B.SomeLower chosen stubborn leads) =
            let x = stubborn.stays [] c refl refl refl in
            let next = same_next n stubborn.one (stubborn.makes_none stubborn.one stubborn.is_chosen) in
            let s = leads stubborn.one stubborn.is_chosen x.0 next.1 x.1 in
            let one = s.2 in
            absurd (omega arith)
    within (suc most) n k v c d ls few i o r = by_lower most n k v c d ls (within most) few (in_list n k v c i) (lowered n k v c i) o r

    pub from_start : (n k v : ℕ) (c d : Configuration) (ls : List Label) → IsInOrder c → SettlesLower p cost es n k v c → in_order n ls ≡ true → run p c ls ≡ Some d → AtMost k v ls
    from_start n k v c d ls i s o r = settled k n k v c d ls (within k) i (omega arith) s o r

-- no run is longer than the bound of the list, whatever the names, or dearer
pub no_run_is_longer : (p : ProgramTree) (cost : Label → ℕ) (es : List Bounded) (k v : ℕ) → IsNameless p → IsOfKinds cost → IsWholeBounded p cost es k v
    → (root : ℕ) (c d : Configuration) (ls : List Label) → start p root ≡ Some c → run p c ls ≡ Some d → (length ls ≤ k) × (costs cost ls ≤ v)
no_run_is_longer p cost es k v less kinds whole root c d ls starts leads = by (last_class p) refl starts
  where
    go : (x : ClassTree) → last_class p ≡ Some x → run p (lone root x) ls ≡ Some d → (length ls ≤ k) × (costs cost ls ≤ v)
    go x e r =
        let a = arranged p (lone root x) d ls 1 (swapped same_all root 0) (below_start x root) r in
        let z : (swapped same_all root 0).to root ≡ 0 = swap_first root 0 in
        let first : a.names.to root ≡ 0 = a.keeps root (omega arith) ∙ z in
        let alike = run_renamed a.names p (lone root x) (lone 0 x) ls (lone_renamed a.names p x root less e first) in
        let starts : start p 0 ≡ Some (lone 0 x) = ap (λ o. o >>= λ c. Some (lone 0 c)) e in
        there a.names a.orders starts (run p (lone root x) ls) r (run (renamed_program a.names.to p) (lone 0 x) (map (renamed_label a.names.to) ls)) refl alike
      where
        there : (g : Renaming) → in_order 1 (map (renamed_label g.to) ls) ≡ true → start p 0 ≡ Some (lone 0 x) → (u : Option Configuration) → u ≡ Some d → (y : Option Configuration)
            → run (renamed_program g.to p) (lone 0 x) (map (renamed_label g.to) ls) ≡ y → Alike g.to u y → (length ls ≤ k) × (costs cost ls ≤ v)
        there g orders starts u i y j Neither = absurd (cc)
        there g orders starts u i y j (Both {d = e} same) =
            let t = from_start p cost es whole.in_order whole.lowered 1 k v (lone 0 x) e (map (renamed_label g.to) ls) (start_sorted p (lone 0 x) starts) (whole.begins (lone 0 x) starts) orders
            (ap (λ q. run q (lone 0 x) (map (renamed_label g.to) ls)) (sym (less g.to)) ∙ j) in
            let size = same_length g.to ls in
            let price = same_costs cost kinds g.to ls in
            let one = t.0 in
            let two = t.1 in
            (omega arith, omega arith)

    by : (o : Option ClassTree) → last_class p ≡ o → (o >>= λ k. Some (lone root k)) ≡ Some c → (length ls ≤ k) × (costs cost ls ≤ v)
    by None i s = absurd (cc)
    by (Some x) i s =
        let is : lone root x ≡ c = cc in
        go x i (ap (λ y. run p y ls) is ∙ leads)
