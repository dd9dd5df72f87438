-- A search that follows transitions without choice, and keeps only the configurations after them, finds every stuck
-- and every unfinished configuration.
use Rattle.std.proofs.Common.{◌≡◌, refl, sym, ap, ◌∙◌, subst, ℕ, List, length, map, Option, Some, None, arith}
use Rattle.pool_syntax.specs.Terms.{ProgramTree, ClassTree}
use Rattle.run_types.specs.Partial.{◌>>=◌}
use Rattle.pool_relation.specs.Configuration.{Configuration}
use Rattle.pool_relation.specs.Transition.{run, last_class, start}
use Rattle.search_laws.specs.Renamed.{Renaming, renamed_program, renamed_label, IsRenamed, IsNameless}
use Rattle.reachability.specs.Search.{IsReached, IsAtEnd, IsStuck, IsUnfinished, IsIn}
use Rattle.search_laws.proofs.RenamedTransition.{Alike, Neither, Both}
use Rattle.search_laws.proofs.RenamedRun.{run_renamed}
use Rattle.search_laws.proofs.NamesInOrder.{swap_first, swapped, same_all, arranged}
use Rattle.search_laws.proofs.SearchCompleteness.{lone, below_start, lone_renamed, stuck_kept, unfinished_kept}
use Rattle.search_laws.proofs.Commutation.{Alone, alone_makes_none, same_label, commutes}
use Rattle.search_laws.proofs.ReducedSearch.{Settles, IsClosedAfter, without_all, ends_are_in}

-- transitions that need no choice, one after another
abbrev pub SettlesAlone : ProgramTree → Configuration → Configuration → Type 0
SettlesAlone p = Settles p (Alone p) (same_label p) (alone_makes_none p) (commutes p)

-- all that a search has to see that follows such transitions
pub record IsClosedOnceSettled (p : ProgramTree) (es : List (ℕ × Configuration)) : Type 0 where
  pub begins : (c : Configuration) → start p 0 ≡ Some c → (f : Configuration) × SettlesAlone p c f × IsIn 1 f es
  pub closed : IsClosedAfter p (Alone p) (same_label p) (alone_makes_none p) (commutes p) es

-- a reached configuration without transition is, under other names, in the list
pub ends_are_seen : (p : ProgramTree) (es : List (ℕ × Configuration)) → IsNameless p → IsClosedOnceSettled p es → (d : Configuration) → IsReached p d
    → ((g : Renaming) (x : Configuration) → IsRenamed g.to d x → IsAtEnd p x)
    → (g : Renaming) × (x : Configuration) × (m : ℕ) × IsRenamed g.to d x × IsIn m x es
ends_are_seen p es less whole d reached ended = by (last_class p) refl reached.starts
  where
    go : (k : ClassTree) → last_class p ≡ Some k → run p (lone reached.root k) reached.labels ≡ Some d
        → (g : Renaming) × (x : Configuration) × (m : ℕ) × IsRenamed g.to d x × IsIn m x es
    go k e r =
        let a = arranged p (lone reached.root k) d reached.labels 1 (swapped same_all reached.root 0) (below_start k reached.root) r in
        let z : (swapped same_all reached.root 0).to reached.root ≡ 0 = swap_first reached.root 0 in
        let first : a.names.to reached.root ≡ 0 = a.keeps reached.root (omega arith) ∙ z in
        let alike = run_renamed a.names p (lone reached.root k) (lone 0 k) reached.labels (lone_renamed a.names p k reached.root less e first) in
        let starts : start p 0 ≡ Some (lone 0 k) = ap (λ o. o >>= λ c. Some (lone 0 c)) e in
        let begins = whole.begins (lone 0 k) starts in
        there a.names (run p (lone reached.root k) reached.labels) r (run (renamed_program a.names.to p) (lone 0 k) (map (renamed_label a.names.to) reached.labels)) alike
        (λ x i h.
        let w = without_all p (Alone p) (same_label p) (alone_makes_none p) (commutes p) 1 (lone 0 k) x begins.0 (map (renamed_label a.names.to) reached.labels) begins.1 a.orders
        (ap (λ q. run q (lone 0 k) (map (renamed_label a.names.to) reached.labels)) (sym (less a.names.to)) ∙ i) h in
        ends_are_in p (Alone p) (same_label p) (alone_makes_none p) (commutes p) es whole.closed (length w.labels) 1 begins.0 x w.labels (omega arith) begins.2 w.orders w.leads h)
      where
        there : (g : Renaming) (u : Option Configuration) → u ≡ Some d → (v : Option Configuration) → Alike g.to u v
            → ((x : Configuration) → v ≡ Some x → IsAtEnd p x → (m : ℕ) × IsIn m x es) → (g : Renaming) × (x : Configuration) × (m : ℕ) × IsRenamed g.to d x × IsIn m x es
        there g u i v Neither inside = absurd (cc)
        there g u i v (Both {c = c} {d = x} same) inside =
            let is : c ≡ d = cc in
            let named : IsRenamed g.to d x = subst (λ (y : Configuration). IsRenamed g.to y x) is same in
            let here = inside x refl (ended g x named) in
            (g, x, here.0, named, here.1)

    by : (o : Option ClassTree) → last_class p ≡ o → (o >>= λ k. Some (lone reached.root k)) ≡ Some reached.first
        → (g : Renaming) × (x : Configuration) × (m : ℕ) × IsRenamed g.to d x × IsIn m x es
    by None i s = absurd (cc)
    by (Some k) i s =
        let is : lone reached.root k ≡ reached.first = cc in
        go k i (ap (λ c. run p c reached.labels) is ∙ reached.leads)

-- where no configuration of the list is stuck, or unfinished, no run whatever leads to such a one
pub never_stuck_after : (p : ProgramTree) (es : List (ℕ × Configuration)) → IsNameless p → IsClosedOnceSettled p es → ((n : ℕ) (c : Configuration) → IsIn n c es → ¬ (IsStuck p c))
    → (d : Configuration) → IsReached p d → ¬ (IsStuck p d)
never_stuck_after p es less whole none d reached stuck =
    let s = ends_are_seen p es less whole d reached (λ g x named. (stuck_kept g p d x less named stuck).at_end) in
    none s.2 s.1 s.4 (stuck_kept s.0 p d s.1 less s.3 stuck)

pub never_unfinished_after : (p : ProgramTree) (es : List (ℕ × Configuration)) → IsNameless p → IsClosedOnceSettled p es → ((n : ℕ) (c : Configuration) → IsIn n c es → ¬ (IsUnfinished p c))
    → (d : Configuration) → IsReached p d → ¬ (IsUnfinished p d)
never_unfinished_after p es less whole none d reached unfinished =
    let s = ends_are_seen p es less whole d reached (λ g x named. (unfinished_kept g p d x less named unfinished).at_end) in
    none s.2 s.1 s.4 (unfinished_kept s.0 p d s.1 less s.3 unfinished)
