-- Let a property be kept by each step that needs no choice, and let a run lead to it. Then a search that follows such
-- steps to their ends finds the property.
use Rattle.std.proofs.Common.{◌≡◌, ◌≢◌, ◌≤◌, ◌⊎◌, inl, inr, refl, sym, ap, ◌∙◌, subst, ℕ, zero, suc, List, [], ◌∷◌, length, map, Option, Some, None, true, arith}
use Rattle.run_types.specs.declared.types.Label.{Label}
use Rattle.pool_syntax.specs.Terms.{ProgramTree, ClassTree}
use Rattle.run_types.specs.Partial.{◌>>=◌}
use Rattle.pool_relation.specs.Configuration.{Configuration}
use Rattle.pool_relation.specs.Transition.{transition, run, last_class, start}
use Rattle.search_laws.specs.Renamed.{Renaming, renamed_program, renamed_label, IsRenamed, IsNameless}
use Rattle.reachability.specs.Search.{IsReached, needs_no_choice, IsFaulty, after, names_next, in_order, IsIn}
use Rattle.search_laws.specs.ClosedLists.{IsClosedAfterSettling}
use Rattle.search_laws.proofs.RenamedTransition.{Alike, Neither, Both}
use Rattle.search_laws.proofs.RenamedRun.{run_renamed, makes_none}
use Rattle.search_laws.proofs.NamesInOrder.{swap_first, swapped, same_all, arranged}
use Rattle.search_laws.proofs.SearchCompleteness.{lone, below_start, lone_renamed, fault_kept}
use Rattle.search_laws.proofs.ReducedSearch.{stays, both_hold, First, first_of, joined_step, Settles, Settled, Goes}
use Rattle.run_types.proofs.Laws.{second, first as first_holds}
use Rattle.search_laws.proofs.Commutation.{Alone, alone_makes_none, same_label, commutes}
use Rattle.search_laws.proofs.Faults.{fault_stays}
use Rattle.search_laws.specs.Dead.{HasDead}
use Rattle.search_laws.proofs.Dead.{still_has_dead, dead_kept}
use Rattle.search_laws.proofs.ChoiceFreeRuns.{settles, start_sorted, sorted_after}

module _ (p : ProgramTree) (Alone : Configuration → Label → Type 0)
    (same : (c : Configuration) (k : Label) → Alone c k → (l : Label) → (l ≡ k) ⊎ (l ≢ k))
    (none_made : (c : Configuration) (k : Label) → Alone c k → makes_none k ≡ true)
    (commutes : (c d e : Configuration) (k l : Label) → Alone c k → transition p c k ≡ Some e → transition p c l ≡ Some d → l ≢ k
    → Alone d k × ((x : Configuration) × (transition p d k ≡ Some x) × (transition p e l ≡ Some x)))
    (Q : Configuration → Type 0)
    (kept : (c e : Configuration) (k : Label) → Alone c k → transition p c k ≡ Some e → Q c → Q e) where
  -- a run to where Q holds
  record Leads (n most : ℕ) (e : Configuration) : Type 0 where
    labels : List Label
    shorter : length labels ≤ most
    orders : in_order n labels ≡ true
    to : Configuration
    leads : run p e labels ≡ Some to
    holds : Q to

  still_leads : (n : ℕ) (c d e : Configuration) (k : Label) (ls : List Label) → Alone c k → transition p c k ≡ Some e → in_order n ls ≡ true → run p c ls ≡ Some d → Q d
      → Leads n (length ls) e
  still_leads n c d e k [] a i o r q =
      let is : c ≡ d = cc in
      record { labels = []; shorter = omega arith; orders = refl; to = e; leads = refl; holds = kept c e k a i (subst Q (sym is) q) }
  still_leads n c d e k (l ∷ ls) a i o r q = by (first_of p c d l ls r) (same c k a l) (λ c' e' a' i' r'. still_leads (after n l) c' d e' k ls a' i' (second (names_next n l) (in_order (after n l) ls) o) r' q)
    where
      by : First p c d l ls → (l ≡ k) ⊎ (l ≢ k)
          → ((c' e' : Configuration) → Alone c' k → transition p c' k ≡ Some e' → run p c' ls ≡ Some d → Leads (after n l) (length ls) e')
          → Leads n (length (l ∷ ls)) e
      by f (inl g) rest =
          let made : Some f.next ≡ Some e = sym f.step ∙ ap (transition p c) g ∙ i in
          let is : f.next ≡ e = cc in
          let still : after n l ≡ n = ap (after n) g ∙ stays n k (none_made c k a) in
          record {
            labels = ls;
            shorter = omega arith;
            orders = ap (λ m. in_order m ls) (sym still) ∙ second (names_next n l) (in_order (after n l) ls) o;
            to = d;
            leads = subst (λ x. run p x ls ≡ Some d) is f.rest;
            holds = q;
          }
      by f (inr g) rest =
          let both = commutes c f.next e k l a i f.step g in
          let w = rest f.next both.1.0 both.0 both.1.1 f.rest in
          let few = w.shorter in
          record {
            labels = l ∷ w.labels;
            shorter = omega arith;
            orders = both_hold _ _ (first_holds (names_next n l) (in_order (after n l) ls) o) w.orders;
            to = w.to;
            leads = joined_step p e both.1.0 w.to l w.labels both.1.2 w.leads;
            holds = w.holds;
          }

  all_lead : (n : ℕ) (c d f : Configuration) (ls : List Label) → Settles p Alone same none_made commutes c f → in_order n ls ≡ true → run p c ls ≡ Some d → Q d → Leads n (length ls) f
  all_lead n c d f ls Settled o r q = record { labels = ls; shorter = omega arith; orders = o; to = d; leads = r; holds = q }
  all_lead n c d f ls (Goes {e = e} {k = k} a i s) o r q =
      let w = still_leads n c d e k ls a i o r q in
      let v = all_lead n e w.to f w.labels s w.orders w.leads w.holds in
      let one = w.shorter in
      let two = v.shorter in
      record { labels = v.labels; shorter = omega arith; orders = v.orders; to = v.to; leads = v.leads; holds = v.holds }

  -- one of the list has it
  pub record OneHas (es : List (ℕ × Configuration)) : Type 0 where
    pub next : ℕ
    pub seen : Configuration
    pub is_in : IsIn next seen es
    pub holds : Q seen

  one_has : (es : List (ℕ × Configuration))
      → ((n : ℕ) (c d : Configuration) (l : Label) → IsIn n c es → names_next n l ≡ true → transition p c l ≡ Some d → (f : Configuration) × Settles p Alone same none_made commutes d f × IsIn (after n l) f es)
      → (most n : ℕ) (c d : Configuration) (ls : List Label) → length ls ≤ most → IsIn n c es → in_order n ls ≡ true → run p c ls ≡ Some d → Q d → OneHas es
  one_has es closed most n c d [] few i o r q = let is : c ≡ d = cc in record { next = n; seen = d; is_in = subst (λ (x : Configuration). IsIn n x es) is i; holds = q }
  one_has es closed zero n c d (l ∷ ls) few i o r q = absurd (omega arith)
  one_has es closed (suc most) n c d (l ∷ ls) few i o r q =
      let f = first_of p c d l ls r in
      let s = closed n c f.next l i (first_holds (names_next n l) (in_order (after n l) ls) o) f.step in
      let w = all_lead (after n l) f.next d s.0 ls s.1 (second (names_next n l) (in_order (after n l) ls) o) f.rest q in
      let short = w.shorter in
      one_has es closed most (after n l) s.0 w.to w.labels (omega arith) s.2 w.orders w.leads w.holds

  pub found_in : (es : List (ℕ × Configuration))
      → ((n : ℕ) (c d : Configuration) (l : Label) → IsIn n c es → names_next n l ≡ true → transition p c l ≡ Some d → (f : Configuration) × Settles p Alone same none_made commutes d f × IsIn (after n l) f es)
      → (n : ℕ) (c d f : Configuration) (ls : List Label) → Settles p Alone same none_made commutes c f → IsIn n f es → in_order n ls ≡ true → run p c ls ≡ Some d → Q d → OneHas es
  found_in es closed n c d f ls s i o r q =
      let w = all_lead n c d f ls s o r q in
      one_has es closed (length w.labels) n f w.to w.labels (omega arith) i w.orders w.leads w.holds

-- a property that such transitions keep, and for which names do not matter: if no configuration of a list that is whole
-- after such transitions has it, no run leads to a configuration that has it
module _ (Q : Configuration → Type 0) (p : ProgramTree) (kept : (c e : Configuration) (k : Label) → needs_no_choice k ≡ true → transition p c k ≡ Some e → Q c → Q e)
    (named : (g : Renaming) (d x : Configuration) → IsRenamed g.to d x → Q d → Q x) where
  pub never_after_settling : (es : List (ℕ × Configuration)) → IsNameless p → IsClosedAfterSettling p es
      → ((n : ℕ) (c : Configuration) → IsIn n c es → ¬ (Q c)) → (d : Configuration) → IsReached p d → ¬ (Q d)
  never_after_settling es less whole none d reached holds = by (last_class p) refl reached.starts
    where
      go : (k : ClassTree) → last_class p ≡ Some k → run p (lone reached.root k) reached.labels ≡ Some d → ⊥
      go k e r =
          let a = arranged p (lone reached.root k) d reached.labels 1 (swapped same_all reached.root 0) (below_start k reached.root) r in
          let z : (swapped same_all reached.root 0).to reached.root ≡ 0 = swap_first reached.root 0 in
          let first : a.names.to reached.root ≡ 0 = a.keeps reached.root (omega arith) ∙ z in
          let alike = run_renamed a.names p (lone reached.root k) (lone 0 k) reached.labels (lone_renamed a.names p k reached.root less e first) in
          let starts : start p 0 ≡ Some (lone 0 k) = ap (λ o. o >>= λ c. Some (lone 0 c)) e in
          let begins = whole.begins (lone 0 k) starts in
          there a.names (run p (lone reached.root k) reached.labels) r (run (renamed_program a.names.to p) (lone 0 k) (map (renamed_label a.names.to) reached.labels)) alike
          (λ x i h.
          let s = found_in p (Alone p) (same_label p) (alone_makes_none p) (commutes p) Q (λ c e k a t q. kept c e k a.kind t q) es
          (λ n c y l i j t. let b = whole.closed n c y l i j t in (b.0, settles p y b.0 (sorted_after p c y l (whole.in_order n c i) t) b.1, b.2))
          1 (lone 0 k) x begins.0 (map (renamed_label a.names.to) reached.labels) (settles p (lone 0 k) begins.0 (start_sorted p (lone 0 k) starts) begins.1) begins.2 a.orders
          (ap (λ q. run q (lone 0 k) (map (renamed_label a.names.to) reached.labels)) (sym (less a.names.to)) ∙ i) h in
          none s.next s.seen s.is_in s.holds)
        where
          there : (g : Renaming) (u : Option Configuration) → u ≡ Some d → (v : Option Configuration) → Alike g.to u v
              → ((x : Configuration) → v ≡ Some x → Q x → ⊥) → ⊥
          there g u i v Neither never = absurd (cc)
          there g u i v (Both {c = c} {d = x} same) never =
              let is : c ≡ d = cc in
              let here : IsRenamed g.to d x = subst (λ (y : Configuration). IsRenamed g.to y x) is same in
              never x refl (named g d x here holds)

      by : (o : Option ClassTree) → last_class p ≡ o → (o >>= λ k. Some (lone reached.root k)) ≡ Some reached.first → ⊥
      by None i s = absurd (cc)
      by (Some k) i s =
          let is : lone reached.root k ≡ reached.first = cc in
          go k i (ap (λ c. run p c reached.labels) is ∙ reached.leads)

-- an error that was met stays
keeps_faults : (p : ProgramTree) (c e : Configuration) (k : Label) → needs_no_choice k ≡ true → transition p c k ≡ Some e → IsFaulty c → IsFaulty e
keeps_faults p c e k a i faulty =
    record {
      name = faulty.name;
      object = faulty.object;
      there = fault_stays p c e k a i faulty.name faulty.object faulty.there faulty.met;
      met = faulty.met;
    }

-- if no configuration of a list that is whole after such transitions is faulty, no run leads to a faulty configuration
pub never_faulty_after_settling : (p : ProgramTree) (es : List (ℕ × Configuration)) → IsNameless p → IsClosedAfterSettling p es
    → ((n : ℕ) (c : Configuration) → IsIn n c es → ¬ (IsFaulty c)) → (d : Configuration) → IsReached p d → ¬ (IsFaulty d)
never_faulty_after_settling p es less whole none d reached = never_after_settling IsFaulty p (keeps_faults p) fault_kept es less whole none d reached

-- the same of a configuration with a dead object
pub never_dead_after_settling : (p : ProgramTree) (es : List (ℕ × Configuration)) → IsNameless p → IsClosedAfterSettling p es
    → ((n : ℕ) (c : Configuration) → IsIn n c es → ¬ (HasDead p c)) → (d : Configuration) → IsReached p d → ¬ (HasDead p d)
never_dead_after_settling p es less whole none d reached =
    never_after_settling (HasDead p) p (λ c e k a t. still_has_dead p c e k t) (λ g u x same. dead_kept g p u x less same) es less whole none d reached
