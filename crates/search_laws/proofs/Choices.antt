-- A search that tries only the labels of a stubborn set, or a creation, finds every end.
use Rattle.std.proofs.Common.{◌≡◌, ◌≤◌, ◌⊎◌, inl, inr, refl, sym, ap, ◌∙◌, subst, ℕ, zero, suc, List, [], ◌∷◌, ◌++◌, length, map, Option, Some, None, Bool, true, arith}
use Rattle.std.proofs.lemmas.List.{length-map}
use Rattle.run_types.proofs.Laws.{first, second, equals, same_some}
use Rattle.run_types.specs.declared.types.NameId.{NameId}
use Rattle.run_types.specs.declared.types.Label.{Label}
use Rattle.run_types.specs.declared.types.Label.TheVariants as L
use Rattle.run_types.specs.Partial.{◌>>=◌}
use Rattle.pool_syntax.specs.Terms.{ProgramTree, ClassTree}
use Rattle.pool_relation.specs.Configuration.{Configuration}
use Rattle.pool_relation.specs.Transition.{transition, run, last_class, start}
use Rattle.search_laws.specs.ClosedLists as C
use Rattle.search_laws.specs.Renamed.{Renaming, renamed_program, renamed_label, IsRenamed, IsNameless}
use Rattle.reachability.specs.Search.{IsReached, IsAtEnd, IsStuck, IsUnfinished, IsIn, after, names_next, in_order}
use Rattle.search_laws.specs.Stubborn as E
use Rattle.search_laws.specs.Stubborn.{are_others, IsStubborn, LeadsIn, IsEnough, IsWholeForEnds}
use Rattle.search_laws.proofs.RenamedTransition.{Alike, Neither, Both}
use Rattle.search_laws.proofs.RenamedRun.{run_renamed}
use Rattle.search_laws.proofs.NamesInOrder.{swap_first, swapped, same_all, arranged}
use Rattle.search_laws.proofs.SearchCompleteness.{lone, below_start, lone_renamed, stuck_kept, unfinished_kept}
use Rattle.search_laws.proofs.ReducedSearch.{stays, first_of, without_all}
use Rattle.search_laws.proofs.Commutation.{Alone, alone_makes_none, same_label, commutes}
use Rattle.search_laws.proofs.ChoiceFreeRuns.{settles, start_sorted, sorted_after}
use Rattle.search_laws.proofs.Splits.{same_next, Split, split, around, joined, longer}
use Rattle.search_laws.proofs.Known.{Known, known_after, known_start}
use Rattle.search_laws.proofs.Births.{Brought, Within, Behind, brought, kind_makes_none, names_any}

-- transitions that need no choice give no name
known_settles : (p : ProgramTree) → IsNameless p → (n : ℕ) (c e : Configuration) → Known n c → C.Settles p c e → Known n e
known_settles p less n c e known C.Settled = known
known_settles p less n c e known (C.Goes {d = d} l kind step rest) =
    let none = kind_makes_none l kind in
    known_settles p less n d e (subst (λ (m : ℕ). Known m d) (stays n l none) (known_after p less n c known d l (names_any n l none) step)) rest

-- a property of ends, whatever the names of objects
module _ (p : ProgramTree) (less : IsNameless p) (Q : Configuration → Type 0) (ended : (d : Configuration) → Q d → IsAtEnd p d)
    (named : (g : Renaming) (d x : Configuration) → IsRenamed g.to d x → Q d → Q x) (es : List (ℕ × Configuration)) (whole : IsWholeForEnds p es) where
  -- a configuration of the list has it
  abbrev Has : Type 0
  Has = (m : ℕ) × (x : Configuration) × IsIn m x es × Q x

  abbrev Tells : ℕ → Type 0
  Tells most = (n : ℕ) (c d : Configuration) (ls : List Label) → length ls ≤ most → Known n c → IsIn n c es → in_order n ls ≡ true → run p c ls ≡ Some d → Q d → Has

  -- the same of a run after its first label, which leads into the list
  onward : (most n : ℕ) (c y e d : Configuration) (l : Label) (ls : List Label) → Tells most → length ls ≤ most → Known n c → IsIn n c es → names_next n l ≡ true → transition p c l ≡ Some y
      → C.Settles p y e → IsIn (after n l) e es → in_order (after n l) ls ≡ true → run p y ls ≡ Some d → Q d → Has
  onward most n c y e d l ls shorter few known i next step to there o r h =
      let w = without_all p (Alone p) (same_label p) (alone_makes_none p) (commutes p) (after n l) y d e ls (settles p y e (sorted_after p c y l (whole.in_order n c i) step) to) o r (ended d h) in
      let short = w.shorter in
      shorter (after n l) e d w.labels (omega (arith, short, few)) (known_settles p less (after n l) y e (known_after p less n c known y l next step) to) there w.orders w.leads h

  ends_seen : (most : ℕ) → Tells most
  ends_seen most n c d [] few known i o r h = let is : c ≡ d = same_some r in (n, c, i, subst Q (sym is) h)
  ends_seen zero n c d (l ∷ ls) few known i o r h = absurd (omega arith)
  ends_seen (suc most) n c d (l ∷ ls) few known i o r h = by (ends_seen most) (whole.enough n c i)
    where
      into : Tells most → (y : Configuration) (k : Label) (ks : List Label) (x : Configuration) → length ks ≤ most → names_next n k ≡ true → transition p c k ≡ Some y → LeadsIn p es n c k
          → in_order (after n k) ks ≡ true → run p y ks ≡ Some x → Q x → Has
      into shorter y k ks x few next step leads o r h = let s = leads y next step in onward most n c y s.0 x k ks shorter few known i next step s.1 s.2 o r h

      chosen_first : Tells most → (chosen : Label → Bool) → IsStubborn p n c chosen → ((l : Label) → chosen l ≡ true → LeadsIn p es n c l) → (are_others chosen (l ∷ ls) ≡ true) ⊎ Split chosen (l ∷ ls) → Has
      chosen_first shorter chosen stubborn leads (inl none) = let x = stubborn.stays (l ∷ ls) d none o r in absurd (let z : None ≡ Some x.0 = sym (ended d h stubborn.one) ∙ x.1 in cc)
      chosen_first shorter chosen stubborn leads (inr s) =
          let makes = stubborn.makes_none s.one s.is_chosen in
          let a = around p n c d s.before s.one s.behind makes (ap (in_order n) (sym s.is) ∙ o) (ap (run p c) (sym s.is) ∙ r) in
          let f = stubborn.first s.before a.here a.there s.one s.others a.orders a.leads s.is_chosen a.step in
          let next = same_next n s.one makes in
          let long = longer s.before s.behind s.one in
          let same = ap length s.is in
          into shorter f.0 s.one (s.before ++ s.behind) d (omega arith) next.1 f.1 (leads s.one s.is_chosen)
          (ap (λ m. in_order m (s.before ++ s.behind)) next.0 ∙ a.all) (joined p f.0 a.there d s.before s.behind f.2 a.goes_on) h

      -- no end comes before a creation that an object is about to make
      created_first : Tells most → (w : ℕ) (k : NameId) (y e : Configuration) → transition p c (L.New w n k) ≡ Some y → C.Settles p y e → IsIn (suc n) e es → Brought p n w k d y (l ∷ ls) → Has
      created_first shorter w k y e step to there (Behind m z t a) = absurd (let x : None ≡ Some z = sym (ended d h (L.New w m k)) ∙ t in cc)
      created_first shorter w k y e step to there (Within before behind m is a) =
          let same = length-map (before ++ behind) (renamed_label a.names.to) in
          let long = longer before behind (L.New w m k) in
          let all = ap length is in
          onward most n c y e a.to (L.New w n k) (map (renamed_label a.names.to) (before ++ behind)) shorter (omega (arith, same, long, all, few)) known i (equals n) step to there a.orders a.leads (named a.names d a.to a.same h)

      by : Tells most → IsEnough p es n c → Has
      by shorter (E.All leads) =
          let f = first_of p c d l ls r in
          into shorter f.next l ls d (omega arith) (first (names_next n l) (in_order (after n l) ls) o) f.step (leads l) (second (names_next n l) (in_order (after n l) ls) o) f.rest h
      by shorter (E.Some_of_them chosen stubborn leads) = chosen_first shorter chosen stubborn leads (split chosen (l ∷ ls))
      by shorter (E.Created w k y e step to there) = created_first shorter w k y e step to there (brought p less n w k c d y (l ∷ ls) known (whole.in_order n c i) step o r)

  -- so if a reached configuration has it, one of the list does
  pub ends_are_seen_by_choices : (d : Configuration) → IsReached p d → Q d → Has
  ends_are_seen_by_choices d reached h = by (last_class p) refl reached.starts
    where
      go : (k : ClassTree) → last_class p ≡ Some k → run p (lone reached.root k) reached.labels ≡ Some d → Has
      go k e r =
          let a = arranged p (lone reached.root k) d reached.labels 1 (swapped same_all reached.root 0) (below_start k reached.root) r in
          let z : (swapped same_all reached.root 0).to reached.root ≡ 0 = swap_first reached.root 0 in
          let first : a.names.to reached.root ≡ 0 = a.keeps reached.root (omega arith) ∙ z in
          let alike = run_renamed a.names p (lone reached.root k) (lone 0 k) reached.labels (lone_renamed a.names p k reached.root less e first) in
          let starts : start p 0 ≡ Some (lone 0 k) = ap (λ o. o >>= λ c. Some (lone 0 c)) e in
          let begins = whole.begins (lone 0 k) starts in
          there a.names (run p (lone reached.root k) reached.labels) r (run (renamed_program a.names.to p) (lone 0 k) (map (renamed_label a.names.to) reached.labels)) alike
          (λ x i h.
          let w = without_all p (Alone p) (same_label p) (alone_makes_none p) (commutes p) 1 (lone 0 k) x begins.0 (map (renamed_label a.names.to) reached.labels)
          (settles p (lone 0 k) begins.0 (start_sorted p (lone 0 k) starts) begins.1) a.orders (ap (λ q. run q (lone 0 k) (map (renamed_label a.names.to) reached.labels)) (sym (less a.names.to)) ∙ i) (ended x h) in
          ends_seen (length w.labels) 1 begins.0 x w.labels (omega arith) (known_settles p less 1 (lone 0 k) begins.0 (known_start p less (lone 0 k) starts) begins.1) begins.2 w.orders w.leads h)
        where
          there : (g : Renaming) (u : Option Configuration) → u ≡ Some d → (v : Option Configuration) → Alike g.to u v → ((x : Configuration) → v ≡ Some x → Q x → Has) → Has
          there g u i v Neither inside = absurd (cc)
          there g u i v (Both {c = c} {d = x} same) inside =
              let is : c ≡ d = cc in
              inside x refl (named g d x (subst (λ (y : Configuration). IsRenamed g.to y x) is same) h)

      by : (o : Option ClassTree) → last_class p ≡ o → (o >>= λ k. Some (lone reached.root k)) ≡ Some reached.first → Has
      by None i s = absurd (cc)
      by (Some k) i s =
          let is : lone reached.root k ≡ reached.first = cc in
          go k i (ap (λ c. run p c reached.labels) is ∙ reached.leads)

pub never_stuck_by_choices : (p : ProgramTree) (es : List (ℕ × Configuration)) → IsNameless p → IsWholeForEnds p es → ((n : ℕ) (c : Configuration) → IsIn n c es → ¬ (IsStuck p c))
    → (d : Configuration) → IsReached p d → ¬ (IsStuck p d)
never_stuck_by_choices p es less whole none d reached stuck =
    let s = ends_are_seen_by_choices p less (IsStuck p) (λ x h. h.at_end) (λ g x y same h. stuck_kept g p x y less same h) es whole d reached stuck in
    none s.0 s.1 s.2 s.3

pub never_unfinished_by_choices : (p : ProgramTree) (es : List (ℕ × Configuration)) → IsNameless p → IsWholeForEnds p es → ((n : ℕ) (c : Configuration) → IsIn n c es → ¬ (IsUnfinished p c))
    → (d : Configuration) → IsReached p d → ¬ (IsUnfinished p d)
never_unfinished_by_choices p es less whole none d reached unfinished =
    let s = ends_are_seen_by_choices p less (IsUnfinished p) (λ x h. h.at_end) (λ g x y same h. unfinished_kept g p x y less same h) es whole d reached unfinished in
    none s.0 s.1 s.2 s.3
