-- A search that keeps what was written and tries only the labels of a stubborn set finds every end, with what the run
-- wrote.
use Rattle.std.proofs.Common.{◌≡◌, ◌≤◌, ◌<◌, ◌⊎◌, inl, inr, refl, sym, ap, ◌∙◌, subst, ℕ, zero, suc, List, [], ◌∷◌, ◌++◌, length, map, Option, Some, None, Bool, true, false, append-nil, arith}
use Rattle.std.proofs.lemmas.List.{append_assoc, length-map, map-append}
use Rattle.run_types.proofs.Laws.{first, second, equals, same_some}
use Rattle.run_types.specs.declared.types.Item.{Item}
use Rattle.run_types.specs.declared.types.NameId.{NameId}
use Rattle.run_types.specs.declared.types.Label.{Label}
use Rattle.run_types.specs.declared.types.Label.TheVariants as L
use Rattle.run_types.specs.Partial.{◌>>=◌}
use Rattle.pool_syntax.specs.Terms.{ProgramTree, ClassTree}
use Rattle.pool_relation.specs.Configuration.{Configuration}
use Rattle.pool_relation.specs.Transition.{transition, run, last_class, start}
use Rattle.search_laws.specs.Renamed.{Renaming, renamed_item, renamed_program, renamed_label, IsRenamed, IsNameless}
use Rattle.reachability.specs.Search.{IsAtEnd, after, names_next, in_order}
use Rattle.search_laws.specs.Stubborn.{are_others, IsStubborn}
use Rattle.reachability.specs.Outcomes.{items_of, written, EndsWith, IsOneOf, all_name_none}
use Rattle.search_laws.specs.Outcomes.{needs_no_order, SettlesWith, Rests, GoesOn, Passed, IsPassed, LeadsWith, IsEnoughWith, AllOfThem, Chosen, Created, IsWholeWithChoices, IsKeptEnd, HasAllEnds}
use Rattle.search_laws.proofs.RenamedTransition.{Alike, Neither, Both}
use Rattle.search_laws.proofs.RenamedRun.{run_renamed}
use Rattle.search_laws.proofs.NamesInOrder.{swap_first, swapped, same_all, arranged}
use Rattle.search_laws.proofs.SearchCompleteness.{lone, below_start, lone_renamed, at_end_kept}
use Rattle.search_laws.proofs.ReducedSearch.{stays, first_of}
use Rattle.search_laws.proofs.ChoiceFreeRuns.{start_sorted, sorted_after}
use Rattle.search_laws.proofs.Outcomes.{no_choice, Only, free_settles, behind_all, written_renamed, items_are, named_none}
use Rattle.search_laws.proofs.Known.{Known, label_fixed, known_after, known_start}
use Rattle.search_laws.proofs.RenamedTwice.{composed, items_twice, renamed_twice}
use Rattle.search_laws.proofs.Births.{Brought, Within, Behind, brought, kind_makes_none, names_any, not_before}
use Rattle.search_laws.proofs.Splits.{Split, split, around, joined, longer, same_next}

-- without a writer any object may write
nobody : (p : ProgramTree) (n : ℕ) (c : Configuration) → Only p None n c
nobody p n c w is = absurd (cc)

pub written_joined : (ls ks : List Label) → written (ls ++ ks) ≡ written ls ++ written ks
written_joined [] ks = refl
written_joined (l ∷ ls) ks = ap (λ x. items_of l ++ x) (written_joined ls ks) ∙ sym (append_assoc (items_of l) (written ls) (written ks))

-- a label that writes nothing may be at any place
pub written_without : (ls ks : List Label) (l : Label) → items_of l ≡ [] → written (ls ++ l ∷ ks) ≡ written (ls ++ ks)
written_without ls ks l e = written_joined ls (l ∷ ks) ∙ ap (λ x. written ls ++ (x ++ written ks)) e ∙ sym (written_joined ls ks)

-- transitions that need no order and are no writes write nothing
nothing_settles : (p : ProgramTree) (c e : Configuration) (v : List Item) → SettlesWith p None c v e → v ≡ []
nothing_settles p c e v Rests = refl
nothing_settles p c e v (GoesOn {d = d} {v = w} l h i rest) = ap (λ x. x ++ w) (silent l h) ∙ nothing_settles p d e w rest
  where
    silent : (l : Label) → needs_no_order None l ≡ true → items_of l ≡ []
    silent (L.Write o i) h = absurd (let z : false ≡ true = h in cc)
    silent (L.Local o) h = refl
    silent (L.New o m k) h = refl
    silent (L.Answer b o m args) h = refl
    silent (L.Return b o v) h = refl
    silent (L.Send o b m args) h = refl
    silent (L.Take b s m args) h = refl
    silent (L.Pick o i) h = refl
    silent (L.Fault o e) h = refl

known_with : (p : ProgramTree) → IsNameless p → (n : ℕ) (c e : Configuration) (v : List Item) → Known n c → SettlesWith p None c v e → Known n e
known_with p less n c e v known Rests = known
known_with p less n c e v known (GoesOn {d = d} {v = w} l h step rest) =
    let none = kind_makes_none l (no_choice None l h) in
    known_with p less n d e w (subst (λ (m : ℕ). Known m d) (stays n l none) (known_after p less n c known d l (names_any n l none) step)) rest

-- The list has the end d of a run that wrote v after w, under other names, which keep those below n.
record IsKept (es : List Passed) (n : ℕ) (w v : List Item) (d : Configuration) : Type 0 where
  names : Renaming
  keeps : (q : ℕ) → q < n → names.to q ≡ q
  next : ℕ
  seen : Configuration
  same : IsRenamed names.to d seen
  is_in : IsPassed next (w ++ map (renamed_item names.to) v) seen es

module _ (p : ProgramTree) (less : IsNameless p) (es : List Passed) (whole : IsWholeWithChoices p es) where
  abbrev Keeps : ℕ → Type 0
  Keeps most = (n : ℕ) (w : List Item) (c d : Configuration) (ls : List Label) → length ls ≤ most → Known n c → IsPassed n w c es → in_order n ls ≡ true → run p c ls ≡ Some d → IsAtEnd p d
      → IsKept es n w (written ls) d

  -- what a label writes has no new names
  own_items : (n : ℕ) (c y : Configuration) (l : Label) (g : Renaming) → Known n c → names_next n l ≡ true → transition p c l ≡ Some y → ((q : ℕ) → q < after n l → g.to q ≡ q)
      → map (renamed_item g.to) (items_of l) ≡ items_of l
  own_items n c y l g known next step keeps =
      let more = not_before n l in
      let fixed : renamed_label g.to l ≡ l = label_fixed p less n c known g (λ q lt. keeps q (omega (arith, lt, more))) y l keeps next step in
      let all = written_renamed g.to (l ∷ []) in
      ap (map (renamed_item g.to)) (sym (append-nil (items_of l))) ∙ sym all ∙ append-nil (items_of (renamed_label g.to l)) ∙ ap items_of fixed

  onward : (most n : ℕ) (w v : List Item) (c y e d : Configuration) (l : Label) (ls : List Label) → Keeps most → length ls ≤ most → Known n c → IsPassed n w c es → names_next n l ≡ true → transition p c l ≡ Some y
      → SettlesWith p None y v e → IsPassed (after n l) (w ++ (items_of l ++ v)) e es → in_order (after n l) ls ≡ true → run p y ls ≡ Some d → IsAtEnd p d → IsKept es n w (items_of l ++ written ls) d
  onward most n w v c y e d l ls shorter few known i next step to there o r ended =
      let settled = free_settles p None y e v (sorted_after p c y l (whole.in_order n w c i) step) to in
      let b = behind_all p None (after n l) y d e v ls (nobody p (after n l) y) settled o r ended in
      let short = b.shorter in
      let after_it = known_after p less n c known y l next step in
      let t = shorter (after n l) (w ++ (items_of l ++ v)) e d b.labels (omega (arith, short, few)) (known_with p less (after n l) y e v after_it to) there b.orders b.leads ended in
      let more = not_before n l in
      record {
        names = t.names;
        keeps = λ q lt. t.keeps q (omega (arith, lt, more));
        next = t.next;
        seen = t.seen;
        same = t.same;
        is_in = subst (λ (x : List Item). IsPassed t.next x t.seen es)
            (same t.names.to v (written b.labels) (nothing_settles p y e v to) b.writes (own_items n c y l t.names known next step t.keeps)) t.is_in;
      }
    where
      same : (f : ℕ → ℕ) (v u : List Item) → v ≡ [] → written ls ≡ v ++ u → map (renamed_item f) (items_of l) ≡ items_of l
          → (w ++ (items_of l ++ v)) ++ map (renamed_item f) u ≡ w ++ map (renamed_item f) (items_of l ++ written ls)
      same f [] u e h fixed =
          append_assoc w (items_of l ++ []) (map (renamed_item f) u) ∙ ap (λ x. w ++ (x ++ map (renamed_item f) u)) (append-nil (items_of l))
          ∙ ap (λ x. w ++ x) (sym (map-append (renamed_item f) (items_of l) (written ls) ∙ ap (λ x. x ++ map (renamed_item f) (written ls)) fixed ∙ ap (λ x. items_of l ++ map (renamed_item f) x) h))
      same f (x ∷ v) u e h fixed = absurd (cc)

  ends_kept : (most : ℕ) → Keeps most
  ends_kept most n w c d [] few known i o r ended =
      let is : c ≡ d = same_some r in
      record {
        names = same_all;
        keeps = λ q lt. refl;
        next = n;
        seen = c;
        same = subst (λ (x : Configuration). IsRenamed same_all.to x c) is (known.fixed same_all (λ q lt. refl));
        is_in = subst (λ (v : List Item). IsPassed n v c es) (sym (append-nil w)) i;
      }
  ends_kept zero n w c d (l ∷ ls) few known i o r ended = absurd (omega arith)
  ends_kept (suc most) n w c d (l ∷ ls) few known i o r ended = by (ends_kept most) (whole.enough n w c i)
    where
      into : Keeps most → (y : Configuration) (k : Label) (ks : List Label) → length ks ≤ most → names_next n k ≡ true → transition p c k ≡ Some y → LeadsWith p es n w c k
          → in_order (after n k) ks ≡ true → run p y ks ≡ Some d → IsKept es n w (items_of k ++ written ks) d
      into shorter y k ks few next step leads o r = let s = leads y next step in onward most n w s.1 c y s.0 d k ks shorter few known i next step s.2 s.3 o r ended

      chosen_first : Keeps most → (chosen : Label → Bool) → IsStubborn p n c chosen → ((l : Label) → chosen l ≡ true → items_of l ≡ []) → ((l : Label) → chosen l ≡ true → LeadsWith p es n w c l)
          → (are_others chosen (l ∷ ls) ≡ true) ⊎ Split chosen (l ∷ ls) → IsKept es n w (written (l ∷ ls)) d
      chosen_first shorter chosen stubborn silent leads (inl none) = let x = stubborn.stays (l ∷ ls) d none o r in absurd (let z : None ≡ Some x.0 = sym (ended stubborn.one) ∙ x.1 in cc)
      chosen_first shorter chosen stubborn silent leads (inr s) =
          let makes = stubborn.makes_none s.one s.is_chosen in
          let a = around p n c d s.before s.one s.behind makes (ap (in_order n) (sym s.is) ∙ o) (ap (run p c) (sym s.is) ∙ r) in
          let f = stubborn.first s.before a.here a.there s.one s.others a.orders a.leads s.is_chosen a.step in
          let next = same_next n s.one makes in
          let long = longer s.before s.behind s.one in
          let same = ap length s.is in
          let none = silent s.one s.is_chosen in
          let t = into shorter f.0 s.one (s.before ++ s.behind) (omega arith) next.1 f.1 (leads s.one s.is_chosen)
          (ap (λ m. in_order m (s.before ++ s.behind)) next.0 ∙ a.all) (joined p f.0 a.there d s.before s.behind f.2 a.goes_on) in
          let items : items_of s.one ++ written (s.before ++ s.behind) ≡ written (l ∷ ls) =
          ap (λ x. x ++ written (s.before ++ s.behind)) none ∙ sym (written_without s.before s.behind s.one none) ∙ ap written (sym s.is) in
          subst (λ (v : List Item). IsKept es n w v d) items t

      -- no end comes before a creation that an object is about to make
      created_first : Keeps most → (q : ℕ) (k : NameId) (y e : Configuration) (v : List Item) → transition p c (L.New q n k) ≡ Some y → SettlesWith p None y v e → IsPassed (suc n) (w ++ v) e es
          → Brought p n q k d y (l ∷ ls) → IsKept es n w (written (l ∷ ls)) d
      created_first shorter q k y e v step to there (Behind m z t a) = absurd (let x : None ≡ Some z = sym (ended (L.New q m k)) ∙ t in cc)
      created_first shorter q k y e v step to there (Within before behind m is a) =
          let same = length-map (before ++ behind) (renamed_label a.names.to) in
          let long = longer before behind (L.New q m k) in
          let all = ap length is in
          let t = onward most n w v c y e a.to (L.New q n k) (map (renamed_label a.names.to) (before ++ behind)) shorter (omega (arith, same, long, all, few)) known i (equals n) step to there a.orders a.leads
          (at_end_kept a.names p d a.to less a.same ended) in
          let items : map (renamed_item t.names.to) (written (map (renamed_label a.names.to) (before ++ behind))) ≡ map (renamed_item (composed a.names t.names).to) (written (l ∷ ls)) =
          ap (map (renamed_item t.names.to)) (written_renamed a.names.to (before ++ behind)) ∙ items_twice a.names.to t.names.to (written (before ++ behind))
          ∙ ap (map (renamed_item (composed a.names t.names).to)) (sym (written_without before behind (L.New q m k) refl) ∙ ap written (sym is)) in
          record {
            names = composed a.names t.names;
            keeps = λ r lt. ap t.names.to (a.keeps r lt) ∙ t.keeps r lt;
            next = t.next;
            seen = t.seen;
            same = renamed_twice a.names t.names d a.to t.seen a.same t.same;
            is_in = subst (λ (x : List Item). IsPassed t.next (w ++ x) t.seen es) items t.is_in;
          }

      by : Keeps most → IsEnoughWith p es n w c → IsKept es n w (written (l ∷ ls)) d
      by shorter (AllOfThem leads) =
          let f = first_of p c d l ls r in
          into shorter f.next l ls (omega arith) (first (names_next n l) (in_order (after n l) ls) o) f.step (leads l) (second (names_next n l) (in_order (after n l) ls) o) f.rest
      by shorter (Chosen chosen stubborn silent leads) = chosen_first shorter chosen stubborn silent leads (split chosen (l ∷ ls))
      by shorter (Created q k y e v step to there) = created_first shorter q k y e v step to there (brought p less n q k c d y (l ∷ ls) known (whole.in_order n w c i) step o r)

-- the list has the end x, with the items that were written under the names g, under other names again
record IsKeptAfter (es : List Passed) (g : Renaming) (w : List Item) (x : Configuration) : Type 0 where
  names : Renaming
  next : ℕ
  seen : Configuration
  is_in : IsPassed next (map (renamed_item (composed g names).to) w) seen es
  same : IsRenamed names.to x seen

pub every_end_is_kept_by_choices : (p : ProgramTree) (es : List Passed) (w : List Item) (d : Configuration) → IsNameless p → IsWholeWithChoices p es → EndsWith p w d → IsKeptEnd p es w d
every_end_is_kept_by_choices p es w d less whole ends = by (last_class p) refl ends.starts
  where
    go : (k : ClassTree) → last_class p ≡ Some k → run p (lone ends.root k) ends.labels ≡ Some d → IsKeptEnd p es w d
    go k e r =
        let a = arranged p (lone ends.root k) d ends.labels 1 (swapped same_all ends.root 0) (below_start k ends.root) r in
        let z : (swapped same_all ends.root 0).to ends.root ≡ 0 = swap_first ends.root 0 in
        let first : a.names.to ends.root ≡ 0 = a.keeps ends.root (omega arith) ∙ z in
        let alike = run_renamed a.names p (lone ends.root k) (lone 0 k) ends.labels (lone_renamed a.names p k ends.root less e first) in
        let starts : start p 0 ≡ Some (lone 0 k) = ap (λ o. o >>= λ c. Some (lone 0 c)) e in
        let begins = whole.begins (lone 0 k) starts in
        let settled = free_settles p None (lone 0 k) begins.0 begins.1 (start_sorted p (lone 0 k) starts) begins.2 in
        there a.names (run p (lone ends.root k) ends.labels) r (run (renamed_program a.names.to p) (lone 0 k) (map (renamed_label a.names.to) ends.labels)) alike
        (λ x i h.
        let b = behind_all p None 1 (lone 0 k) x begins.0 begins.1 (map (renamed_label a.names.to) ends.labels) (nobody p 1 (lone 0 k)) settled a.orders
        (ap (λ q. run q (lone 0 k) (map (renamed_label a.names.to) ends.labels)) (sym (less a.names.to)) ∙ i) h in
        let known = known_with p less 1 (lone 0 k) begins.0 begins.1 (known_start p less (lone 0 k) starts) begins.2 in
        let none = nothing_settles p (lone 0 k) begins.0 begins.1 begins.2 in
        let t = ends_kept p less es whole (length b.labels) 1 begins.1 begins.0 x b.labels (omega arith) known begins.3 b.orders b.leads h in
        let same : written b.labels ≡ map (renamed_item a.names.to) w = ap (λ v. v ++ written b.labels) (sym none) ∙ sym b.writes ∙ written_renamed a.names.to ends.labels ∙ ap (map (renamed_item a.names.to)) ends.writes in
        let all : begins.1 ++ map (renamed_item t.names.to) (written b.labels) ≡ map (renamed_item (composed a.names t.names).to) w =
        ap (λ v. v ++ map (renamed_item t.names.to) (written b.labels)) none ∙ ap (map (renamed_item t.names.to)) same ∙ items_twice a.names.to t.names.to w in
        record { names = t.names; next = t.next; seen = t.seen; is_in = subst (λ (v : List Item). IsPassed t.next v t.seen es) all t.is_in; same = t.same })
      where
        there : (g : Renaming) (u : Option Configuration) → u ≡ Some d → (v : Option Configuration) → Alike g.to u v → ((x : Configuration) → v ≡ Some x → IsAtEnd p x → IsKeptAfter es g w x) → IsKeptEnd p es w d
        there g u i v Neither inside = absurd (cc)
        there g u i v (Both {c = c} {d = x} same) inside =
            let is : c ≡ d = cc in
            let named : IsRenamed g.to d x = subst (λ (y : Configuration). IsRenamed g.to y x) is same in
            let h = inside x refl (at_end_kept g p d x less named ends.at_end) in
            record { names = composed g h.names; next = h.next; seen = h.seen; is_in = h.is_in; same = renamed_twice g h.names d x h.seen named h.same }

    by : (o : Option ClassTree) → last_class p ≡ o → (o >>= λ k. Some (lone ends.root k)) ≡ Some ends.first → IsKeptEnd p es w d
    by None i q = absurd (cc)
    by (Some k) i q =
        let is : lone ends.root k ≡ ends.first = cc in
        go k i (ap (λ c. run p c ends.labels) is ∙ ends.leads)

pub nothing_else_by_choices : (p : ProgramTree) (es : List Passed) (vs : List (List Item)) → IsNameless p → IsWholeWithChoices p es → HasAllEnds p es vs
    → (w : List Item) (d : Configuration) → EndsWith p w d → (f : Renaming) × IsOneOf (map (renamed_item f.to) w) vs
nothing_else_by_choices p es vs less whole all w d ends =
    let k = every_end_is_kept_by_choices p es w d less whole ends in
    (k.names, all k.next (map (renamed_item k.names.to) w) k.seen k.is_in (at_end_kept k.names p d k.seen less k.same ends.at_end))

pub whatever_the_names_by_choices : (p : ProgramTree) (es : List Passed) (vs : List (List Item)) → IsNameless p → IsWholeWithChoices p es → HasAllEnds p es vs
    → all_name_none vs ≡ true → (w : List Item) (d : Configuration) → EndsWith p w d → IsOneOf w vs
whatever_the_names_by_choices p es vs less whole all plain w d ends =
    let t = nothing_else_by_choices p es vs less whole all w d ends in
    subst (λ (x : List Item). IsOneOf x vs) (items_are t.0.to w (named_none (map (renamed_item t.0.to) w) vs plain t.1)) t.1
