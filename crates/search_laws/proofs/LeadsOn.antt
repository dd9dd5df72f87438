-- Each run can be continued, writing nothing, to a configuration of a list that puts off no label for ever. The list has
-- it with the state in which the run leaves the monitor.
use Rattle.std.proofs.Common.{◌≡◌, ◌≢◌, ◌≤◌, ◌⊎◌, inl, inr, refl, sym, ap, ◌∙◌, subst, ℕ, zero, suc, List, [], ◌∷◌, ◌++◌, length, map, Option, Some, None, Bool, true, false, arith}
use Rattle.run_types.proofs.Laws.{first, second, same_some}
use Rattle.run_types.specs.declared.types.Item.{Item}
use Rattle.run_types.specs.declared.types.Label.{Label}
use Rattle.run_types.specs.declared.types.Label.TheVariants as L
use Rattle.run_types.specs.Partial.{◌>>=◌}
use Rattle.pool_syntax.specs.Terms.{ProgramTree, ClassTree}
use Rattle.pool_relation.specs.Configuration.{Configuration}
use Rattle.pool_relation.specs.Transition.{transition, run, last_class, start}
use Rattle.reachability.specs.Search.{IsInOrder, after, names_next, in_order}
use Rattle.reachability.specs.Outcomes.{items_of, written}
use Rattle.search_laws.specs.Renamed.{Renaming, renamed_item, renamed_program, renamed_label, IsRenamed, IsNameless}
use Rattle.search_laws.specs.Stubborn.{are_others}
use Rattle.search_laws.specs.ClosedBeside as D
use Rattle.search_laws.specs.ClosedBeside.{SettlesFreely}
use Rattle.search_laws.specs.Monitors as W
use Rattle.search_laws.specs.Monitors.{Monitor, reads, IgnoresNames, IsReachedWriting, Watched, IsWatched, writes_nothing, LeadsWatched, IsWatchedInTheEnd, IsClosedWatched, IsWholeWatched, LeadsOnTo}
use Rattle.search_laws.proofs.RenamedTransition.{Alike, Neither, Both}
use Rattle.search_laws.proofs.RenamedRun.{run_renamed}
use Rattle.search_laws.proofs.NamesInOrder.{swap_first, swapped, same_all, arranged}
use Rattle.search_laws.proofs.SearchCompleteness.{lone, below_start, lone_renamed}
use Rattle.search_laws.proofs.ReducedSearch.{stays, both_hold, First, first_of, joined_step}
use Rattle.search_laws.proofs.Commutation.{Alone, alone_makes_none, same_label, commutes}
use Rattle.search_laws.proofs.ChoiceFreeRuns.{sorted_after, start_sorted}
use Rattle.search_laws.proofs.Splits.{same_next, Split, split, around, joined, longer}
use Rattle.search_laws.proofs.ChosenOutcomes.{written_joined, written_without}
use Rattle.search_laws.proofs.Outcomes.{written_renamed}

-- a label that writes nothing
pub none_written : (l : Label) → writes_nothing l ≡ true → items_of l ≡ []
none_written (L.Write o i) h = absurd (let z : false ≡ true = h in cc)
none_written (L.Local o) h = refl
none_written (L.New o m k) h = refl
none_written (L.Answer b o m args) h = refl
none_written (L.Return b o v) h = refl
none_written (L.Send o b m args) h = refl
none_written (L.Take b s m args) h = refl
none_written (L.Pick o i) h = refl
none_written (L.Fault o e) h = refl

-- what is read is read item by item
pub reads_joined : (S : Type 0) (m : Monitor S) (q : S) (u v : List Item) → reads S m q (u ++ v) ≡ reads S m (reads S m q u) v
reads_joined S m q [] v = refl
reads_joined S m q (i ∷ u) v = reads_joined S m (m.next q i) u v

-- other names are read alike
pub reads_renamed : (S : Type 0) (m : Monitor S) → IgnoresNames S m → (f : ℕ → ℕ) (q : S) (w : List Item) → reads S m q (map (renamed_item f) w) ≡ reads S m q w
reads_renamed S m ignores f q [] = refl
reads_renamed S m ignores f q (i ∷ w) = ap (λ r. reads S m r (map (renamed_item f) w)) (ignores f q i) ∙ reads_renamed S m ignores f (m.next q i) w

module _ (p : ProgramTree) where
  -- a run from d to e that writes nothing
  pub record Silent (d e : Configuration) : Type 0 where
    pub labels : List Label
    pub leads : run p d labels ≡ Some e
    pub silent : written labels ≡ []

  pub at_once : (d : Configuration) → Silent d d
  at_once d = record { labels = []; leads = refl; silent = refl }

  pub and_then : (d e f : Configuration) → Silent d e → Silent e f → Silent d f
  and_then d e f s t =
      record {
        labels = s.labels ++ t.labels;
        leads = joined p d e f s.labels t.labels s.leads t.leads;
        silent = written_joined s.labels t.labels ∙ ap (λ x. x ++ written t.labels) s.silent ∙ t.silent;
      }

  pub by_one : (d e : Configuration) (t : Label) → writes_nothing t ≡ true → transition p d t ≡ Some e → Silent d e
  by_one d e t free i =
      record { labels = t ∷ []; leads = joined_step p d e e t [] i refl; silent = ap (λ x. x ++ []) (none_written t free) }

  -- a run from e that is no longer, writes the same, and leads to where a run that writes nothing leads from d
  pub record Follows (n : ℕ) (ls : List Label) (d e : Configuration) : Type 0 where
    pub labels : List Label
    pub shorter : length labels ≤ length ls
    pub orders : in_order n labels ≡ true
    pub to : Configuration
    pub leads : run p e labels ≡ Some to
    pub same : written labels ≡ written ls
    pub onward : Silent d to

  follows : (n : ℕ) (c d e : Configuration) (k : Label) (ls : List Label) → Alone p c k → writes_nothing k ≡ true → transition p c k ≡ Some e → in_order n ls ≡ true → run p c ls ≡ Some d → Follows n ls d e
  follows n c d e k [] a b i s r =
      let is : c ≡ d = same_some r in
      record { labels = []; shorter = omega arith; orders = refl; to = e; leads = refl; same = refl; onward = by_one d e k b (ap (λ x. transition p x k) (sym is) ∙ i) }
  follows n c d e k (l ∷ ls) a b i s r =
      by (first_of p c d l ls r) (same_label p c k a l) (λ c' e' a' i' r'. follows (after n l) c' d e' k ls a' b i' (second (names_next n l) (in_order (after n l) ls) s) r')
    where
      by : First p c d l ls → (l ≡ k) ⊎ (l ≢ k)
          → ((c' e' : Configuration) → Alone p c' k → transition p c' k ≡ Some e' → run p c' ls ≡ Some d → Follows (after n l) ls d e') → Follows n (l ∷ ls) d e
      by f (inl g) rest =
          let made : Some f.next ≡ Some e = sym f.step ∙ ap (transition p c) g ∙ i in
          let is : f.next ≡ e = same_some made in
          let still : after n l ≡ n = ap (after n) g ∙ stays n k (alone_makes_none p c k a) in
          record {
            labels = ls;
            shorter = omega arith;
            orders = ap (λ m. in_order m ls) (sym still) ∙ second (names_next n l) (in_order (after n l) ls) s;
            to = d;
            leads = subst (λ x. run p x ls ≡ Some d) is f.rest;
            same = ap (λ x. x ++ written ls) (sym (none_written l (ap writes_nothing g ∙ b)));
            onward = at_once d;
          }
      by f (inr g) rest =
          let both = commutes p c f.next e k l a i f.step g in
          let w = rest f.next both.1.0 both.0 both.1.1 f.rest in
          let few = w.shorter in
          record {
            labels = l ∷ w.labels;
            shorter = omega arith;
            orders = both_hold _ _ (first (names_next n l) (in_order (after n l) ls) s) w.orders;
            to = w.to;
            leads = joined_step p e both.1.0 w.to l w.labels both.1.2 w.leads;
            same = ap (λ x. items_of l ++ x) w.same;
            onward = w.onward;
          }

  pub all_follows : (n : ℕ) (c d f : Configuration) (ls : List Label) → IsInOrder c → SettlesFreely p writes_nothing c f → in_order n ls ≡ true → run p c ls ≡ Some d → Follows n ls d f
  all_follows n c d f ls i D.AtRest s r = record { labels = ls; shorter = omega arith; orders = s; to = d; leads = r; same = refl; onward = at_once d }
  all_follows n c d f ls i (D.GoesFreely {d = e} l kind is_free step rest) s r =
      let w = follows n c d e l ls (record { kind = kind; sorted = i }) is_free step s r in
      let v = all_follows n e w.to f w.labels (sorted_after p c e l i step) rest w.orders w.leads in
      let one = w.shorter in
      let two = v.shorter in
      record {
        labels = v.labels;
        shorter = omega arith;
        orders = v.orders;
        to = v.to;
        leads = v.leads;
        same = v.same ∙ w.same;
        onward = and_then d w.to v.to w.onward v.onward;
      }

  module _ (S : Type 0) (m : Monitor S) (es : List (Watched S)) (closed : IsClosedWatched S p m es) where
    -- a configuration of the list with this state, to which a run leads from d that writes nothing
    pub record Comes (q : S) (d : Configuration) : Type 0 where
      pub next : ℕ
      pub seen : Configuration
      pub is_in : IsWatched S next q seen es
      pub toward : Silent d seen

    further : (q : S) (d e : Configuration) → Silent d e → Comes q e → Comes q d
    further q d e s h = record { next = h.next; seen = h.seen; is_in = h.is_in; toward = and_then d e h.seen s h.toward }

    -- each run of at most that many labels from the list can be continued into it
    abbrev pub Continues : ℕ → Type 0
    Continues most = (n : ℕ) (q : S) (c d : Configuration) (ls : List Label) → length ls ≤ most → IsWatched S n q c es → in_order n ls ≡ true → run p c ls ≡ Some d → Comes (reads S m q (written ls)) d

    onward : (most n : ℕ) (q : S) (c y d : Configuration) (l : Label) (ls : List Label) → Continues most → length ls ≤ most → IsWatched S n q c es → LeadsWatched S p m es n q c l → names_next n l ≡ true → transition p c l ≡ Some y
        → in_order (after n l) ls ≡ true → run p y ls ≡ Some d → Comes (reads S m q (items_of l ++ written ls)) d
    onward most n q c y d l ls shorter few i leads named step o r =
        let s = leads y named step in
        let w = all_follows (after n l) y d s.0 ls (sorted_after p c y l (closed.in_order n q c i) step) s.1 o r in
        let short = w.shorter in
        let t = shorter (after n l) (reads S m q (items_of l)) s.0 w.to w.labels (omega arith) s.2 w.orders w.leads in
        let state : reads S m (reads S m q (items_of l)) (written w.labels) ≡ reads S m q (items_of l ++ written ls) =
        ap (reads S m (reads S m q (items_of l))) w.same ∙ sym (reads_joined S m q (items_of l) (written ls)) in
        subst (λ (x : S). Comes x d) state (further (reads S m (reads S m q (items_of l)) (written w.labels)) d w.to w.onward t)

    -- If a label of the stubborn set is in the run, it can also come first. If none is, the one that stays possible
    -- comes first, and leads on.
    from_here : (most : ℕ) → Continues most → (n : ℕ) (q : S) (c : Configuration) → IsWatchedInTheEnd S p m es n q c → IsWatched S n q c es → (d : Configuration) (ls : List Label) → length ls ≤ suc most
        → in_order n ls ≡ true → run p c ls ≡ Some d → Comes (reads S m q (written ls)) d
    from_here most shorter n q c t i d [] few o r =
        let is : c ≡ d = same_some r in
        record { next = n; seen = c; is_in = i; toward = subst (λ (x : Configuration). Silent x c) is (at_once c) }
    from_here most shorter n q c (W.EachWatched leads) i d (l ∷ ls) few o r =
        let f = first_of p c d l ls r in
        onward most n q c f.next d l ls shorter (omega arith) i (leads l) (first (names_next n l) (in_order (after n l) ls) o) f.step (second (names_next n l) (in_order (after n l) ls) o) f.rest
    from_here most shorter n q c (W.SomeWatched chosen stubborn silent leads y e step settles there rest) i d (l ∷ ls) few o r = by (split chosen (l ∷ ls)) (from_here most shorter n q e rest there)
      where
        by : (are_others chosen (l ∷ ls) ≡ true) ⊎ Split chosen (l ∷ ls)
            → ((d : Configuration) (ls : List Label) → length ls ≤ suc most → in_order n ls ≡ true → run p e ls ≡ Some d → Comes (reads S m q (written ls)) d) → Comes (reads S m q (written (l ∷ ls))) d
        by (inl others) again =
            let x = stubborn.stays (l ∷ ls) d others o r in
            let f = stubborn.first (l ∷ ls) d x.0 stubborn.one others o r stubborn.is_chosen x.1 in
            let is : f.0 ≡ y = same_some (sym f.1 ∙ step) in
            let w = all_follows n y x.0 e (l ∷ ls) (sorted_after p c y stubborn.one (closed.in_order n q c i) step) settles o (subst (λ z. run p z (l ∷ ls) ≡ Some x.0) is f.2) in
            let short = w.shorter in
            let t = again w.to w.labels (omega arith) w.orders w.leads in
            let one = by_one d x.0 stubborn.one (silent stubborn.one stubborn.is_chosen) x.1 in
            subst (λ (z : S). Comes z d) (ap (reads S m q) w.same) (further (reads S m q (written w.labels)) d w.to (and_then d x.0 w.to one w.onward) t)
        by (inr s) again =
            let makes = stubborn.makes_none s.one s.is_chosen in
            let a = around p n c d s.before s.one s.behind makes (ap (in_order n) (sym s.is) ∙ o) (ap (run p c) (sym s.is) ∙ r) in
            let f = stubborn.first s.before a.here a.there s.one s.others a.orders a.leads s.is_chosen a.step in
            let next = same_next n s.one makes in
            let long = longer s.before s.behind s.one in
            let same = ap length s.is in
            let none = none_written s.one (silent s.one s.is_chosen) in
            let t = onward most n q c f.0 d s.one (s.before ++ s.behind) shorter (omega arith) i (leads s.one s.is_chosen) next.1 f.1
            (ap (λ m. in_order m (s.before ++ s.behind)) next.0 ∙ a.all) (joined p f.0 a.there d s.before s.behind f.2 a.goes_on) in
            let items : items_of s.one ++ written (s.before ++ s.behind) ≡ written (l ∷ ls) =
            ap (λ x. x ++ written (s.before ++ s.behind)) none ∙ sym (written_without s.before s.behind s.one none) ∙ ap written (sym s.is) in
            subst (λ (z : S). Comes z d) (ap (reads S m q) items) t

    continues : (most : ℕ) → Continues most
    continues zero n q c d [] few i o r =
        let is : c ≡ d = same_some r in
        record { next = n; seen = c; is_in = i; toward = subst (λ (x : Configuration). Silent x c) is (at_once c) }
    continues zero n q c d (l ∷ ls) few i o r = absurd (omega arith)
    continues (suc most) n q c d ls few i o r = from_here most (continues most) n q c (closed.in_the_end n q c i) i d ls few o r

    -- so can each run
    pub each_continues : (n : ℕ) (q : S) (c d : Configuration) (ls : List Label) → IsWatched S n q c es → in_order n ls ≡ true → run p c ls ≡ Some d → Comes (reads S m q (written ls)) d
    each_continues n q c d ls i o r = continues (length ls) n q c d ls (omega arith) i o r

-- under other names, labels that name new objects in order lead to d and write the same
pub record ComesWriting (p : ProgramTree) (w : List Item) (d : Configuration) : Type 0 where
  pub names : Renaming
  pub to : Configuration
  pub same : IsRenamed names.to d to
  pub first : Configuration
  pub labels : List Label
  pub starts : start p 0 ≡ Some first
  pub orders : in_order 1 labels ≡ true
  pub leads : run p first labels ≡ Some to
  pub writes : written labels ≡ map (renamed_item names.to) w

pub comes_writing : (p : ProgramTree) → IsNameless p → (w : List Item) (d : Configuration) → IsReachedWriting p w d → ComesWriting p w d
comes_writing p less w d reached = by (last_class p) refl reached.starts
  where
    go : (k : ClassTree) → last_class p ≡ Some k → run p (lone reached.root k) reached.labels ≡ Some d → ComesWriting p w d
    go k e r =
        let a = arranged p (lone reached.root k) d reached.labels 1 (swapped same_all reached.root 0) (below_start k reached.root) r in
        let z : (swapped same_all reached.root 0).to reached.root ≡ 0 = swap_first reached.root 0 in
        let first : a.names.to reached.root ≡ 0 = a.keeps reached.root (omega arith) ∙ z in
        let alike = run_renamed a.names p (lone reached.root k) (lone 0 k) reached.labels (lone_renamed a.names p k reached.root less e first) in
        let starts : start p 0 ≡ Some (lone 0 k) = ap (λ o. o >>= λ c. Some (lone 0 c)) e in
        there a.names a.orders starts (run p (lone reached.root k) reached.labels) r (run (renamed_program a.names.to p) (lone 0 k) (map (renamed_label a.names.to) reached.labels)) refl alike
      where
        there : (g : Renaming) → in_order 1 (map (renamed_label g.to) reached.labels) ≡ true → start p 0 ≡ Some (lone 0 k) → (u : Option Configuration) → u ≡ Some d → (v : Option Configuration)
            → run (renamed_program g.to p) (lone 0 k) (map (renamed_label g.to) reached.labels) ≡ v → Alike g.to u v → ComesWriting p w d
        there g orders starts u i v j Neither = absurd (cc)
        there g orders starts u i v j (Both {c = c} {d = x} same) =
            let is : c ≡ d = cc in
            record {
              names = g;
              to = x;
              same = subst (λ (y : Configuration). IsRenamed g.to y x) is same;
              first = lone 0 k;
              labels = map (renamed_label g.to) reached.labels;
              starts = starts;
              orders = orders;
              leads = ap (λ q. run q (lone 0 k) (map (renamed_label g.to) reached.labels)) (sym (less g.to)) ∙ j;
              writes = written_renamed g.to reached.labels ∙ ap (map (renamed_item g.to)) reached.writes;
            }

    by : (o : Option ClassTree) → last_class p ≡ o → (o >>= λ k. Some (lone reached.root k)) ≡ Some reached.first → ComesWriting p w d
    by None i s = absurd (cc)
    by (Some k) i s =
        let is : lone reached.root k ≡ reached.first = cc in
        go k i (ap (λ c. run p c reached.labels) is ∙ reached.leads)

-- each run can be continued, writing nothing, to a configuration of the list, which has it with the run's state
pub leads_on_to : (S : Type 0) (p : ProgramTree) (m : Monitor S) (es : List (Watched S)) → IsNameless p → IgnoresNames S m → IsWholeWatched S p m es → (w : List Item) (d : Configuration) → IsReachedWriting p w d
    → LeadsOnTo S p m es (reads S m m.first w) d
leads_on_to S p m es less ignores whole w d reached =
    let r = comes_writing p less w d reached in
    let b = whole.begins r.first r.starts in
    let f = all_follows p 1 r.first r.to b.0 r.labels (start_sorted p r.first r.starts) b.1 r.orders r.leads in
    let h = each_continues p S m es whole.closed 1 m.first b.0 f.to f.labels b.2 f.orders f.leads in
    let state : reads S m m.first (written f.labels) ≡ reads S m m.first w = ap (reads S m m.first) (f.same ∙ r.writes) ∙ reads_renamed S m ignores r.names.to m.first w in
    let s = and_then p r.to f.to h.seen f.onward h.toward in
    record {
      names = r.names;
      other = r.to;
      same = r.same;
      next = h.next;
      seen = h.seen;
      is_in = subst (λ (x : S). IsWatched S h.next x h.seen es) state h.is_in;
      labels = s.labels;
      leads = s.leads;
      silent = s.silent;
    }

-- so a property of the states in the list is one of the states after runs
pub states_are_those : (S : Type 0) (p : ProgramTree) (m : Monitor S) (es : List (Watched S)) (test : S → Bool) → IsNameless p → IgnoresNames S m → IsWholeWatched S p m es
    → ((n : ℕ) (q : S) (c : Configuration) → IsWatched S n q c es → test q ≡ true) → (w : List Item) (d : Configuration) → IsReachedWriting p w d → test (reads S m m.first w) ≡ true
states_are_those S p m es test less ignores whole all w d reached =
    let h = leads_on_to S p m es less ignores whole w d reached in
    all h.next (reads S m m.first w) h.seen h.is_in
