-- A list with states of which the labels were tried, all or those of one awaited object, is whole.
use Rattle.std.proofs.Common.{◌≡◌, ◌⊎◌, ◌≤◌, ◌+◌, inl, inr, refl, sym, ap, ◌∙◌, subst, ℕ, zero, suc, List, [], ◌∷◌, length, Some, None, true, false, arith}
use Rattle.std.specs.List.{filter, slice_get}
use Rattle.std.proofs.lemmas.Option.{slice_get_within}
use Rattle.run_types.specs.declared.types.Item.{Item}
use Rattle.run_types.specs.declared.types.Label.{Label}
use Rattle.run_types.specs.declared.types.Label.TheVariants as L
use Rattle.pool_syntax.specs.Terms.{ProgramTree}
use Rattle.run_types.proofs.Laws.{same_some}
use Rattle.pool_relation.specs.Configuration.{Configuration}
use Rattle.pool_relation.specs.Transition.{transition}
use Rattle.reachability.specs.Search.{IsInOrder, after, needs_no_choice}
use Rattle.reachability.specs.Labels.{IsAmong, labels_to_try, is_silent}
use Rattle.reachability.specs.Outcomes.{items_of}
use Rattle.search_laws.specs.ClosedBeside.{SettlesFreely, AtRest, GoesFreely}
use Rattle.search_laws.specs.Monitors as W
use Rattle.search_laws.specs.Monitors.{Monitor, reads, Watched, IsWatched, writes_nothing, LeadsWatched, IsWatchedInTheEnd, IsWholeWatched}
use Rattle.search_laws.specs.Renamed.{IsNameless}
use Rattle.search_laws.specs.Stubborn.{is_served}
use Rattle.search_laws.specs.Tried.{with_writes, Follows, Stays, GoesBy}
use Rattle.search_laws.specs.TriedWatched.{watched, LeadsState, AllLeadState, IsExpandedState, EveryLabel, ThoseOfOne, AreTriedStates, IsTriedWatched}
use Rattle.search_laws.proofs.Enough.{who_is_awaited_is_enough}
use Rattle.search_laws.proofs.AllLabels.{all_labels}
use Rattle.search_laws.proofs.AllLabelsTried.{among_those, served_keeps_names}

silent_kind : (l : Label) → is_silent l ≡ true → (needs_no_choice l ≡ true) × (writes_nothing l ≡ true)
silent_kind (L.Local o) h = (refl, refl)
silent_kind (L.Return b o v) h = (refl, refl)
silent_kind (L.Send o b m args) h = (refl, refl)
silent_kind (L.Fault o e) h = (refl, refl)
silent_kind (L.Write o i) h = absurd (let z : false ≡ true = h in cc)
silent_kind (L.New o m k) h = absurd (let z : false ≡ true = h in cc)
silent_kind (L.Answer b o m args) h = absurd (let z : false ≡ true = h in cc)
silent_kind (L.Take b s m args) h = absurd (let z : false ≡ true = h in cc)
silent_kind (L.Pick o i) h = absurd (let z : false ≡ true = h in cc)

served_silent : (b : ℕ) (l : Label) → is_served b l ≡ true → writes_nothing l ≡ true
served_silent b (L.Write o i) h = absurd (let z : false ≡ true = h in cc)
served_silent b (L.Local o) h = refl
served_silent b (L.New o m k) h = refl
served_silent b (L.Answer r o m args) h = refl
served_silent b (L.Return r o v) h = refl
served_silent b (L.Send o r m args) h = refl
served_silent b (L.Take r s m args) h = refl
served_silent b (L.Pick o i) h = refl
served_silent b (L.Fault o e) h = refl

quietly : (p : ProgramTree) (c e : Configuration) → Follows p with_writes c e → SettlesFreely p writes_nothing c e
quietly p c e Stays = AtRest
quietly p c e (GoesBy {d = d} l free step rest) = let k = silent_kind l free in GoesFreely l k.0 k.1 step (quietly p d e rest)

module _ (S : Type 0) (p : ProgramTree) (m : Monitor S) (es : List (Watched S)) where
  -- what is told of an entry
  record IsTriedHere (i n : ℕ) (q : S) (c : Configuration) : Type 0 where
    sorted : IsInOrder c
    leads : IsExpandedState S p m es i n q c

  tried_here : (i : ℕ) (rest : List (Watched S)) (j : ℕ) (e : Watched S) → AreTriedStates S p m es i rest → slice_get rest j ≡ Some e → IsTriedHere (i + j) e.next e.state e.configuration
  tried_here i [] j e t h = absurd (let z : None ≡ Some e = h in cc)
  tried_here i (x ∷ rest) zero e t h =
      let is : x ≡ e = cc in
      let at : i ≡ i + 0 = omega arith in
      let here : IsTriedHere i x.next x.state x.configuration = record { sorted = t.0; leads = t.1 } in
      subst (λ (k : ℕ). IsTriedHere k e.next e.state e.configuration) at (subst (λ (y : Watched S). IsTriedHere i y.next y.state y.configuration) is here)
  tried_here i (x ∷ rest) (suc j) e t h =
      let at : suc i + j ≡ i + suc j = omega arith in
      subst (λ (k : ℕ). IsTriedHere k e.next e.state e.configuration) at (tried_here (suc i) rest j e t.2 h)

  tried_at : (j n : ℕ) (q : S) (c : Configuration) → AreTriedStates S p m es 0 es → slice_get es j ≡ Some (watched S n q c) → IsTriedHere j n q c
  tried_at j n q c t h =
      let at : 0 + j ≡ j = omega arith in
      subst (λ (k : ℕ). IsTriedHere k n q c) at (tried_here 0 es j (watched S n q c) t h)

  leads_at : (n : ℕ) (q : S) (c d : Configuration) (l : Label) (ls : List Label) → transition p c l ≡ Some d → AllLeadState S p m es n q c ls → IsAmong l ls → LeadsState S p m es n q c l
  leads_at n q c d l [] s t i = absurd i
  leads_at n q c d l (k ∷ ls) s t (inr i) = leads_at n q c d l ls s t.1 i
  leads_at n q c d l (k ∷ ls) s t (inl e) = by t.0
    where
      by : (transition p c k ≡ None) ⊎ LeadsState S p m es n q c k → LeadsState S p m es n q c l
      by (inl h) = absurd (let z : None ≡ Some d = sym h ∙ ap (transition p c) e ∙ s in cc)
      by (inr h) = subst (λ (x : Label). LeadsState S p m es n q c x) e h

  led_by : (n : ℕ) (q : S) (c d : Configuration) (l : Label) → transition p c l ≡ Some d → LeadsState S p m es n q c l
      → (e : Configuration) × SettlesFreely p writes_nothing d e × IsWatched S (after n l) (reads S m q (items_of l)) e es
  led_by n q c d l t h =
      let same : h.next ≡ d = same_some (sym h.step ∙ t) in
      (h.to, quietly p d h.to (subst (λ (x : Configuration). Follows p with_writes x h.to) same h.follows), h.is_in)

  every_leads : (n : ℕ) (q : S) (c : Configuration) → AllLeadState S p m es n q c (labels_to_try p n c) → (l : Label) → LeadsWatched S p m es n q c l
  every_leads n q c all l d next t = led_by n q c d l t (leads_at n q c d l (labels_to_try p n c) t all (all_labels p c d n l next t))

  those_lead : (n : ℕ) (q : S) (c : Configuration) (b : ℕ) → AllLeadState S p m es n q c (filter (is_served b) (labels_to_try p n c)) → (l : Label) → is_served b l ≡ true → LeadsWatched S p m es n q c l
  those_lead n q c b some l its d next t =
      led_by n q c d l t (leads_at n q c d l (filter (is_served b) (labels_to_try p n c)) t some (among_those (is_served b) l (labels_to_try p n c) its (all_labels p c d n l next t)))

  found_at : (xs : List (Watched S)) (j n : ℕ) (q : S) (c : Configuration) → slice_get xs j ≡ Some (watched S n q c) → IsWatched S n q c xs
  found_at [] j n q c h = absurd (let z : None ≡ Some (watched S n q c) = h in cc)
  found_at (e ∷ xs) zero n q c h =
      let is : e ≡ watched S n q c = cc in
      inl (ap (λ (x : Watched S). x.next) is, ap (λ (x : Watched S). x.state) is, ap (λ (x : Watched S). x.configuration) is)
  found_at (e ∷ xs) (suc j) n q c h = inr (found_at xs j n q c h)

  placed : (xs : List (Watched S)) (n : ℕ) (q : S) (c : Configuration) → IsWatched S n q c xs → (j : ℕ) × (slice_get xs j ≡ Some (watched S n q c))
  placed [] n q c i = absurd i
  placed (e ∷ xs) n q c (inl i) =
      (0, ap (λ (k : ℕ). Some (watched S k e.state e.configuration)) i.0 ∙ ap (λ (s : S). Some (watched S n s e.configuration)) i.1 ∙ ap (λ (d : Configuration). Some (watched S n q d)) i.2)
  placed (e ∷ xs) n q c (inr i) = let r = placed xs n q c i in (suc r.0, r.1)

  module _ (less : IsNameless p) (all : AreTriedStates S p m es 0 es) where
    -- each choice leads on to a later place, so that it comes to an end
    to_the_end : (left j n : ℕ) (q : S) (c : Configuration) → length es ≤ j + left → slice_get es j ≡ Some (watched S n q c) → IsWatchedInTheEnd S p m es n q c
    to_the_end zero j n q c far at = let h = slice_get_within es j (watched S n q c) at in absurd (omega arith)
    to_the_end (suc left) j n q c far at = by (tried_at j n q c all at).leads (to_the_end left)
      where
        by : IsExpandedState S p m es j n q c → ((j n : ℕ) (q : S) (c : Configuration) → length es ≤ j + left → slice_get es j ≡ Some (watched S n q c) → IsWatchedInTheEnd S p m es n q c)
            → IsWatchedInTheEnd S p m es n q c
        by (EveryLabel every) again = W.EachWatched (every_leads n q c every)
        by (ThoseOfOne b awaited some place later on) again =
            let enough = who_is_awaited_is_enough p n b c less awaited in
            let one = awaited.one in
            let step : transition p c enough.0.one ≡ Some on.next = ap (transition p c) enough.1 ∙ on.step in
            let quiet : items_of one ≡ [] = served_writes b one awaited.is_its in
            let there : slice_get es place ≡ Some (watched S n q on.to) =
            on.there ∙ ap (λ (k : ℕ). Some (watched S k (reads S m q (items_of one)) on.to)) (served_keeps_names b n one awaited.is_its) ∙ ap (λ (w : List Item). Some (watched S n (reads S m q w) on.to)) quiet in
            W.SomeWatched (is_served b) enough.0 (served_silent b) (those_lead n q c b some) on.next on.to step (quietly p on.next on.to on.follows) (found_at es place n q on.to there)
            (again place n q on.to (omega arith) there)
          where
            served_writes : (b : ℕ) (l : Label) → is_served b l ≡ true → items_of l ≡ []
            served_writes b (L.Write o i) h = absurd (let z : false ≡ true = h in cc)
            served_writes b (L.Local o) h = refl
            served_writes b (L.New o k x) h = refl
            served_writes b (L.Answer r o k args) h = refl
            served_writes b (L.Return r o v) h = refl
            served_writes b (L.Send o r k args) h = refl
            served_writes b (L.Take r s k args) h = refl
            served_writes b (L.Pick o i) h = refl
            served_writes b (L.Fault o e) h = refl

pub whole_watched_by_trying : (S : Type 0) (p : ProgramTree) (m : Monitor S) (es : List (Watched S)) → IsNameless p → IsTriedWatched S p m es → IsWholeWatched S p m es
whole_watched_by_trying S p m es less all = record {
  begins = λ c s. let b = all.begins c s in (b.0, quietly p c b.0 b.1, b.2);
  closed = record {
    in_order = λ n q c i. let at = placed S p m es es n q c i in (tried_at S p m es at.0 n q c all.tried at.1).sorted;
    in_the_end = λ n q c i. let at = placed S p m es es n q c i in to_the_end S p m es less all.tried (length es) at.0 n q c (omega arith) at.1;
  };
}
