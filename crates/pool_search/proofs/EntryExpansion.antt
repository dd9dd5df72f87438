-- What the visit of one entry adds to the progress of a search.
use Rattle.std.proofs.Common.{◌≡◌, ◌≤◌, ◌<◌, refl, sym, ap, ◌∙◌, subst, cond, ℕ, zero, suc, List, [], ◌∷◌, ◌++◌, length, take, get_or, Option, Some, None, Bool, true, false, arith, length-append}
use Rattle.std.specs.Prelude.{IfSome}
use Rattle.std.specs.List.{filter, slice_get}
use Rattle.std.proofs.lemmas.Option.{slice_get_within}
use Rattle.run_types.specs.declared.types.Item.{Item}
use Rattle.run_types.specs.declared.types.Label.{Label}
use Rattle.run_types.specs.declared.types.Label.TheVariants as L
use Rattle.run_types.proofs.Laws.{equal, same_some}
use Rattle.pool_syntax.specs.Terms.{ProgramTree}
use Rattle.pool_relation.specs.Configuration.{Configuration}
use Rattle.pool_relation.specs.Transition.{transition, start}
use Rattle.reachability.specs.Search.{IsInOrder, after}
use Rattle.reachability.specs.Labels.{labels_to_try}
use Rattle.search_laws.specs.Outcomes.{Passed}
use Rattle.search_laws.specs.Stubborn.{IsAwaited, is_served}
use Rattle.search_laws.specs.Tried.{Course, KeepsNothing, AllLeadInto, Follows, IsExpanded, IsLabelTried, LeadsAt, LeadsInto, Every, Those, ByBirth}
use Rattle.visited_set.specs.VisitedConfigurations.{entry}
use Rattle.pool_search.specs.Progress.{Entries, AllReached, Grows, HasSearched, IsReachedWith, IsSearchedTo}
use Rattle.pool_search.specs.Trials.{CanMove, is_asked, is_birth, OneLeadsOn, SettlesAt}
use Rattle.visited_set.specs.LedBy.{IsLedBy}
use Rattle.pool_search.proofs.ListGrowth.{each_at, entry_grown, in_at, labels_grown, led_grown}
use Rattle.visited_set.proofs.Laws.{each_more}
use Rattle.pool_search.proofs.RunExtension.{reached_more, reached_on}
use Rattle.pool_search.proofs.SearchComplete.{searched_grows, searched_next}

-- the entry at a place within the list
pub entry_there : (es : Entries) (at : ℕ) → at < length es → (e : Passed) × (slice_get es at ≡ Some e)
entry_there [] at inside = absurd (omega arith)
entry_there (e ∷ es) zero inside = (e, refl)
entry_there (e ∷ es) (suc at) inside = entry_there es at (omega arith)

module _ (p : ProgramTree) (k : Course) where
  -- an entry is still there after the list has grown, and was there before
  pub still_within : (most : ℕ) (es fs : Entries) (at : ℕ) → Grows p k most es fs → at < length es → at < length fs
  still_within most es fs at grows inside = omega (arith, inside, ap (λ (xs : Entries). length xs) grows.is, length-append es grows.added)

  pub still_there : (most : ℕ) (es fs : Entries) (at : ℕ) (e : Passed) → Grows p k most es fs → slice_get es at ≡ Some e → slice_get fs at ≡ Some e
  still_there most es fs at e grows there = subst (λ (xs : Entries). slice_get xs at ≡ Some e) (sym grows.is) (entry_grown es grows.added at e there)

  pub was_there : (most : ℕ) (es fs : Entries) (at : ℕ) (e : Passed) → Grows p k most es fs → at < length es → slice_get fs at ≡ Some e → slice_get es at ≡ Some e
  was_there most es fs at e grows inside there =
      let old = entry_there es at inside in
      old.1 ∙ sym (still_there most es fs at old.0 grows old.1) ∙ there

  -- one more entry is kept
  pub grows_by_one : (most : ℕ) (es : Entries) (n : ℕ) (w : List Item) (c : Configuration) → IsInOrder c → IsReachedWith p k w c → length es < most
      → Grows p k most es (es ++ entry n w c ∷ [])
  grows_by_one most es n w c sorted reached few =
      record {
        added = entry n w c ∷ [];
        is = refl;
        in_order = λ h. each_more (λ (e : Passed). IsInOrder e.configuration) es (entry n w c) h sorted;
        reached = λ h. each_more (λ (e : Passed). IsReachedWith p k e.items e.configuration) es (entry n w c) h reached;
        within = λ h. omega (arith, length-append es (entry n w c ∷ []));
      }

  -- the labels of an entry that were tried lead into the list after it has grown
  pub tried_still : (most : ℕ) (es fs : Entries) (e : Passed) (ls : List Label) → Grows p k most es fs → AllLeadInto p k es e.next e.items e.configuration ls
      → AllLeadInto p k fs e.next e.items e.configuration ls
  tried_still most es fs e ls grows h =
      subst (λ (xs : Entries). AllLeadInto p k xs e.next e.items e.configuration ls) (sym grows.is) (labels_grown p k es grows.added e.next e.items e.configuration ls h)

  -- one more label of an entry was looked at, and tried if it is asked for
  pub one_more_asked : (es : Entries) (e : Passed) (asked : Label → Bool) (ls : List Label) (l : Label) → (asked l ≡ true → IsLabelTried p k es e.next e.items e.configuration l)
      → AllLeadInto p k es e.next e.items e.configuration (filter asked ls) → AllLeadInto p k es e.next e.items e.configuration (filter asked (ls ++ l ∷ []))
  one_more_asked es e asked [] l t h = by (asked l) t
    where
      by : (b : Bool) → (b ≡ true → IsLabelTried p k es e.next e.items e.configuration l) → AllLeadInto p k es e.next e.items e.configuration (cond b (l ∷ []) [])
      by true t = (t refl, tt)
      by false t = tt
  one_more_asked es e asked (m ∷ ms) l t h = by (asked m) h (one_more_asked es e asked ms l t)
    where
      by : (b : Bool) → AllLeadInto p k es e.next e.items e.configuration (cond b (m ∷ filter asked ms) (filter asked ms))
          → (AllLeadInto p k es e.next e.items e.configuration (filter asked ms) → AllLeadInto p k es e.next e.items e.configuration (filter asked (ms ++ l ∷ [])))
          → AllLeadInto p k es e.next e.items e.configuration (cond b (m ∷ filter asked (ms ++ l ∷ [])) (filter asked (ms ++ l ∷ [])))
      by true h rest = (h.0, rest h.1)
      by false h rest = rest h

  -- a label that is at this place was tried, if it is asked for
  pub tried_before : (es : Entries) (e : Passed) (asked : Label → Bool) (ls : List Label) (i : ℕ) (l : Label) → slice_get ls i ≡ Some l
      → AllLeadInto p k es e.next e.items e.configuration (filter asked (take (suc i) ls)) → asked l ≡ true → IsLabelTried p k es e.next e.items e.configuration l
  tried_before es e asked [] i l there h a = absurd (let z : None ≡ Some l = there in cc)
  tried_before es e asked (m ∷ ms) zero l there h a =
      let is : m ≡ l = same_some there in
      subst (IsLabelTried p k es e.next e.items e.configuration) is (by (asked m) (ap asked is ∙ a) h)
    where
      by : (b : Bool) → b ≡ true → AllLeadInto p k es e.next e.items e.configuration (cond b (m ∷ filter asked (take zero ms)) (filter asked (take zero ms)))
          → IsLabelTried p k es e.next e.items e.configuration m
      by true j h = h.0
      by false j h = absurd (let z : false ≡ true = j in cc)
  tried_before es e asked (m ∷ ms) (suc i) l there h a = tried_before es e asked ms i l there (by (asked m) h) a
    where
      by : (b : Bool) → AllLeadInto p k es e.next e.items e.configuration (cond b (m ∷ filter asked (take (suc i) ms)) (filter asked (take (suc i) ms)))
          → AllLeadInto p k es e.next e.items e.configuration (filter asked (take (suc i) ms))
      by true h = h.1
      by false h = h

  -- a label and what settles after it lead to an entry
  pub led_at : (es : Entries) (n m : ℕ) (w v : List Item) (c d : Configuration) (l : Label) (place : ℕ) → transition p c l ≡ Some d → SettlesAt p k es m v d place → m ≡ after n l → v ≡ w ++ k.keeps l
      → LeadsAt p k es n w c l place
  led_at es n m w v c d l place step h named kept =
      record {
        next = d;
        step = step;
        to = h.to;
        follows = h.follows;
        there = h.there ∙ ap (λ (x : ℕ). Some (entry x v h.to)) named ∙ ap (λ (x : List Item). Some (entry (after n l) x h.to)) kept;
      }

  pub leads_by : (es : Entries) (n : ℕ) (w : List Item) (c : Configuration) (l : Label) (place : ℕ) → LeadsAt p k es n w c l place → LeadsInto p k es n w c l
  leads_by es n w c l place h = record { next = h.next; step = h.step; to = h.to; follows = h.follows; is_in = in_at es place (entry (after n l) (w ++ k.keeps l) h.to) h.there }

  -- a label that leads on does so after the list has grown
  pub still_leads_on : (most : ℕ) (es fs : Entries) (at : ℕ) (e : Passed) (served : Option ℕ) (place : ℕ) → Grows p k most es fs → OneLeadsOn p k es at e served place
      → OneLeadsOn p k fs at e served place
  still_leads_on most es fs at e served place grows h =
      record {
        later = h.later;
        label = h.label;
        asked = h.asked;
        leads = subst (λ (xs : Entries). LeadsAt p k xs e.next e.items e.configuration h.label place) (sym grows.is)
            (led_grown p k es grows.added e.next e.items e.configuration h.label place h.leads);
      }

  -- a label that leads on is possible
  pub can_move : (es : Entries) (at : ℕ) (e : Passed) (served : Option ℕ) (place : ℕ) → OneLeadsOn p k es at e served place → CanMove p e.configuration
  can_move es at e served place h = record { label = h.label; next = h.leads.next; step = h.leads.step }

  -- all labels were tried
  pub by_all : (es : Entries) (at : ℕ) (e : Passed) → AllLeadInto p k es e.next e.items e.configuration (filter (is_asked None) (labels_to_try p e.next e.configuration))
      → IsExpanded p k es at e.next e.items e.configuration
  by_all es at e h = Every (subst (AllLeadInto p k es e.next e.items e.configuration) (all_of (labels_to_try p e.next e.configuration)) h)
    where
      all_of : (ls : List Label) → filter (is_asked None) ls ≡ ls
      all_of [] = refl
      all_of (l ∷ ls) = ap (λ ms. l ∷ ms) (all_of ls)

  -- the labels of an awaited object were tried, and one of them leads on
  pub by_those : (es : Entries) (at : ℕ) (e : Passed) (b place : ℕ)
      → ((l : Label) (d : Configuration) → is_served b l ≡ true → transition p e.configuration l ≡ Some d → IsAwaited p e.next b e.configuration)
      → AllLeadInto p k es e.next e.items e.configuration (filter (is_asked (Some b)) (labels_to_try p e.next e.configuration)) → OneLeadsOn p k es at e (Some b) place
      → IsExpanded p k es at e.next e.items e.configuration
  by_those es at e b place enough some on =
      let h = enough on.label on.leads.next on.asked on.leads.step in
      let awaited : IsAwaited p e.next b e.configuration = record h { one = on.label; to = on.leads.next; is_its = on.asked; possible = on.leads.step } in
      Those b awaited some place on.later on.leads

  -- a creation was tried
  pub by_birth : (es : Entries) (at : ℕ) (e : Passed) (l : Label) (place : ℕ) → is_birth e.next l ≡ true → LeadsAt p k es e.next e.items e.configuration l place
      → IsExpanded p k es at e.next e.items e.configuration × CanMove p e.configuration
  by_birth es at e (L.New o m class) place births led =
      let leads = leads_by es e.next e.items e.configuration (L.New o m class) place led in (
        ByBirth o class (subst (λ (n : ℕ). LeadsInto p k es e.next e.items e.configuration (L.New o n class)) (equal m e.next births) leads),
        record { label = L.New o m class; next = led.next; step = led.step },
      )
  by_birth es at e _ place births led = absurd (cc)

  -- the start was kept
  pub begun_at : (most : ℕ) (es : Entries) (first : Configuration) (place : ℕ) → start p 0 ≡ Some first → SettlesAt p k es 1 [] first place → Grows p k most [] es
      → IsSearchedTo p k (λ _. Unit {0}) es 0
  begun_at most es first place starts h grows =
      record {
        begins = λ c s.
            let is : first ≡ c = same_some (sym starts ∙ s) in
            (h.to, subst (λ (x : Configuration). Follows p k x h.to) is h.follows, in_at es place (entry 1 [] h.to) h.there);
        in_order = grows.in_order tt;
        reached = grows.reached tt;
        tried = tt;
        visited = tt;
      }

  -- one more entry was looked at
  pub has_searched : (most : ℕ) (P : Passed → Type 0) (es fs : Entries) (at : ℕ) (e : Passed) → slice_get es at ≡ Some e → P e → Grows p k most es fs
      → IsExpanded p k fs at e.next e.items e.configuration → HasSearched p k most P es fs at
  has_searched most P es fs at e there holds grows leads =
      record {
        grows = grows;
        goes_on = λ s. searched_next p k P fs at e
            (still_there most es fs at e grows there) leads holds (searched_grows p k most P es fs at inside grows s);
      }
    where
      within : at < length es
      within = slice_get_within es at e there

      inside : at ≤ length es
      inside = let h = within in omega arith

-- what is written after a label of an entry
pub items_after : (es : Entries) (at : ℕ) (e : Passed) (old new : List (List Item)) (before written : ℕ) (more : List Item) → slice_get es at ≡ Some e
    → IfSome (slice_get es at) (λ x. get_or old before [] ≡ x.items) → get_or new written [] ≡ get_or old before [] ++ more → get_or new written [] ≡ e.items ++ more
items_after es at e old new before written more there list is =
    let kept : get_or old before [] ≡ e.items = subst (λ o. IfSome o (λ x. get_or old before [] ≡ x.items)) there list in
    is ∙ ap (λ v. v ++ more) kept

module _ (p : ProgramTree) (k : Course) where
  -- a label that is known to lead to an entry
  pub led_known : (es : Entries) (m : ℕ) (v : List Item) (e : Passed) (l : Label) (place : ℕ) (to : Configuration) (moved : List ℕ) → IsLedBy p k e.configuration l to moved
      → slice_get es place ≡ Some (entry m v to) → m ≡ after e.next l → v ≡ e.items ++ k.keeps l → LeadsAt p k es e.next e.items e.configuration l place
  led_known es m v e l place to moved led there named kept =
      let settled : SettlesAt p k es m v led.next place = record { to = to; follows = led.follows; there = there } in
      led_at p k es e.next m e.items v e.configuration led.next l place led.step settled named kept

  -- a list that grew by the configuration where a label of an entry leads
  pub grown_known : KeepsNothing k → (most : ℕ) (es fs : Entries) (at m : ℕ) (v : List Item) (e : Passed) (l : Label) (to : Configuration) (moved : List ℕ) → AllReached p k es → slice_get es at ≡ Some e
      → IsLedBy p k e.configuration l to moved → IsInOrder to → v ≡ e.items ++ k.keeps l → fs ≡ es ++ entry m v to ∷ [] → length es < most → Grows p k most es fs
  grown_known nothing most es fs at m v e l to moved reached there led sorted kept grown few =
      let here : IsReachedWith p k e.items e.configuration = each_at (λ (x : Passed). IsReachedWith p k x.items x.configuration) es at e reached there in
      let next : IsReachedWith p k v led.next =
      subst (λ (w : List Item). IsReachedWith p k w led.next) (sym kept) (reached_more p k e.items e.configuration led.next l here led.step) in
      let last : IsReachedWith p k v to = reached_on p k nothing v led.next to next led.follows in
      subst (Grows p k most es) (sym grown) (grows_by_one p k most es m v to sorted last few)
