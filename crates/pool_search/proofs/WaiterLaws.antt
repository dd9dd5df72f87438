-- What is noted of waiters stays true, and a waiter that the labels of its entries leave as it is, is dead.
use Rattle.std.proofs.Common.{◌≡◌, ◌⊎◌, inl, inr, refl, sym, ap, ◌∙◌, subst, cond, ℕ, zero, suc, List, [], ◌∷◌, ◌++◌, map, Option, Some, None, Bool, true, false, not, ◌&&◌, ◌||◌, ◌==◌, ◌<◌, ◌≤◌, ◌+◌, length, set, get_or, drop, arith}
use Rattle.std.specs.Prelude.{IfSome}
use Rattle.std.specs.List.{filter, slice_get}
use Rattle.std.proofs.lemmas.List.{drop_more}
use Rattle.std.proofs.lemmas.Option.{slice_get_within}
use Rattle.run_types.specs.declared.types.Item.{Item}
use Rattle.run_types.specs.declared.types.Label.{Label}
use Rattle.run_types.specs.declared.types.Label.TheVariants as L
use Rattle.run_types.specs.Tables.{Each}
use Rattle.run_types.proofs.Laws.{equals, equal, first, second, neither, given_by, same_some}
use Rattle.pool_syntax.specs.Terms.{ProgramTree}
use Rattle.pool_relation.specs.Configuration.{Configuration}
use Rattle.pool_relation.specs.Transition.{transition, run}
use Rattle.pool_relation.proofs.Laws.{joined}
use Rattle.reachability.specs.Search.{WaitsAt, IsIn, IsInOrder, after}
use Rattle.reachability.specs.Labels.{IsAmong, labels_to_try}
use Rattle.search_laws.specs.Renamed.{IsNameless}
use Rattle.search_laws.specs.Outcomes.{Passed}
use Rattle.search_laws.specs.Tried.{states_only, state_of}
use Rattle.search_laws.specs.Dead.{changes, some_changes, IsDead, CanGoOn}
use Rattle.search_laws.specs.ClosedBeside.{beside, SettlesBeside, AtRest, GoesFreely, IsReachedInOrder}
use Rattle.search_laws.specs.PutOff.{IsClosedByChoices}
use Rattle.search_laws.specs.TriedAt.{IsTriedAt, AllThere, SomeThere, CreatedThere}
use Rattle.search_laws.specs.Stubborn.{IsAwaited, is_served}
use Rattle.search_laws.proofs.Laws.{all_labels, among_those, top, below_top, dead_by_choices, in_the_end_by_places, known_reached, served_keeps_names, unchanged_by, who_is_awaited_is_enough}
use Rattle.visited_set.specs.Courses.{all_followed}
use Rattle.pool_search.specs.Progress.{Entries, AllInOrder}
use Rattle.visited_set.specs.VisitedConfigurations.{entry}
use Rattle.pool_search.specs.Entries.{IsEntryAt}
use Rattle.visited_set.specs.WaiterLists.{HasWaiter, IsOne, IsOpen, noted, GoesOnBy}
use Rattle.pool_search.specs.KnownWaiters.{IsServed, IsKnown, AreKnown}
use Rattle.pool_search.specs.Leads.{HasMovedTo, IsEdge, LeadsBeside, IsBeside, OneStaysOn, StaysIn, ByAll, ByThose, ByBirth, StaysAt}
use Rattle.pool_search.specs.Trials.{is_asked, is_birth}
use Rattle.visited_set.specs.declared.waiters.Waiter.{Waiter}
use Rattle.visited_set.proofs.Laws.{below_or_from, has_more}
use Rattle.pool_search.proofs.ListGrowth.{each_at, each_weaker}

-- waiters in lists

pub each_set : {X : Type 0} (P : X → Type 0) (xs : List X) (i : ℕ) (x : X) → Each P xs → P x → Each P (set xs i x)
each_set P [] i x h k = tt
each_set P (y ∷ xs) zero x h k = (k, h.1)
each_set P (y ∷ xs) (suc i) x h k = (h.0, each_set P xs i x h.1 k)

-- a waiter is still there where one was noted
has_set : (g : Bool) (at o : ℕ) (ws : List Waiter) (i : ℕ) (w : Waiter) → slice_get ws i ≡ Some w → HasWaiter g at o ws
    → HasWaiter true at o (set ws i (noted w)) ⊎ HasWaiter g at o (set ws i (noted w))
has_set g at o [] i w h k = absurd k
has_set g at o (v ∷ ws) zero w h (inl k) =
    let is : v ≡ w = cc in
    inl (inl (refl, ap (λ (x : Waiter). x.entry) (sym is) ∙ k.1, ap (λ (x : Waiter). x.object) (sym is) ∙ k.2))
has_set g at o (v ∷ ws) zero w h (inr k) = inr (inr k)
has_set g at o (v ∷ ws) (suc i) w h (inl k) = inr (inl k)
has_set g at o (v ∷ ws) (suc i) w h (inr k) = by (has_set g at o ws i w h k)
  where
    by : HasWaiter true at o (set ws i (noted w)) ⊎ HasWaiter g at o (set ws i (noted w)) → HasWaiter true at o (v ∷ set ws i (noted w)) ⊎ HasWaiter g at o (v ∷ set ws i (noted w))
    by (inl m) = inl (inr m)
    by (inr m) = inr (inr m)

-- what is noted

some_joined : (o : ℕ) (ls ms : List Label) → some_changes o ms ≡ true → some_changes o (ls ++ ms) ≡ true
some_joined o [] ms h = h
some_joined o (l ∷ ls) ms h = either (changes o l) (some_changes o (ls ++ ms)) (some_joined o ls ms h)
  where
    either : (a b : Bool) → b ≡ true → (a || b) ≡ true
    either true b i = refl
    either false b i = i

-- where labels change the object, or it can go on after them, it can go on before them
pub served_by : (p : ProgramTree) (c d : Configuration) (ls : List Label) (o : ℕ) → run p c ls ≡ Some d → (some_changes o ls ≡ true) ⊎ IsServed p d o → IsServed p c o
served_by p c d ls o r by w = at (some_changes o ls) refl by
  where
    at : (b : Bool) → some_changes o ls ≡ b → (some_changes o ls ≡ true) ⊎ IsServed p d o → CanGoOn p c o
    at true j h = record { last = d; labels = ls; leads = r; changed = j }
    at false j (inl h) = absurd (let z : true ≡ false = sym h ∙ j in cc)
    at false j (inr h) =
        let there = unchanged_by p c d ls o w.object w.there r j in
        let m = h (record { object = w.object; there = there; sound = w.sound; waits = w.waits }) in
        record { last = m.last; labels = ls ++ m.labels; leads = joined p c d ls m.labels r ∙ m.leads; changed = some_joined o ls m.labels m.changed }

-- a waiter of which this is noted can go on
known_at : (p : ProgramTree) (es : Entries) (ws : List Waiter) (at o : ℕ) (e : Passed) → Each (IsKnown p es) ws → HasWaiter true at o ws → slice_get es at ≡ Some e
    → IsServed p e.configuration o
known_at p es [] at o e h k g = absurd k
known_at p es (w ∷ ws) at o e h (inl k) g =
    subst (IsServed p e.configuration) k.2 (h.0 k.0 e (ap (slice_get es) k.1 ∙ g))
known_at p es (w ∷ ws) at o e h (inr k) g = known_at p es ws at o e h.1 k g

-- what is so of each number of a list
one_of : (P : ℕ → Type 0) (o : ℕ) (os : List ℕ) → Each P os → IsOne o os → P o
one_of P o [] h i = absurd i
one_of P o (q ∷ qs) h (inl is) = subst P is h.0
one_of P o (q ∷ qs) h (inr i) = one_of P o qs h.1 i

module _ (p : ProgramTree) (es : Entries) where
  -- a waiter that can go on by the labels of an edge may be noted
  pub known_noted : (ws : List Waiter) (n : ℕ) (c : Configuration) (l : Label) (moved : List ℕ) (index at to : ℕ) → AreKnown p es ws → IsEntryAt es at n c → HasMovedTo p es n c l moved to
      → (g : GoesOnBy index at to moved ws) → AreKnown p es (set ws index (noted g.waiter))
  known_noted ws n c l moved index at to known there led g = record { all = all; each = each_set (IsKnown p es) ws index (noted g.waiter) known.each here }
    where
      edge : IsEdge p es n c l led.made to
      edge = led.edge

      o : ℕ
      o = g.waiter.object

      all : (i : ℕ) (e : Passed) (q : ℕ) → slice_get es i ≡ Some e → WaitsAt p e.configuration q
          → HasWaiter true i q (set ws index (noted g.waiter)) ⊎ HasWaiter false i q (set ws index (noted g.waiter))
      all i e q h w = by (known.all i e q h w)
        where
          by : HasWaiter true i q ws ⊎ HasWaiter false i q ws → HasWaiter true i q (set ws index (noted g.waiter)) ⊎ HasWaiter false i q (set ws index (noted g.waiter))
          by (inl k) = both (has_set true i q ws index g.waiter g.there k)
            where
              both : HasWaiter true i q (set ws index (noted g.waiter)) ⊎ HasWaiter true i q (set ws index (noted g.waiter))
                  → HasWaiter true i q (set ws index (noted g.waiter)) ⊎ HasWaiter false i q (set ws index (noted g.waiter))
              both (inl m) = inl m
              both (inr m) = inl m
          by (inr k) = has_set false i q ws index g.waiter g.there k

      reason : IsOne g.waiter.object moved ⊎ HasWaiter true to g.waiter.object ws → (some_changes g.waiter.object led.made ≡ true) ⊎ IsServed p edge.last g.waiter.object
      reason (inl h) = inl (one_of (λ (q : ℕ). some_changes q led.made ≡ true) g.waiter.object moved led.changed h)
      reason (inr h) = inr (known_at p es ws to g.waiter.object (entry (after n l) edge.items edge.last) known.each h edge.there)

      here : IsKnown p es (noted g.waiter)
      here on e h =
          let is : e ≡ entry n there.0 c = same_some (sym h ∙ ap (slice_get es) g.entry ∙ there.1) in
          subst (λ (d : Configuration). IsServed p d g.waiter.object) (ap (λ (x : Passed). x.configuration) (sym is))
          (served_by p c edge.last led.made g.waiter.object edge.leads (reason g.by))

  -- if all are noted, each object that waits can go on
  all_served : (ws : List Waiter) → AreKnown p es ws → Each (λ (w : Waiter). w.goes_on ≡ true) ws → (at o : ℕ) (e : Passed) → slice_get es at ≡ Some e → IsServed p e.configuration o
  all_served ws known all at o e g w = by (known.all at e o g w)
    where
      none : (vs : List Waiter) → Each (λ (v : Waiter). v.goes_on ≡ true) vs → HasWaiter false at o vs → ⊥
      none [] h k = k
      none (v ∷ vs) h (inl k) = absurd (let z : true ≡ false = sym h.0 ∙ k.0 in cc)
      none (v ∷ vs) h (inr k) = none vs h.1 k

      by : HasWaiter true at o ws ⊎ HasWaiter false at o ws → CanGoOn p e.configuration o
      by (inl k) = known_at p es ws at o e known.each k g w
      by (inr k) = absurd (none ws all k)

-- where a configuration is in the list
place_in : (es : Entries) (n : ℕ) (c : Configuration) → IsIn n c (map state_of es) → (at : ℕ) × (e : Passed) × (slice_get es at ≡ Some e) × (e.configuration ≡ c)
place_in [] n c i = absurd i
place_in (e ∷ es) n c (inl i) = (0, e, refl, i.1)
place_in (e ∷ es) n c (inr i) = let r = place_in es n c i in (suc r.0, r.1, r.2, r.3)

pub all_go_on_in : (p : ProgramTree) (es : Entries) (ws : List Waiter) → AreKnown p es ws → Each (λ (w : Waiter). w.goes_on ≡ true) ws
    → (n : ℕ) (c : Configuration) (o : ℕ) → IsIn n c (map state_of es) → WaitsAt p c o → CanGoOn p c o
all_go_on_in p es ws known all n c o i =
    let r = place_in es n c i in
    subst (λ (d : Configuration). IsServed p d o) r.3 (all_served p es ws known all r.0 o r.1 r.2)

-- how the list is made

-- one more entry
pub filled_more : (p : ProgramTree) (es : Entries) (ws vs added : List Waiter) (at : ℕ)
    → ((i : ℕ) (e : Passed) (o : ℕ) → i < at → slice_get es i ≡ Some e → WaitsAt p e.configuration o → HasWaiter false i o ws) → vs ≡ ws ++ added
    → IfSome (slice_get es at) (λ (e : Passed). (o : ℕ) → WaitsAt p e.configuration o → HasWaiter false at o vs) → (i : ℕ) (e : Passed) (o : ℕ) → i < at + 1 → slice_get es i ≡ Some e
    → WaitsAt p e.configuration o → HasWaiter false i o vs
filled_more p es ws vs added at before grown here i e o below g waits = by (below_or_from i at)
  where
    by : (i < at) ⊎ (at ≤ i) → HasWaiter false i o vs
    by (inl h) = subst (HasWaiter false i o) (sym grown) (has_more false i o ws added (before i e o h g waits))
    by (inr h) =
        let is : at ≡ i = omega arith in
        let there : slice_get es at ≡ Some e = ap (slice_get es) is ∙ g in
        let all : (q : ℕ) → WaitsAt p e.configuration q → HasWaiter false at q vs =
        subst (λ (r : Option Passed). IfSome r (λ (f : Passed). (q : ℕ) → WaitsAt p f.configuration q → HasWaiter false at q vs)) there here
        in
        subst (λ (n : ℕ). HasWaiter false n o vs) is (all o waits)

pub known_filled : (p : ProgramTree) (es : Entries) (ws : List Waiter) (at : ℕ) → Each IsOpen ws → length es ≤ at
    → ((i : ℕ) (e : Passed) (o : ℕ) → i < at → slice_get es i ≡ Some e → WaitsAt p e.configuration o → HasWaiter false i o ws) → AreKnown p es ws
known_filled p es ws at none all filled = record {
  all = λ i e o g w. inr (filled i e o (inside i e g) g w);
  each = each_weaker IsOpen (IsKnown p es) (λ w h on. absurd (let z : true ≡ false = sym on ∙ h in cc)) ws none;
}
  where
    inside : (i : ℕ) (e : Passed) → slice_get es i ≡ Some e → i < at
    inside i e g = let h : i < length es = slice_get_within es i e g in omega arith

-- one more waiter of a list that is looked through
pub one_more_stays : (p q : ProgramTree) (es fs : Entries) (ws items : List Waiter) (o i : ℕ) (d : Waiter) → q ≡ p → fs ≡ es → i < length items → StaysAt q fs ws o (get_or items i d)
    → (Each (StaysAt p es ws o) (drop i items) → Each (StaysAt p es ws o) items) → Each (StaysAt p es ws o) (drop (i + 1) items) → Each (StaysAt p es ws o) items
one_more_stays p q es fs ws items o i d programs lists inside here so_far rest =
    so_far
    (subst (Each (StaysAt p es ws o)) (sym (drop_more items i d inside))
    (subst (λ (t : ProgramTree). StaysAt t es ws o (get_or items i d)) programs (subst (λ (gs : Entries). StaysAt q gs ws o (get_or items i d)) lists here), rest))

-- one more label of a list that is looked through, if it is asked for
pub one_more_beside : (P : Label → Type 0) (asked : Label → Bool) (labels : List Label) (i : ℕ) (d : Label) → i < length labels → (asked (get_or labels i d) ≡ true → P (get_or labels i d))
    → (Each P (filter asked (drop i labels)) → Each P (filter asked labels)) → Each P (filter asked (drop (i + 1) labels)) → Each P (filter asked labels)
one_more_beside P asked labels i d inside here so_far rest =
    so_far (subst (λ (ls : List Label). Each P (filter asked ls)) (sym (drop_more labels i d inside)) (by (asked (get_or labels i d)) here))
  where
    by : (b : Bool) → (b ≡ true → P (get_or labels i d)) → Each P (cond b (get_or labels i d ∷ filter asked (drop (i + 1) labels)) (filter asked (drop (i + 1) labels)))
    by true h = (h refl, rest)
    by false h = rest

-- entries in which an object waits and is not known to go on

abbrev pick : Bool → Option Passed → List (ℕ × Configuration)
pick true (Some e) = state_of e ∷ []
pick true None = []
pick false r = []

abbrev is_open : ℕ → Waiter → Bool
is_open o w = (w.object == o) && not w.goes_on

abbrev open_states : ℕ → Entries → List Waiter → List (ℕ × Configuration)
open_states o es [] = []
open_states o es (w ∷ ws) = pick (is_open o w) (slice_get es w.entry) ++ open_states o es ws

in_left : (n : ℕ) (c : Configuration) (xs ys : List (ℕ × Configuration)) → IsIn n c xs → IsIn n c (xs ++ ys)
in_left n c [] ys i = absurd i
in_left n c (x ∷ xs) ys (inl i) = inl i
in_left n c (x ∷ xs) ys (inr i) = inr (in_left n c xs ys i)

in_right : (n : ℕ) (c : Configuration) (xs ys : List (ℕ × Configuration)) → IsIn n c ys → IsIn n c (xs ++ ys)
in_right n c [] ys i = i
in_right n c (x ∷ xs) ys i = inr (in_right n c xs ys i)

in_joined : (n : ℕ) (c : Configuration) (xs ys : List (ℕ × Configuration)) → IsIn n c (xs ++ ys) → IsIn n c xs ⊎ IsIn n c ys
in_joined n c [] ys i = inr i
in_joined n c (x ∷ xs) ys (inl i) = inl (inl i)
in_joined n c (x ∷ xs) ys (inr i) = by (in_joined n c xs ys i)
  where
    by : IsIn n c xs ⊎ IsIn n c ys → IsIn n c (x ∷ xs) ⊎ IsIn n c ys
    by (inl j) = inl (inr j)
    by (inr j) = inr j

in_pick : (b : Bool) (r : Option Passed) (e : Passed) → b ≡ true → r ≡ Some e → IsIn e.next e.configuration (pick b r)
in_pick false r e h k = absurd (let z : false ≡ true = h in cc)
in_pick true None e h k = absurd (let z : None ≡ Some e = k in cc)
in_pick true (Some x) e h k = let is : x ≡ e = same_some k in inl (ap (λ (y : Passed). y.next) is, ap (λ (y : Passed). y.configuration) is)

in_open : (o at : ℕ) (es : Entries) (ws : List Waiter) (e : Passed) → HasWaiter false at o ws → slice_get es at ≡ Some e → IsIn e.next e.configuration (open_states o es ws)
in_open o at es [] e k g = absurd k
in_open o at es (w ∷ ws) e (inl k) g =
    in_left e.next e.configuration (pick (is_open o w) (slice_get es w.entry)) (open_states o es ws)
    (in_pick (is_open o w) (slice_get es w.entry) e unnoted (ap (slice_get es) k.1 ∙ g))
  where
    unnoted : is_open o w ≡ true
    unnoted = ap (λ (b : Bool). (w.object == o) && not b) k.0 ∙ ap (λ (q : ℕ). (q == o) && true) k.2 ∙ ap (λ (b : Bool). b && true) (equals o)
in_open o at es (w ∷ ws) e (inr k) g = in_right e.next e.configuration (pick (is_open o w) (slice_get es w.entry)) (open_states o es ws) (in_open o at es ws e k g)

-- an entry in which an object waits and is not known to go on
abbrev IsOpenAt : Entries → List Waiter → ℕ → ℕ → ℕ → Configuration → Type 0
IsOpenAt es ws o at n c = HasWaiter false at o ws × IsEntryAt es at n c

open_more : (es : Entries) (ws : List Waiter) (w : Waiter) (o n : ℕ) (c : Configuration) → (at : ℕ) × IsOpenAt es ws o at n c → (at : ℕ) × IsOpenAt es (w ∷ ws) o at n c
open_more es ws w o n c r = (r.0, (inr r.1.0, r.1.1))

-- the place of such an entry
open_at : (es : Entries) (ws : List Waiter) (o n : ℕ) (c : Configuration) → IsIn n c (open_states o es ws) → (at : ℕ) × IsOpenAt es ws o at n c
open_at es [] o n c i = absurd i
open_at es (w ∷ ws) o n c i = by (in_joined n c (pick (is_open o w) (slice_get es w.entry)) (open_states o es ws) i) (λ j. open_more es ws w o n c (open_at es ws o n c j))
  where
    off : (b : Bool) → not b ≡ true → b ≡ false
    off true z = absurd (let y : false ≡ true = z in cc)
    off false z = refl

    here : (b : Bool) (r : Option Passed) → is_open o w ≡ b → slice_get es w.entry ≡ r → IsIn n c (pick b r) → (at : ℕ) × IsOpenAt es (w ∷ ws) o at n c
    here false r j k i = absurd i
    here true None j k i = absurd i
    here true (Some e) j k (inr i) = absurd i
    here true (Some e) j k (inl i) =
        let closed : w.goes_on ≡ false = off w.goes_on (second (w.object == o) (not w.goes_on) j) in
        let is : e ≡ entry n e.items c = ap (λ (m : ℕ). entry m e.items e.configuration) i.0 ∙ ap (λ (d : Configuration). entry n e.items d) i.1 in
        (w.entry, (inl (closed, refl, equal w.object o (first (w.object == o) (not w.goes_on) j)), (e.items, k ∙ ap Some is)))

    by : IsIn n c (pick (is_open o w) (slice_get es w.entry)) ⊎ IsIn n c (open_states o es ws) → (IsIn n c (open_states o es ws) → (at : ℕ) × IsOpenAt es (w ∷ ws) o at n c)
        → (at : ℕ) × IsOpenAt es (w ∷ ws) o at n c
    by (inl j) rest = here (is_open o w) (slice_get es w.entry) refl refl j
    by (inr j) rest = rest j

module _ (p : ProgramTree) (es : Entries) (all : List Waiter) (o : ℕ) where
  -- the labels of such an entry leave the object as it is
  stays_of : (ws : List Waiter) (at : ℕ) (e : Passed) → Each (StaysAt p es all o) ws → HasWaiter false at o ws → slice_get es at ≡ Some e → StaysIn p es all o at e
  stays_of [] at e h k g = absurd k
  stays_of (w ∷ ws) at e h (inl k) g = subst (λ (i : ℕ). StaysIn p es all o i e) k.1 (h.0 k.2 k.0 e (ap (slice_get es) k.1 ∙ g))
  stays_of (w ∷ ws) at e h (inr k) g = stays_of ws at e h.1 k g

  -- all labels of an entry leave the object as it is
  pub stays_by_all : (at n : ℕ) (c : Configuration) (e : Passed) → IsEntryAt es at n c → slice_get es at ≡ Some e → Each (IsBeside p es all o n c) (filter (is_asked None) (labels_to_try p n c))
      → StaysIn p es all o at e
  stays_by_all at n c e there g stays =
      let is : entry n there.0 c ≡ e = same_some (sym there.1 ∙ g) in
      subst (StaysIn p es all o at) is (ByAll (subst (Each (IsBeside p es all o n c)) (all_of (labels_to_try p n c)) stays))
    where
      all_of : (ls : List Label) → filter (is_asked None) ls ≡ ls
      all_of [] = refl
      all_of (l ∷ ls) = ap (λ ms. l ∷ ms) (all_of ls)

  -- the labels of an awaited object do, and one of them leads to a later entry
  pub stays_by_those : (at n : ℕ) (c : Configuration) (e : Passed) (b place : ℕ) → IsEntryAt es at n c → slice_get es at ≡ Some e
      → ((l : Label) (d : Configuration) → is_served b l ≡ true → transition p c l ≡ Some d → IsAwaited p n b c)
      → Each (IsBeside p es all o n c) (filter (is_asked (Some b)) (labels_to_try p n c)) → OneStaysOn p es all o at n c (Some b) place → StaysIn p es all o at e
  stays_by_those at n c e b place there g enough stays on =
      let is : entry n there.0 c ≡ e = same_some (sym there.1 ∙ g) in
      let whole : run p c (on.label ∷ on.leads.edge.settled) ≡ Some on.leads.edge.last = ap (run p c) (sym on.leads.edge.is) ∙ on.leads.edge.leads in
      let s = given_by (transition p c on.label) (λ (x : Configuration). run p x on.leads.edge.settled) on.leads.edge.last whole in
      let h = enough on.label s.0 on.asked s.1 in
      let awaited : IsAwaited p n b c = record h { one = on.label; to = s.0; is_its = on.asked; possible = s.1 } in
      subst (StaysIn p es all o at) is (ByThose b awaited stays on.leads (subst (λ (i : ℕ). at < i) (sym on.to) on.later))

  -- a creation does
  pub stays_by_birth : (at : ℕ) (e : Passed) (l : Label) → is_birth e.next l ≡ true → LeadsBeside p es all o e.next e.configuration l → StaysIn p es all o at e
  stays_by_birth at e (L.New b m class) births leads =
      ByBirth b class (subst (λ (n : ℕ). LeadsBeside p es all o e.next e.configuration (L.New b n class)) (equal m e.next births) leads)
  stays_by_birth at e _ births leads = absurd (cc)

  leads_beside : (n : ℕ) (c d : Configuration) (l : Label) (ls : List Label) → Each (IsBeside p es all o n c) ls → IsAmong l ls → transition p c l ≡ Some d → LeadsBeside p es all o n c l
  leads_beside n c d l [] h i t = absurd i
  leads_beside n c d l (m ∷ ls) h (inr i) t = leads_beside n c d l ls h.1 i t
  leads_beside n c d l (m ∷ ls) h (inl i) t = subst (LeadsBeside p es all o n c) i (by h.0)
    where
      by : IsBeside p es all o n c m → LeadsBeside p es all o n c m
      by (inl z) = absurd (let y : None ≡ Some d = sym z ∙ ap (transition p c) i ∙ t in cc)
      by (inr r) = r

  settles : (d e : Configuration) (ls : List Label) → all_followed states_only ls ≡ true → some_changes o ls ≡ false → run p d ls ≡ Some e → SettlesBeside p o d e
  settles d e [] free still r = subst (SettlesBeside p o d) (same_some r) AtRest
  settles d e (l ∷ ls) free still r =
      let s = given_by (transition p d l) (λ (x : Configuration). run p x ls) e r in
      let n = neither (changes o l) (some_changes o ls) still in
      GoesFreely l (first (states_only.follows l) (all_followed states_only ls) free) (ap not n.0) s.1 (settles s.0 e ls (second (states_only.follows l) (all_followed states_only ls) free) n.1 s.2)

  -- what one label of an entry does
  record Goes (n : ℕ) (d : Configuration) (l : Label) : Type 0 where
    still : changes o l ≡ false
    to : Configuration
    settled : SettlesBeside p o d to
    is_in : IsIn (after n l) to (open_states o es all)

  goes : (n : ℕ) (c d : Configuration) (l : Label) → transition p c l ≡ Some d → LeadsBeside p es all o n c l → Goes n d l
  goes n c d l t r =
      let whole : run p c (l ∷ r.edge.settled) ≡ Some r.edge.last = ap (run p c) (sym r.edge.is) ∙ r.edge.leads in
      let s = given_by (transition p c l) (λ (x : Configuration). run p x r.edge.settled) r.edge.last whole in
      let is : s.0 ≡ d = same_some (sym s.1 ∙ t) in
      let n' = neither (changes o l) (some_changes o r.edge.settled) (ap (some_changes o) (sym r.edge.is) ∙ r.beside) in
      record {
        still = n'.0;
        to = r.edge.last;
        settled = settles d r.edge.last r.edge.settled r.edge.free n'.1 (subst (λ (x : Configuration). run p x r.edge.settled ≡ Some r.edge.last) is s.2);
        is_in = in_open o r.to es all (entry (after n l) r.edge.items r.edge.last) r.waits r.edge.there;
      }

  freely : (n : ℕ) (c d : Configuration) (l : Label) → transition p c l ≡ Some d → LeadsBeside p es all o n c l
      → (beside o l ≡ true) × ((e : Configuration) × SettlesBeside p o d e × IsIn (after n l) e (open_states o es all))
  freely n c d l t h = let g = goes n c d l t h in (ap not g.still, (g.to, g.settled, g.is_in))

  tried_open : IsNameless p → (at n : ℕ) (c : Configuration) (w : List Item) → StaysIn p es all o at (entry n w c) → IsTriedAt p (beside o) (open_states o es all) (IsOpenAt es all o) at n c
  unfolding goes
  tried_open less at n c w (ByAll stays) = AllThere (λ l d named t. freely n c d l t (leads_beside n c d l (labels_to_try p n c) stays (all_labels p c d n l named t) t))
  tried_open less at n c w (ByThose b awaited stays leads later) =
      let enough = who_is_awaited_is_enough p n b c less awaited in
      let g = goes n c awaited.to awaited.one awaited.possible leads in
      let step : transition p c enough.0.one ≡ Some awaited.to = ap (transition p c) enough.1 ∙ awaited.possible in
      let there : slice_get es leads.to ≡ Some (entry n leads.edge.items leads.edge.last) =
      leads.edge.there ∙ ap (λ (m : ℕ). Some (entry m leads.edge.items leads.edge.last)) (served_keeps_names b n awaited.one awaited.is_its)
      in
      SomeThere (is_served b) enough.0
      (λ l its d named t.
      freely n c d l t (leads_beside n c d l (filter (is_served b) (labels_to_try p n c)) stays (among_those (is_served b) l (labels_to_try p n c) its (all_labels p c d n l named t)) t))
      awaited.to leads.edge.last step g.settled leads.to later (leads.waits, (leads.edge.items, there))
  tried_open less at n c w (ByBirth b class leads) =
      let whole : run p c (L.New b n class ∷ leads.edge.settled) ≡ Some leads.edge.last = ap (run p c) (sym leads.edge.is) ∙ leads.edge.leads in
      let s = given_by (transition p c (L.New b n class)) (λ (x : Configuration). run p x leads.edge.settled) leads.edge.last whole in
      let g = goes n c s.0 (L.New b n class) s.1 leads in
      CreatedThere b class (λ m. ap not g.still) s.0 leads.edge.last s.1 g.settled leads.to (leads.waits, (leads.edge.items, leads.edge.there))

  closed_beside : IsNameless p → AllInOrder es → Each (StaysAt p es all o) all → IsClosedByChoices p (beside o) (open_states o es all)
  closed_beside less sorted stays = record {
    in_order = λ n c i. let r = open_at es all o n c i in each_at (λ (e : Passed). IsInOrder e.configuration) es r.0 (entry n r.1.1.0 c) sorted r.1.1.1;
    in_the_end = λ n c i. let r = open_at es all o n c i in in_the_end_by_places p (beside o) (open_states o es all) (IsOpenAt es all o) (length es) (top es) within inside tried r.0 n c r.1;
  }
    where
      within : (at n : ℕ) (c : Configuration) → IsOpenAt es all o at n c → (at ≤ length es) × (n ≤ top es)
      within at n c h = (let k = slice_get_within es at (entry n h.1.0 c) h.1.1 in omega arith, below_top es at n h.1.0 c h.1.1)

      inside : (at n : ℕ) (c : Configuration) → IsOpenAt es all o at n c → IsIn n c (open_states o es all)
      inside at n c h = in_open o at es all (entry n h.1.0 c) h.0 h.1.1

      tried : (at n : ℕ) (c : Configuration) → IsOpenAt es all o at n c → IsTriedAt p (beside o) (open_states o es all) (IsOpenAt es all o) at n c
      tried at n c h = tried_open less at n c h.1.0 (stays_of all at (entry n h.1.0 c) stays h.0 h.1.1)

  -- an object that waits and that the labels of its entries leave as it is, is dead
  pub dead_by_waiters : IsNameless p → AllInOrder es → Each (StaysAt p es all o) all → (at : ℕ) (e : Passed) → HasWaiter false at o all → slice_get es at ≡ Some e
      → IsReachedInOrder p e.next e.configuration → WaitsAt p e.configuration o → IsDead p e.configuration o
  dead_by_waiters less sorted stays at e has there reached waits =
      dead_by_choices p o less e.next (open_states o es all) e.configuration (closed_beside less sorted stays) (in_open o at es all e has there) (known_reached p less e.next e.configuration reached) waits
