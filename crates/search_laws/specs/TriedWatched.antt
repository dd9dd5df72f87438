-- Lists of which the labels were tried, for a search that keeps the state of a monitor with each configuration. Of an
-- entry all labels were tried, or those of one object that are enough.
use Rattle.std.specs.Prelude.{◌≡◌, ◌⊎◌, ◌<◌, ℕ, suc, List, [], ◌∷◌, Some, None}
use Rattle.std.specs.List.{filter, slice_get}
use Rattle.run_types.specs.declared.types.Label.{Label}
use Rattle.pool_syntax.specs.Terms.{ProgramTree}
use Rattle.pool_relation.specs.Configuration.{Configuration}
use Rattle.pool_relation.specs.Transition.{transition, start}
use Rattle.reachability.specs.Search.{after, IsInOrder}
use Rattle.reachability.specs.Labels.{labels_to_try}
use Rattle.reachability.specs.Outcomes.{items_of}
use Rattle.search_laws.specs.Monitors.{Monitor, reads, Watched, IsWatched}
use Rattle.search_laws.specs.Stubborn.{IsAwaited, is_served}
use Rattle.search_laws.specs.Tried.{with_writes, Follows}

-- the entry of these parts
abbrev pub watched : (S : Type 0) → ℕ → S → Configuration → Watched S
watched S n q c = record { next = n; state = q; configuration = c }

module _ (S : Type 0) (p : ProgramTree) (m : Monitor S) where
  -- the label is possible and leads into the list, after some transitions that are followed
  pub record LeadsState (es : List (Watched S)) (n : ℕ) (q : S) (c : Configuration) (l : Label) : Type 0 where
    pub next : Configuration
    pub step : transition p c l ≡ Some next
    pub to : Configuration
    pub follows : Follows p with_writes next to
    pub is_in : IsWatched S (after n l) (reads S m q (items_of l)) to es

  -- each of these labels is impossible, or leads into the list
  abbrev pub AllLeadState : List (Watched S) → ℕ → S → Configuration → List Label → Type 0
  AllLeadState es n q c [] = Unit {0}
  AllLeadState es n q c (l ∷ ls) = ((transition p c l ≡ None) ⊎ LeadsState es n q c l) × AllLeadState es n q c ls

  -- the label leads to the entry at this place, after some transitions that are followed
  pub record LeadsStateAt (es : List (Watched S)) (n : ℕ) (q : S) (c : Configuration) (l : Label) (place : ℕ) : Type 0 where
    pub next : Configuration
    pub step : transition p c l ≡ Some next
    pub to : Configuration
    pub follows : Follows p with_writes next to
    pub there : slice_get es place ≡ Some (watched S (after n l) (reads S m q (items_of l)) to)

  -- Each label to try of the entry at the place i leads into the list or is impossible. Or each of those of an awaited
  -- object does, and one of them leads to a later entry.
  pub data IsExpandedState (es : List (Watched S)) (i n : ℕ) (q : S) (c : Configuration) : Type 0 where
    EveryLabel : AllLeadState es n q c (labels_to_try p n c) → IsExpandedState es i n q c
    ThoseOfOne : (b : ℕ) (awaited : IsAwaited p n b c) → AllLeadState es n q c (filter (is_served b) (labels_to_try p n c)) → (place : ℕ) → i < place → LeadsStateAt es n q c awaited.one place
        → IsExpandedState es i n q c

  -- each configuration of the second list, of which the first has the place i, is in order and was expanded into the
  -- first list
  abbrev pub AreTriedStates : List (Watched S) → ℕ → List (Watched S) → Type 0
  AreTriedStates es i [] = Unit {0}
  AreTriedStates es i (e ∷ rest) = IsInOrder e.configuration × IsExpandedState es i e.next e.state e.configuration × AreTriedStates es (suc i) rest

  -- the facts that such a search has established at its end
  pub record IsTriedWatched (es : List (Watched S)) : Type 0 where
    pub begins : (c : Configuration) → start p 0 ≡ Some c → (e : Configuration) × Follows p with_writes c e × IsWatched S 1 m.first e es
    pub tried : AreTriedStates es 0 es
