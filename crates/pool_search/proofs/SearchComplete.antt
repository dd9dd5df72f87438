-- If a search has visited all its entries, its list is closed, and no run leads to what it did not find.
use Rattle.std.proofs.Common.{◌≡◌, ◌≤◌, ◌+◌, inl, inr, sym, ap, ◌∙◌, subst, ℕ, suc, [], ◌∷◌, ◌++◌, length, map, take, Some, Bool, true, false, arith}
use Rattle.std.specs.List.{slice_get}
use Rattle.std.proofs.lemmas.List.{length-map, length-take-le, take_all, take-append-le}
use Rattle.std.proofs.lemmas.Option.{slice_get_within, get_or_from_slice_get}
use Rattle.std.proofs.Math.Seq.{take-suc}
use Rattle.pool_syntax.specs.Terms.{ProgramTree}
use Rattle.run_types.specs.Tables.{Each}
use Rattle.pool_relation.specs.Configuration.{Configuration}
use Rattle.reachability.specs.Search.{IsReached, WaitsAt, IsIn, IsInOrder}
use Rattle.search_laws.specs.Renamed.{IsNameless}
use Rattle.search_laws.specs.Outcomes.{Passed, IsPassed, IsWholeWithChoices}
use Rattle.search_laws.specs.PutOff.{IsWholeByChoices}
use Rattle.search_laws.specs.Dead.{HasDead, CanGoOn}
use Rattle.search_laws.specs.Tried.{Course, states_only, with_writes, IsExpanded, AreTried, IsTried, state_of}
use Rattle.search_laws.proofs.Laws.{whole_by_trying, whole_with_writes, for_ends, never_unfinished_by_choices, never_faulty_by_choices, nobody_dead_by_choices, all_go_on_by_choices}
use Rattle.pool_search.specs.declared.queries.Query.{Query}
use Rattle.pool_search.specs.Entries.{IsPassedOver}
use Rattle.pool_search.specs.SearchAnswers.{IsPassedBy}
use Rattle.pool_search.specs.SearchTargets.{wants_stuck, CountsAsStuck, IsStuckEnd, IsUnwanted, IsFinite}
use Rattle.pool_search.specs.Progress.{Entries, Grows, IsSearchedTo}
use Rattle.pool_search.proofs.ListGrowth.{in_grown, tried_grown, each_weaker, tried_more, each_at}
use Rattle.visited_set.proofs.Laws.{each_more}

-- the list before the place and the entry there
pub take_next : (es : Entries) (at : ℕ) (e : Passed) → slice_get es at ≡ Some e → take (at + 1) es ≡ take at es ++ e ∷ []
take_next es at e g =
    let one : at + 1 ≡ suc at = omega arith in
    ap (λ n. take n es) one ∙ take-suc es at e (slice_get_within es at e g) ∙ ap (λ x. take at es ++ x ∷ []) (get_or_from_slice_get es at e e g)

module _ (p : ProgramTree) (k : Course) where
  -- the list grows
  pub searched_grows : (most : ℕ) (P : Passed → Type 0) (es fs : Entries) (at : ℕ) → at ≤ length es → Grows p k most es fs → IsSearchedTo p k P es at → IsSearchedTo p k P fs at
  searched_grows most P es fs at inside grows s =
      record {
        begins = λ c i. let b = s.begins c i in (b.0, b.1, subst (λ xs. IsPassed 1 [] b.0 xs) (sym grows.is) (in_grown 1 [] b.0 es grows.added b.2));
        in_order = grows.in_order s.in_order;
        reached = grows.reached s.reached;
        tried = subst (λ xs. AreTried p k xs 0 (take at fs)) (sym grows.is) (subst (AreTried p k (es ++ grows.added) 0) (sym same) (tried_grown p k es grows.added 0 (take at es) s.tried));
        visited = subst (Each P) (sym same) s.visited;
      }
    where
      same : take at fs ≡ take at es
      same = ap (take at) grows.is ∙ take-append-le at es grows.added inside

  -- one more entry was looked at
  pub searched_next : (P : Passed → Type 0) (es : Entries) (at : ℕ) (e : Passed) → slice_get es at ≡ Some e
      → IsExpanded p k es at e.next e.items e.configuration → P e → IsSearchedTo p k P es at → IsSearchedTo p k P es (at + 1)
  searched_next P es at e there leads holds s =
      record {
        begins = s.begins;
        in_order = s.in_order;
        reached = s.reached;
        tried =
            subst (AreTried p k es 0) (sym (take_next es at e there))
            (tried_more p k es 0 (take at es) e s.tried (each_at (λ (f : Passed). IsInOrder f.configuration) es at e s.in_order there)
            (subst (λ (m : ℕ). IsExpanded p k es m e.next e.items e.configuration) before leads));
        visited = subst (Each P) (sym (take_next es at e there)) (each_more P (take at es) e s.visited holds);
      }
    where
      before : at ≡ 0 + length (take at es)
      before = let inside = slice_get_within es at e there in omega (arith, length-take-le at es (omega arith))

  -- nothing was looked at
  pub searched_begun : (P : Passed → Type 0) (es : Entries) → IsSearchedTo p k (λ _. Unit {0}) es 0 → IsSearchedTo p k P es 0
  searched_begun P es s = record { begins = s.begins; in_order = s.in_order; reached = s.reached; tried = s.tried; visited = tt }

  -- another property of what was visited
  pub searched_weaker : (P Q : Passed → Type 0) → ((e : Passed) → P e → Q e) → (es : Entries) (at : ℕ) → IsSearchedTo p k P es at → IsSearchedTo p k Q es at
  searched_weaker P Q f es at s = record { begins = s.begins; in_order = s.in_order; reached = s.reached; tried = s.tried; visited = each_weaker P Q f (take at es) s.visited }

  -- all of the list was looked at
  pub tried_all : (P : Passed → Type 0) (es : Entries) (at : ℕ) → length es ≤ at → IsSearchedTo p k P es at → IsTried p k es
  tried_all P es at all s = record { begins = s.begins; tried = subst (AreTried p k es 0) (take_all at es all) s.tried }

  pub visited_all : (P : Passed → Type 0) (es : Entries) (at : ℕ) → length es ≤ at → IsSearchedTo p k P es at → Each P es
  visited_all P es at all s = subst (Each P) (take_all at es all) s.visited

pub searched_all : (p : ProgramTree) (P : Passed → Type 0) (es : Entries) (at : ℕ) → IsNameless p → length es ≤ at → IsSearchedTo p states_only P es at → IsWholeByChoices p (map state_of es)
searched_all p P es at less all s = whole_by_trying p es less (tried_all p states_only P es at all s)

-- what each entry is not, an entry of this configuration is not
none_in : (p : ProgramTree) (q : Query) (es : Entries) (n : ℕ) (c : Configuration) → Each (IsPassedOver p q) es → IsIn n c (map state_of es) → IsPassedBy p q c
none_in p q [] n c h i = absurd i
none_in p q (e ∷ es) n c h (inl i) = subst (IsPassedBy p q) i.1 h.0
none_in p q (e ∷ es) n c h (inr i) = none_in p q es n c h.1 i

-- each object that waits in the list can go on, if the query looks for stuck configurations
abbrev pub AllGoOn : ProgramTree → Query → Entries → Type 0
AllGoOn p q es = wants_stuck q.wanted ≡ true → (n : ℕ) (c : Configuration) (o : ℕ) → IsIn n c (map state_of es) → WaitsAt p c o → CanGoOn p c o

-- no run leads to what is asked for
pub never_wanted : (p : ProgramTree) (q : Query) (es : Entries) (at : ℕ) → IsNameless p → length es ≤ at → IsSearchedTo p states_only (IsPassedOver p q) es at → AllGoOn p q es
    → (d : Configuration) → IsReached p d → IsUnwanted p q d
never_wanted p q es at less all s on d reached =
    record {
      not_stuck = λ w. stuck q.all (λ n c i h. (each n c i).not_end (record { asked = w.asked; holds = h })) (nobody w.asked) w.holds;
      not_faulty = λ w. never_faulty_by_choices p (map state_of es) less whole (λ n c i h. (each n c i).not_faulty (record { asked = w.asked; holds = h })) d reached w.holds;
    }
  where
    whole : IsWholeByChoices p (map state_of es)
    whole = searched_all p (IsPassedOver p q) es at less all s

    each : (n : ℕ) (c : Configuration) → IsIn n c (map state_of es) → IsPassedBy p q c
    each n c i = none_in p q es n c (visited_all p states_only (IsPassedOver p q) es at all s) i

    nobody : wants_stuck q.wanted ≡ true → ¬ (HasDead p d)
    nobody asked = nobody_dead_by_choices p (map state_of es) less whole (on asked) d reached

    stuck : (b : Bool) → ((n : ℕ) (c : Configuration) → IsIn n c (map state_of es) → ¬ (IsStuckEnd b p c)) → ¬ (HasDead p d) → ¬ (CountsAsStuck b p d)
    stuck false none dead h = dead h
    stuck true none dead (inl h) = never_unfinished_by_choices p (map state_of es) less (for_ends p (map state_of es) whole) none d reached h
    stuck true none dead (inr h) = dead h

-- what a search has shown that has visited its whole list
pub is_finite : (p : ProgramTree) (q : Query) (es : Entries) (k : ℕ) → IsNameless p → IsSearchedTo p states_only (IsPassedOver p q) es (length es) → AllGoOn p q es → length es ≡ k → k ≤ q.most
    → IsFinite p q k
is_finite p q es k less s on count within = record {
  never = never_wanted p q es (length es) less all s on;
  goes_on = λ asked. all_go_on_by_choices p (map state_of es) less whole (on asked);
  kept = record { list = map state_of es; whole = whole; count = length-map es state_of ∙ count };
  within = within;
}
  where
    all : length es ≤ length es
    all = omega arith

    whole : IsWholeByChoices p (map state_of es)
    whole = searched_all p (IsPassedOver p q) es (length es) less all s

-- a search for outcomes misses none
pub whole_by_visits : (p : ProgramTree) (P : Passed → Type 0) (es : Entries) (at : ℕ) → IsNameless p → length es ≤ at → IsSearchedTo p with_writes P es at → IsWholeWithChoices p es
whole_by_visits p P es at less all s = whole_with_writes p es less (tried_all p with_writes P es at all s)
