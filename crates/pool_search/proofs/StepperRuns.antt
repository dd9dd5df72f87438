-- Runs of a stepper are joined.
use Rattle.std.proofs.Common.{◌≡◌, refl, sym, ap, ◌∙◌, subst, ℕ, List, [], ◌∷◌, ◌++◌, Option, Some, None, true, false, append_assoc, slice_get, length, ◌<◌, Vec, Global}
use Rattle.std.specs.Prelude.{IfSome}
use Rattle.std.proofs.lemmas.List.{append-nil}
use Rattle.run_types.specs.declared.types.Label.{Label}
use Rattle.pool_syntax.specs.Terms.{ProgramTree}
use Rattle.pool_relation.specs.Configuration.{Configuration}
use Rattle.pool_relation.specs.Transition.{transition, run, start}
use Rattle.run_types.specs.Partial.{◌>>=◌}
use Rattle.pool_relation.proofs.Laws.{joined}
use Rattle.run_types.proofs.Laws.{given_by}
use Rattle.pool_semantics.specs.PlainOf.{configuration_of, program_tree, is_spent}
use Rattle.pool_semantics.specs.declared.plain.Plain.{Plain}
use Rattle.reachability.specs.Search.{after, in_order}
use Rattle.run_types.specs.Tables.{Each}
use Rattle.search_laws.specs.Dead.{IsDead}
use Rattle.search_laws.specs.Outcomes.{Passed}
use Rattle.search_laws.specs.ClosedBeside.{IsReachedInOrder, after_all}
use Rattle.search_laws.specs.Tried.{Course, Follows, Stays, states_only}
use Rattle.visited_set.specs.VisitedConfigurations.{entry}
use Rattle.pool_search.specs.Entries.{IsEntryAt}
use Rattle.pool_search.specs.Leads.{IsEdge}
use Rattle.pool_search.specs.Progress.{Entries}
use Rattle.reachability.specs.Outcomes.{written}
use Rattle.pool_search.specs.declared.outcomes.Outcome.{Outcome}
use Rattle.pool_search.specs.OutcomeTargets.{IsEndOf, IsRunInOrder}
use Rattle.pool_search.specs.SearchAnswers.{IsAnswer}
use Rattle.pool_search.specs.SearchTargets.{IsWantedDead, LeadsInOrder, wants_stuck}
use Rattle.pool_search.specs.declared.queries.Query.{Query}
use Rattle.pool_search.specs.declared.queries.SearchResult.TheVariants as R
use Rattle.pool_search.specs.Steps.{IsStill, HasRun, HasFollowed, HasRetraced, HasShown, HasSettled}
use Rattle.pool_search.proofs.RunExtension.{follows_more, followed_more}

pub ran_more : (a b c : Plain) (xs ys : List Label) → HasRun a b xs → HasRun b c ys → HasRun a c (xs ++ ys)
ran_more a b c xs ys h k =
    record {
      program = k.program ∙ h.program;
      fresh = k.fresh;
      leads = joined (program_tree a) (configuration_of a) (configuration_of b) xs ys h.leads
          ∙ subst (λ (p : ProgramTree). run p (configuration_of b) ys ≡ Some (configuration_of c)) h.program k.leads;
    }

pub ran_still : (a b c : Plain) (ls : List Label) → HasRun a b ls → IsStill b c → HasRun a c ls
ran_still a b c ls h k = record { program = k.program ∙ h.program; fresh = k.fresh; leads = h.leads ∙ ap (λ (x : Configuration). Some x) (sym k.same) }

pub still_more : (a b c : Plain) → IsStill a b → IsStill b c → IsStill a c
still_more a b c h k = record { program = k.program ∙ h.program; fresh = k.fresh; same = k.same ∙ h.same }

pub still_ran : (a b c : Plain) (ls : List Label) → IsStill a b → HasRun b c ls → HasRun a c ls
still_ran a b c ls h k =
    record {
      program = k.program ∙ h.program;
      fresh = k.fresh;
      leads = subst (λ (x : Configuration). run (program_tree a) x ls ≡ Some (configuration_of c)) h.same (subst (λ (p : ProgramTree). run p (configuration_of b) ls ≡ Some (configuration_of c)) h.program k.leads);
    }

-- one transition that was made
pub made_one : (a b : Plain) (l : Label) → program_tree b ≡ program_tree a → is_spent b ≡ false → transition (program_tree a) (configuration_of a) l ≡ Some (configuration_of b) → HasRun a b (l ∷ [])
made_one a b l program fresh step = record { program = program; fresh = fresh; leads = ap (λ t. t >>= λ x. Some x) step }

-- one label that was made is a transition
pub made_step : (a b : Plain) (l : Label) → HasRun a b (l ∷ []) → transition (program_tree a) (configuration_of a) l ≡ Some (configuration_of b)
made_step a b l h =
    let s = given_by (transition (program_tree a) (configuration_of a) l) (λ (x : Configuration). Some x) (configuration_of b) h.leads in
    s.1 ∙ s.2

-- what is shown

pub shown_more : (a b c : Plain) (xs ys zs : List Label) → HasShown a b xs ys → HasShown b c ys zs → HasShown a c xs zs
shown_more a b c xs ys zs h k =
    record {
      added = h.added ++ k.added;
      is = k.is ∙ ap (λ ls. ls ++ k.added) h.is ∙ append_assoc xs h.added k.added;
      ran = ran_more a b c h.added k.added h.ran k.ran;
    }

pub shown_settled : (k : Course) (a b : Plain) (xs ys : List Label) → HasSettled k a b xs ys → HasShown a b xs ys
shown_settled k a b xs ys h = record { added = h.added; is = h.is; ran = h.ran }

-- a label and what settles after it
pub shown_after : (k : Course) (a b c : Plain) (l : Label) (xs ys : List Label) → HasRun a b (l ∷ []) → HasSettled k b c (xs ++ l ∷ []) ys → HasShown a c xs ys
shown_after k a b c l xs ys h s = shown_more a b c xs (xs ++ l ∷ []) ys (record { added = l ∷ []; is = refl; ran = h }) (shown_settled k b c (xs ++ l ∷ []) ys s)

-- what settles

pub settled_none : (k : Course) (a : Plain) (ls : List Label) → is_spent a ≡ false → HasSettled k a a ls ls
settled_none k a ls fresh = record { added = []; is = sym (append-nil ls); ran = record { program = refl; fresh = fresh; leads = refl }; followed = refl }

pub settled_more : (k : Course) (a b c : Plain) (xs ys : List Label) (l : Label) → HasSettled k a b xs ys → HasRun b c (l ∷ []) → k.follows l ≡ true → HasSettled k a c xs (ys ++ l ∷ [])
settled_more k a b c xs ys l h s free =
    record {
      added = h.added ++ l ∷ [];
      is = ap (λ ls. ls ++ l ∷ []) h.is ∙ append_assoc xs h.added (l ∷ []);
      ran = ran_more a b c h.added (l ∷ []) h.ran s;
      followed = followed_more k h.added l h.followed free;
    }

pub settled_still : (k : Course) (a b c : Plain) (xs ys : List Label) → HasSettled k a b xs ys → IsStill b c → HasSettled k a c xs ys
settled_still k a b c xs ys h s = record { added = h.added; is = h.is; ran = ran_still a b c h.added h.ran s; followed = h.followed }

pub followed_none : (k : Course) (a : Plain) → is_spent a ≡ false → HasFollowed k a a
followed_none k a fresh = record { program = refl; fresh = fresh; follows = Stays }

pub followed_by : (k : Course) (a b c : Plain) (l : Label) → HasFollowed k a b → HasRun b c (l ∷ []) → k.follows l ≡ true → HasFollowed k a c
followed_by k a b c l h s free =
    record {
      program = s.program ∙ h.program;
      fresh = s.fresh;
      follows = follows_more (program_tree a) k (configuration_of a) (configuration_of b) (configuration_of c) l h.follows free
          (subst (λ (p : ProgramTree). transition p (configuration_of b) l ≡ Some (configuration_of c)) h.program (made_step b c l s));
    }

pub followed_still : (k : Course) (a b c : Plain) → HasFollowed k a b → IsStill b c → HasFollowed k a c
followed_still k a b c h s =
    record {
      program = s.program ∙ h.program;
      fresh = s.fresh;
      follows = subst (λ (x : Configuration). Follows (program_tree a) k (configuration_of a) x) (sym s.same) h.follows;
    }

-- a run from the first label, whose labels name new objects in order
pub retraced : (a b : Plain) (xs ys : List Label) (next : Option ℕ) → xs ≡ [] → HasShown a b xs ys → IfSome next (λ _. in_order 1 ys ≡ true) → IfSome next (λ n. after_all 1 ys ≡ n)
    → IfSome next (λ n. HasRetraced a b ys n)
retraced a b xs ys None none h orders named = tt
retraced a b xs ys (Some n) none h orders named =
    let is : h.added ≡ ys = sym (h.is ∙ ap (λ ls. ls ++ h.added) none) in
    record { ran = subst (HasRun a b) is h.ran; orders = orders; next = named }

pub reached_in_order : (a b : Plain) (ls : List Label) (n : ℕ) → start (program_tree a) 0 ≡ Some (configuration_of a) → HasRetraced a b ls n → IsReachedInOrder (program_tree b) n (configuration_of b)
reached_in_order a b ls n starts h =
    subst (λ (p : ProgramTree). IsReachedInOrder p n (configuration_of b)) (sym h.ran.program)
    (record { first = configuration_of a; labels = ls; starts = starts; orders = h.orders; leads = h.ran.leads; next = h.next })

pub leads_in_order : (p : ProgramTree) (a b : Plain) (ls : List Label) (n : ℕ) (P : ProgramTree → Configuration → Type 0) → program_tree a ≡ p → start p 0 ≡ Some (configuration_of a) → HasRetraced a b ls n
    → P (program_tree b) (configuration_of b) → LeadsInOrder p ls (P p)
leads_in_order p a b ls n P same starts h holds = (
  record {
    first = configuration_of a;
    last = configuration_of b;
    starts = starts;
    leads = subst (λ (q : ProgramTree). run q (configuration_of a) ls ≡ Some (configuration_of b)) same h.ran.leads;
    holds = subst (λ (q : ProgramTree). P q (configuration_of b)) (h.ran.program ∙ same) holds;
  },
  h.orders,
)

-- a label of an entry and what settles after it lead to another entry
pub edge_there : (p : ProgramTree) (es : Entries) (a b : Plain) (e : Passed) (l : Label) (made : List Label) (next to : ℕ) → program_tree a ≡ p → transition p e.configuration l ≡ Some (configuration_of a)
    → HasSettled states_only a b (l ∷ []) made → next ≡ after e.next l → IsEntryAt es to next (configuration_of b) → IsEdge p es e.next e.configuration l made to
edge_there p es a b e l made next to same step h named there =
    record {
      settled = h.added;
      is = h.is;
      free = h.followed;
      last = configuration_of b;
      leads = ap (run p e.configuration) h.is
          ∙ (joined p e.configuration (configuration_of a) (l ∷ []) h.added (ap (λ t. t >>= λ x. Some x) step)
          ∙ subst (λ (q : ProgramTree). run q (configuration_of a) h.added ≡ Some (configuration_of b)) same h.ran.leads);
      items = there.0;
      there = subst (λ (m : ℕ). slice_get es to ≡ Some (entry m there.0 (configuration_of b))) named there.1;
    }

pub dead_in_order : (a b : Plain) (ls : List Label) (n : ℕ) (names : Vec ℕ Global) → start (program_tree a) 0 ≡ Some (configuration_of a) → HasRetraced a b ls n
    → (IsReachedInOrder (program_tree b) n (configuration_of b) → (0 < length names.items) × Each (IsDead (program_tree b) (configuration_of b)) names.items)
    → (q : Query) → wants_stuck q.wanted ≡ true → IsAnswer (program_tree a) q (R.Dead ls names)
dead_in_order a b ls n names starts h dead q asked =
    let d = dead (reached_in_order a b ls n starts h) in
    leads_in_order (program_tree a) a b ls n (λ (p : ProgramTree). IsWantedDead p q names.items) refl starts h (record { asked = asked; some = d.0; dead = d.1 })

pub run_to_end : (a b : Plain) (ls : List Label) (n : ℕ) (o : Outcome) → start (program_tree a) 0 ≡ Some (configuration_of a) → HasRetraced a b ls n → IsEndOf o.kind (program_tree b) (configuration_of b)
    → written ls ≡ o.items.items → IsRunInOrder (program_tree a) o ls
run_to_end a b ls n o starts h ends writes =
    let to_end = leads_in_order (program_tree a) a b ls n (IsEndOf o.kind) refl starts h ends in
    (record { leads = to_end.0; writes = writes }, to_end.1)
