-- A search for outcomes that has visited all its entries has the outcome of every run that ends.
use Rattle.std.proofs.Common.{◌≡◌, ◌≤◌, ◌<◌, ◌⊎◌, inl, inr, sym, ap, ◌∙◌, subst, ℕ, zero, suc, List, [], ◌∷◌, ◌++◌, length, map, Option, Some, None, true, arith}
use Rattle.std.specs.Prelude.{IfSome}
use Rattle.std.specs.List.{slice_get}
use Rattle.run_types.specs.declared.types.Item.{Item}
use Rattle.run_types.specs.Tables.{Each}
use Rattle.run_types.proofs.Laws.{first, second}
use Rattle.pool_syntax.specs.Terms.{ProgramTree}
use Rattle.pool_relation.specs.Configuration.{Configuration}
use Rattle.reachability.specs.Search.{IsAtEnd}
use Rattle.reachability.specs.Renaming.{Renaming, renamed_item}
use Rattle.reachability.specs.Outcomes.{EndsWith, IsOneOf, name_none, all_name_none}
use Rattle.search_laws.specs.Renamed.{IsNameless, IsRenamed}
use Rattle.search_laws.specs.Outcomes.{Passed, IsPassed, IsWholeWithChoices, EndsAlike}
use Rattle.search_laws.specs.Tried.{with_writes}
use Rattle.search_laws.proofs.Laws.{every_end_is_kept_by_choices, ends_alike, at_end_kept, items_are}
use Rattle.pool_search.specs.declared.outcomes.EndKind.{EndKind}
use Rattle.pool_search.specs.declared.outcomes.EndKind.TheVariants as K
use Rattle.pool_search.specs.declared.outcomes.Outcome.{Outcome}
use Rattle.visited_set.specs.VisitedConfigurations.{entry}
use Rattle.pool_search.specs.FoundOutcomes.{HasOne, IsNoted}
use Rattle.pool_search.specs.OutcomeTargets.{IsOfKind, IsShown, HasOutcome, HasOutcomeOf, HasAllOutcomes, outputs_of}
use Rattle.pool_search.specs.Trials.{CanMove}
use Rattle.pool_search.specs.Progress.{Entries, IsReachedWith, IsSearchedTo}
use Rattle.visited_set.proofs.Laws.{each_more}
use Rattle.pool_search.proofs.RunExtension.{gathers_writes}
use Rattle.pool_search.proofs.SearchComplete.{visited_all, whole_by_visits}

-- the kind of an end is that of the end under other names
kind_before : (k : EndKind) (p : ProgramTree) (c d : Configuration) → EndsAlike p c d → IsOfKind k p d → IsOfKind k p c
kind_before K.Fault p c d a h = a.faulty_back h
kind_before K.Stuck p c d a h = (a.stuck_back h.0, λ f. h.1 (a.faulty f))
kind_before K.Left p c d a h = (a.unfinished_back h.0, λ s. h.1 (a.stuck s), λ f. h.2 (a.faulty f))
kind_before K.Done p c d a h = (λ u. h.0 (a.unfinished u), λ f. h.1 (a.faulty f))

-- if no outcome of the list names an object, a run has its outcome as it stands
as_it_stands : (p : ProgramTree) (os : List Outcome) (w : List Item) (d : Configuration) → all_name_none (outputs_of os) ≡ true → HasOutcomeOf p os w d → HasOutcome p os w d
as_it_stands p [] w d n h = absurd h
as_it_stands p (o ∷ os) w d n (inl h) =
    let none = ap name_none (sym h.wrote) ∙ first (name_none o.items.items) (all_name_none (outputs_of os)) n in
    inl (h.wrote ∙ items_are h.names.to w none, h.kind)
as_it_stands p (o ∷ os) w d n (inr h) = inr (as_it_stands p os w d (second (name_none o.items.items) (all_name_none (outputs_of os)) n) h)

-- an end that the list has under other names shows the outcome of a run
outcome_under : (p : ProgramTree) (os : List Outcome) (w : List Item) (d e : Configuration) (f : Renaming) → IsRenamed f.to d e → EndsAlike p d e → IsAtEnd p e
    → IsReachedWith p with_writes (map (renamed_item f.to) w) e → HasOutcome p os (map (renamed_item f.to) w) e → HasOutcomeOf p os w d
outcome_under p [] w d e f same alike ended reached h = absurd h
outcome_under p (o ∷ os) w d e f same alike ended reached (inr h) = inr (outcome_under p os w d e f same alike ended reached h)
outcome_under p (o ∷ os) w d e f same alike ended reached (inl h) = inl (record {
  names = f;
  labels = reached.labels;
  shows = record {
    leads = record { first = reached.first; last = e; starts = reached.starts; leads = reached.leads; holds = record { at_end = ended; kind = h.1 } };
    writes = sym (gathers_writes p reached.labels) ∙ reached.kept ∙ sym h.0;
  };
  same = same;
  wrote = h.0;
  kind = kind_before o.kind p d e alike h.1;
})

is_one_of : (p : ProgramTree) (os : List Outcome) (w : List Item) (d : Configuration) → HasOutcome p os w d → IsOneOf w (outputs_of os)
is_one_of p [] w d h = h
is_one_of p (o ∷ os) w d (inl h) = inl h.0
is_one_of p (o ∷ os) w d (inr h) = inr (is_one_of p os w d h)

-- the property of an entry
each_in : (P : Passed → Type 0) (es : Entries) (n : ℕ) (w : List Item) (c : Configuration) → Each P es → IsPassed n w c es → P (entry n w c)
each_in P [] n w c h i = absurd i
each_in P (e ∷ es) n w c h (inl i) =
    subst (λ (m : ℕ). P (entry m w c)) i.0 (subst (λ (v : List Item). P (entry e.next v c)) i.1 (subst (λ (d : Configuration). P (entry e.next e.items d)) i.2 h.0))
each_in P (e ∷ es) n w c h (inr i) = each_in P es n w c h.1 i

pub no_outcome_is_missing : (p : ProgramTree) (os : List Outcome) (es : Entries) (at : ℕ) → IsNameless p → length es ≤ at → IsSearchedTo p with_writes (IsNoted p os) es at → HasAllOutcomes p os
no_outcome_is_missing p os es at less all s = record { under_names = under; exactly = exact }
  where
    whole : IsWholeWithChoices p es
    whole = whole_by_visits p (IsNoted p os) es at less all s

    under : (w : List Item) (d : Configuration) → EndsWith p w d → HasOutcomeOf p os w d
    under w d e =
        let k = every_end_is_kept_by_choices p es w d less whole e in
        let v = map (renamed_item k.names.to) w in
        let ended : IsAtEnd p k.seen = at_end_kept k.names p d k.seen less k.same e.at_end in
        let noted = each_in (IsNoted p os) es k.next v k.seen (visited_all p with_writes (IsNoted p os) es at all s) k.is_in ended in
        let reached = each_in (λ (x : Passed). IsReachedWith p with_writes x.items x.configuration) es k.next v k.seen s.reached k.is_in in
        outcome_under p os w d k.seen k.names k.same (ends_alike k.names p d k.seen less k.same e.at_end) ended reached noted

    exact : all_name_none (outputs_of os) ≡ true → (w : List Item) (d : Configuration) → EndsWith p w d → IsOneOf w (outputs_of os) × HasOutcome p os w d
    exact none w d e =
        let has = as_it_stands p os w d none (under w d e) in
        (is_one_of p os w d has, has)

-- an outcome that was found is that of an end
pub has_by_one : (p : ProgramTree) (os : List Outcome) (k : EndKind) (w : List Item) (d : Configuration) → IsOfKind k p d → HasOne k w os → HasOutcome p os w d
has_by_one p [] k w d h i = absurd i
has_by_one p (o ∷ os) k w d h (inl i) = inl (i.1, subst (λ (x : EndKind). IsOfKind x p d) (sym i.0) h)
has_by_one p (o ∷ os) k w d h (inr i) = inr (has_by_one p os k w d h i)

pub has_more : (p : ProgramTree) (os more : List Outcome) (w : List Item) (d : Configuration) → HasOutcome p os w d → HasOutcome p (os ++ more) w d
has_more p [] more w d h = absurd h
has_more p (o ∷ os) more w d (inl h) = inl h
has_more p (o ∷ os) more w d (inr h) = inr (has_more p os more w d h)

pub noted_more : (p : ProgramTree) (os more new : List Outcome) → new ≡ os ++ more → (e : Passed) → IsNoted p os e → IsNoted p new e
noted_more p os more new is e h = λ ended. subst (λ (xs : List Outcome). HasOutcome p xs e.items e.configuration) (sym is) (has_more p os more e.items e.configuration (h ended))

-- where a label is possible is no end
pub noted_moving : (p : ProgramTree) (os : List Outcome) (e : Passed) → CanMove p e.configuration → IsNoted p os e
noted_moving p os e moves ended = absurd (let z : None ≡ Some moves.next = sym (ended moves.label) ∙ moves.step in cc)

-- the run to an end shows its outcome
pub shown_by : (p : ProgramTree) (o : Outcome) (c : Configuration) → IsReachedWith p with_writes o.items.items c → IsAtEnd p c → IsOfKind o.kind p c → IsShown p o
shown_by p o c r ended kind = (
  r.labels,
  record {
    leads = record { first = r.first; last = c; starts = r.starts; leads = r.leads; holds = record { at_end = ended; kind = kind } };
    writes = sym (gathers_writes p r.labels) ∙ r.kept;
  },
)

-- the outcome of an end that was noted is in the list
pub noted_by : (p : ProgramTree) (os : List Outcome) (k : EndKind) (w : List Item) (c : Configuration) → IsOfKind k p c → HasOne k w os → (o : Option Passed) → IfSome o (λ e. c ≡ e.configuration)
    → IfSome o (λ e. w ≡ e.items) → IfSome o (λ e. IsNoted p os e)
noted_by p os k w c h one None a b = tt
noted_by p os k w c h one (Some e) a b = λ _.
    subst (λ (v : List Item). HasOutcome p os v e.configuration) b (subst (λ (d : Configuration). HasOutcome p os w d) a (has_by_one p os k w c h one))

-- the configuration of an entry is reached, with what was written before it
pub reached_at : (p : ProgramTree) (es : Entries) (at : ℕ) (w : List Item) (c : Configuration) → at < length es → Each (λ (e : Passed). IsReachedWith p with_writes e.items e.configuration) es
    → IfSome (slice_get es at) (λ e. c ≡ e.configuration) → IfSome (slice_get es at) (λ e. w ≡ e.items) → IsReachedWith p with_writes w c
reached_at p [] at w c inside all a b = absurd (omega (arith, inside))
reached_at p (e ∷ es) zero w c inside all a b = subst (λ (v : List Item). IsReachedWith p with_writes v c) (sym b) (subst (λ (d : Configuration). IsReachedWith p with_writes e.items d) (sym a) all.0)
reached_at p (e ∷ es) (suc at) w c inside all a b = reached_at p es at w c (omega (arith, inside)) all.1 a b

-- one more outcome is shown
pub shown_more : (p : ProgramTree) (os new : List Outcome) (o : Outcome) → IsShown p o → (new ≡ os) ⊎ (new ≡ os ++ o ∷ []) → Each (IsShown p) os → Each (IsShown p) new
shown_more p os new o h (inl is) all = subst (Each (IsShown p)) (sym is) all
shown_more p os new o h (inr is) all = subst (Each (IsShown p)) (sym is) (each_more (IsShown p) os o all h)
