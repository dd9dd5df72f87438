-- The grade of a program from a list of its outcomes that are all allowed.
use Rattle.std.proofs.Common.{◌≡◌, ◌<◌, ◌≤◌, ℕ, List, [], ◌∷◌, length, map, Bool, true, false, inl, inr, refl, sym, subst, arith, ◌∙◌}
use Rattle.std.proofs.lemmas.Bool.{and_parts}
use Rattle.text_scan.specs.Text.{Text}
use Rattle.run_types.specs.declared.types.Item.{Item}
use Rattle.run_types.specs.Tables.{Each}
use Rattle.record_writer.specs.RecordText.{item_text, joined}
use Rattle.pool_syntax.specs.Terms.{ProgramTree}
use Rattle.pool_relation.specs.Action as N
use Rattle.pool_relation.specs.Action.{Action, action}
use Rattle.pool_relation.specs.Configuration.{Configuration}
use Rattle.reachability.specs.Outcomes.{EndsWith}
use Rattle.reachability.specs.Search.{AnObject, IsFaulty, IsReached, IsStuck, IsUnfinished, is_in_call, is_left_over}
use Rattle.pool_search.specs.declared.outcomes.EndKind.{EndKind}
use Rattle.pool_search.specs.declared.outcomes.EndKind.TheVariants as K
use Rattle.pool_search.specs.declared.outcomes.Outcome.{Outcome}
use Rattle.pool_search.specs.OutcomeTargets.{HasAllOutcomes, HasOutcomeOf, IsOfKind, IsShown}
use Rattle.search_text.specs.Answers as A
use Rattle.search_text.specs.Answers.{Answers, Grades, GradesEnds, any_wrong}
use Rattle.search_text.specs.GradedRuns.{EndsAllowed, IsWell, RunsWell, SomeRunEnds}
use Rattle.search_text.specs.Grading.{ends_well, is_allowed, is_one_of, output_text}
use Rattle.search_text.specs.ListedOutcomes as T
use Rattle.search_text.specs.ListedOutcomes.{TellsAllowed}
use Rattle.search_text.specs.declared.answers.Found.{Found}
use Rattle.search_text.specs.declared.answers.Found.TheVariants as O
use Rattle.pool_search.specs.declared.queries.Cause.{Cause}
use Rattle.pool_search.specs.CutOff.{IsCutOff}
use Rattle.pool_search.specs.declared.queries.Query.{Query}
use Rattle.pool_search.specs.SearchTargets.{IsFinite}

-- the grade of what is told of outcomes that are all allowed
pub allowed_grade : (names : List Text) (p : ProgramTree) (allowed : List Text) (may_run_on : Bool) (most : ℕ) (list : List Outcome) (whole : Bool) (kept : ℕ) (why : Cause) (text : Text) (found : Found)
    → Each (IsShown p) list → (whole ≡ true → HasAllOutcomes p list) → Each (λ o. is_allowed allowed names o ≡ true) list → kept ≤ most → IsCutOff most kept why → TellsAllowed names list whole kept why may_run_on text found
    → GradesEnds names p allowed may_run_on most text found
allowed_grade names p allowed may_run_on most list true kept why text found shown all right within cut (T.listed some says is) = A.passes list kept (all refl) shown right (some refl) within says is
allowed_grade names p allowed may_run_on most list false kept why text found shown all right within cut (T.listed some says is) = A.unknown list kept why shown cut says is
allowed_grade names p allowed may_run_on most list whole kept why text found shown all right within cut (T.empty complete none asked says is) =
    A.running kept (subst (HasAllOutcomes p) none (all complete)) asked within says is

left_if_in_call : (a : Action) → is_in_call a ≡ true → is_left_over a ≡ true
left_if_in_call (N.Send b m args) h = refl
left_if_in_call (N.Waits b m) h = refl
left_if_in_call N.Finished h = absurd (cc h)
left_if_in_call (N.Local t vs) h = absurd (cc h)
left_if_in_call (N.Fault e) h = absurd (cc h)
left_if_in_call (N.New k) h = absurd (cc h)
left_if_in_call (N.Async b m args) h = absurd (cc h)
left_if_in_call (N.Write i) h = absurd (cc h)
left_if_in_call (N.Answer names) h = absurd (cc h)
left_if_in_call (N.Select choices) h = absurd (cc h)
left_if_in_call (N.Return q v) h = absurd (cc h)
left_if_in_call N.Stuck h = absurd (cc h)

unfinished_if_stuck : (p : ProgramTree) (d : Configuration) → IsStuck p d → IsUnfinished p d
unfinished_if_stuck p d s = record {
  at_end = s.at_end;
  left = AnObject s.name (record {
    object = s.waits.object;
    there = s.waits.there;
    sound = s.waits.sound;
    stays = left_if_in_call (action p s.name s.waits.object) s.waits.waits;
  });
}

-- no object has met an error at such an end, and none is in a call
end_is_well : (k : EndKind) (p : ProgramTree) (d : Configuration) → ends_well k ≡ true → IsOfKind k p d → ¬ (IsFaulty d) × ¬ (IsStuck p d)
end_is_well K.Fault p d well is = absurd (cc well)
end_is_well K.Stuck p d well is = absurd (cc well)
end_is_well K.Left p d well is = (is.2, is.1)
end_is_well K.Done p d well is = (is.1, λ s. is.0 (unfinished_if_stuck p d s))

-- a run whose outcome is in a list of allowed ones ends well
allowed_end : (names allowed : List Text) (p : ProgramTree) (list : List Outcome) (w : List Item) (d : Configuration) → Each (λ o. is_allowed allowed names o ≡ true) list → HasOutcomeOf p list w d
    → EndsAllowed names allowed p w d
allowed_end names allowed p [] w d each has = absurd has
allowed_end names allowed p (o ∷ os) w d each (inl has) =
    let parts = and_parts (ends_well o.kind) (is_one_of (output_text names o) allowed) each.0 in
    let well = end_is_well o.kind p d parts.0 has.kind in
    record {
      no_error = well.0;
      none_in_a_call = well.1;
      renaming = has.names;
      output = subst (λ (x : List Item). is_one_of (joined (map (item_text names) x)) allowed ≡ true) has.wrote parts.1;
    }
allowed_end names allowed p (o ∷ os) w d each (inr has) = allowed_end names allowed p os w d each.1 has

each_run : (names allowed : List Text) (p : ProgramTree) (list : List Outcome) → HasAllOutcomes p list → Each (λ o. is_allowed allowed names o ≡ true) list → (w : List Item) (d : Configuration)
    → EndsWith p w d → EndsAllowed names allowed p w d
each_run names allowed p list all each w d ends = allowed_end names allowed p list w d each (all.under_names w d ends)

-- an answer that found nothing shows that there is nothing
pub finite_of : (names : List Text) (p : ProgramTree) (q : Query) (text : Text) (found : Found) → Answers names p q text found → found ≡ O.Finite → (kept : ℕ) × IsFinite p q kept
finite_of names p q text found (A.stuck ls run says is) h = absurd (let z : O.Shown ≡ O.Finite = sym is ∙ h in cc)
finite_of names p q text found (A.dead ls objects run says is) h = absurd (let z : O.Shown ≡ O.Finite = sym is ∙ h in cc)
finite_of names p q text found (A.faulty ls run says is) h = absurd (let z : O.Shown ≡ O.Finite = sym is ∙ h in cc)
finite_of names p q text found (A.finite kept never says is) h = (kept, never)
finite_of names p q text found (A.over kept why cut says is) h = absurd (let z : O.Over ≡ O.Finite = sym is ∙ h in cc)

-- what a query that found nothing says of a configuration that is reached
well_where : (p : ProgramTree) (most kept : ℕ) → IsFinite p (any_wrong most) kept → (d : Configuration) → IsReached p d → IsWell p d
well_where p most kept finite d reached = record {
  no_error = λ h. (finite.never d reached).not_faulty (record { asked = refl; holds = h });
  none_dead = λ h. (finite.never d reached).not_stuck (record { asked = refl; holds = h });
  goes_on = λ o w. finite.goes_on refl d o reached w;
}

-- an outcome that is shown is that of a run that ends
ends_of : (p : ProgramTree) (list : List Outcome) → 0 < length list → Each (IsShown p) list → SomeRunEnds p
ends_of p [] some each = absurd (omega arith)
ends_of p (o ∷ os) some each =
    let run = each.0.1 in
    record {
      wrote = o.items.items;
      last = run.leads.last;
      ends = record {
        root = 0;
        first = run.leads.first;
        labels = each.0.0;
        starts = run.leads.starts;
        leads = run.leads.leads;
        at_end = run.leads.holds.at_end;
        writes = run.writes;
      };
    }

-- a pass says so of all runs
pub pass_runs_well : (names allowed : List Text) (p : ProgramTree) (may_run_on : Bool) (most : ℕ) (text : Text) → Grades names p allowed may_run_on most text O.Finite → RunsWell names allowed may_run_on p
pass_runs_well names allowed p may_run_on most text (A.by_search answers other) = absurd (other refl)
pass_runs_well names allowed p may_run_on most text (A.by_ends (A.passes list kept all shown right some within says is) nothing) = record {
  ends = λ w d e. each_run names allowed p list all right w d e;
  each = λ d r. well_where p most (nothing refl).0 (nothing refl).1 d r;
  some = λ m. ends_of p list (some m) shown;
}
pass_runs_well names allowed p may_run_on most text (A.by_ends (A.running kept all asked within says is) nothing) = absurd (cc is)
pass_runs_well names allowed p may_run_on most text (A.by_ends (A.fails o ls run wrong says is) nothing) = absurd (cc is)
pass_runs_well names allowed p may_run_on most text (A.by_ends (A.unknown list kept why shown cut says is) nothing) = absurd (cc is)
