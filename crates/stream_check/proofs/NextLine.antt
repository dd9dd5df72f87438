-- The judge of lines before and after one more line.
use Rattle.std.proofs.Common.{◌≡◌, ◌≢◌, refl, sym, ap, subst, ◌∙◌, ℕ, zero, suc, ◌<◌, List, [], ◌∷◌, ◌++◌, replicate, Option, Some, None, Bool, true, false, ◌||◌, append-nil}
use Rattle.std.proofs.lemmas.List.Folds.{list_any-append}
use Rattle.text_scan.specs.Text.{Text}
use Rattle.run_types.specs.declared.types.End.{End}
use Rattle.run_types.specs.declared.types.Label.{Label}
use Rattle.run_types.specs.declared.types.Line.{Line}
use Rattle.run_types.specs.declared.types.Line.TheVariants as R
use Rattle.run_types.specs.declared.types.What.TheVariants as W
use Rattle.run_types.specs.declared.verdicts.Redex.{Redex}
use Rattle.run_types.specs.declared.verdicts.Verdict.{Verdict}
use Rattle.pool_syntax.specs.Terms.{ProgramTree}
use Rattle.pool_relation.specs.Configuration.{Configuration}
use Rattle.pool_relation.specs.Progress.{agent, HasOwnTransition}
use Rattle.pool_relation.specs.Transition.{run, start, transition}
use Rattle.pool_relation.proofs.Laws.{joined}
use Rattle.run_types.proofs.Laws.{same_some}
use Rattle.mesh_semantics.specs.Record.{ends_quiet, is_quiet_end, labels, labels_of}
use Rattle.pool_semantics.specs.PlainOf.{configuration_of, program_tree, is_spent}
use Rattle.record_check.specs.RecordJudgement.{IsRunOf, LeadsTo, StillMoves, first_agent, root}
use Rattle.record_check.specs.Verdicts.{StopsLine}
use Rattle.record_check.proofs.Laws.{labels_split}
use Rattle.record_parser.specs.Lines.{Told}
use Rattle.run_record.specs.Numbered.{numbered}
use Rattle.run_record.specs.Records.{is_end}
use Rattle.run_record.specs.Steps.{steps_of}
use Rattle.run_record.specs.declared.steps.Steps.{Steps}
use Rattle.stream_check.specs.declared.judge.Lines.{Lines}
use Rattle.stream_check.specs.Progress.{IsAfter, IsJudgedLine, IsReady, IsVerdictAt, StopsNext, judged_text}
use Rattle.stream_check.specs.Stream.{comes_next, has_end, next_number}
use Rattle.stream_check.proofs.StreamRows.{last_behind, number_kept}

-- the labels of lines and one more
pub labels_behind : (ls : List Line) (l : Line) → labels (ls ++ l ∷ []) ≡ labels ls ++ labels_of l
labels_behind ls l = labels_split ls (l ∷ []) ∙ ap (λ ms. labels ls ++ ms) (append-nil (labels_of l))

pub end_behind : (ls : List Line) (l : Line) (b : Bool) → has_end ls ≡ false → is_end l ≡ b → has_end (ls ++ l ∷ []) ≡ b
end_behind ls l b h i = list_any-append is_end ls (l ∷ []) ∙ (ap (λ c. c || (is_end l || false)) h ∙ by b i)
  where
    by : (b : Bool) → is_end l ≡ b → (is_end l || false) ≡ b
    by true i = rw i refl
    by false i = rw i refl

-- the labels that a line shows, by its steps
pub no_steps : (l : Line) → steps_of l ≡ None → labels_of l ≡ []
no_steps (R.End e) h = refl
no_steps (R.Event n e (W.Step label times)) h = absurd (let z : Some _ ≡ None = h in cc)
no_steps (R.Event n e what) h = refl

pub with_steps : (l : Line) (s : Steps) → steps_of l ≡ Some s → labels_of l ≡ replicate s.times s.label
with_steps (R.End e) s h = absurd (let z : None ≡ Some s = h in cc)
with_steps (R.Event n e (W.Step label times)) s h = let z = same_some h in ap (λ (s : Steps). replicate s.times s.label) z
with_steps (R.Event n e what) s h = absurd (let z : None ≡ Some s = h in cc)

-- a label that lines show first
first_of_labels : (xs ys : List Label) → xs ≢ [] → first_agent (xs ++ ys) ≡ first_agent xs
first_of_labels [] ys h = absurd (h refl)
first_of_labels (x ∷ xs) ys h = refl

still_some : (xs ys : List Label) → xs ≢ [] → xs ++ ys ≢ []
still_some [] ys h e = h refl
still_some (x ∷ xs) ys h e = let z : x ∷ (xs ++ ys) ≡ [] = e in cc

-- the root of lines that show a transition, with one more line
pub root_stays : (ls ms : List Line) → labels ls ≢ [] → root (ls ++ ms) ≡ root ls
root_stays ls ms h = ap first_agent (labels_split ls ms) ∙ first_of_labels (labels ls) (labels ms) h

module _ (p : ProgramTree) (ls : List Line) (l : Line) (j : Lines) (a : IsAfter p ls j) where
  -- the root has its name
  pub ready_begun : j.begun ≡ true → IsReady p ls l j
  ready_begun b =
      let some = a.moved b in
      record {
        program = a.program;
        fresh = a.fresh;
        unended = a.unended;
        from = a.leads.from;
        starts = ap (start p) (root_stays ls (l ∷ []) some) ∙ a.leads.starts;
        leads = a.leads.leads;
        unmoved = λ n. absurd (let z : true ≡ false = sym b ∙ n in cc);
        moved = λ _. λ e. still_some (labels ls) (labels (l ∷ [])) some (sym (labels_split ls (l ∷ [])) ∙ e);
        last = a.last;
      }

  -- the line shows no transition
  pub ready_none : j.begun ≡ false → labels_of l ≡ [] → IsReady p ls l j
  ready_none b none =
      let same : labels (ls ++ l ∷ []) ≡ labels ls = labels_behind ls l ∙ (ap (λ ms. labels ls ++ ms) none ∙ append-nil (labels ls)) in
      record {
        program = a.program;
        fresh = a.fresh;
        unended = a.unended;
        from = a.leads.from;
        starts = ap (λ ms. start p (first_agent ms)) same ∙ a.leads.starts;
        leads = a.leads.leads;
        unmoved = λ n. same ∙ a.unmoved n;
        moved = λ y. absurd (let z : false ≡ true = sym b ∙ y in cc);
        last = a.last;
      }

  pub ready_without : j.begun ≡ false → steps_of l ≡ None → IsReady p ls l j
  ready_without b h = ready_none b (no_steps l h)

  pub ready_zero : (s : Steps) → j.begun ≡ false → steps_of l ≡ Some s → s.times ≡ 0 → IsReady p ls l j
  ready_zero s b h z = ready_none b (with_steps l s h ∙ ap (λ n. replicate n s.label) z)

  -- the line shows the first transition
  pub ready_first : (s : Steps) (i : Lines) → j.begun ≡ false → steps_of l ≡ Some s → s.times ≢ 0 → program_tree i.filling.plain ≡ p → is_spent i.filling.plain ≡ false
      → start p (agent s.label) ≡ Some (configuration_of i.filling.plain) → i.begun ≡ true → i.last ≡ j.last → IsReady p ls l i
  ready_first s i b h some program fresh starts begun last = by s.times refl
    where
      by : (n : ℕ) → s.times ≡ n → IsReady p ls l i
      by zero e = absurd (some e)
      by (suc n) e =
          let none = a.unmoved b in
          let first : labels (ls ++ l ∷ []) ≡ s.label ∷ replicate n s.label =
          labels_behind ls l ∙ (ap (λ ms. ms ++ labels_of l) none ∙ (with_steps l s h ∙ ap (λ k. replicate k s.label) e)) in
          record {
            program = program;
            fresh = fresh;
            unended = a.unended;
            from = configuration_of i.filling.plain;
            starts = ap (λ ms. start p (first_agent ms)) first ∙ starts;
            leads = ap (run p (configuration_of i.filling.plain)) none;
            unmoved = λ n. absurd (let z : true ≡ false = sym begun ∙ n in cc);
            moved = λ _. λ k. let z : s.label ∷ replicate n s.label ≡ [] = sym first ∙ k in cc;
            last = last ∙ a.last;
          }

module _ (p : ProgramTree) (ls : List Line) (l : Line) (j : Lines) (a : IsReady p ls l j) where
  -- its transitions are possible
  pub after_step : (i : Lines) → comes_next j.last l ≡ true → is_end l ≡ false → program_tree i.filling.plain ≡ program_tree j.filling.plain → (is_spent j.filling.plain ≡ false → is_spent i.filling.plain ≡ false)
      → run (program_tree j.filling.plain) (configuration_of j.filling.plain) (labels_of l) ≡ Some (configuration_of i.filling.plain) → i.begun ≡ j.begun → i.last ≡ next_number j.last → IsAfter p (ls ++ l ∷ []) i
  after_step i n e program fresh leads begun last =
      let here : run p (configuration_of j.filling.plain) (labels_of l) ≡ Some (configuration_of i.filling.plain) =
      subst (λ (q : ProgramTree). run q (configuration_of j.filling.plain) (labels_of l) ≡ Some (configuration_of i.filling.plain)) a.program leads in
      record {
        program = program ∙ a.program;
        fresh = fresh a.fresh;
        unended = end_behind ls l false a.unended e;
        leads = record {
          from = a.from;
          starts = a.starts;
          leads = ap (run p a.from) (labels_behind ls l) ∙ (joined p a.from (configuration_of j.filling.plain) (labels ls) (labels_of l) a.leads ∙ here);
        };
        unmoved = λ h. a.unmoved (sym begun ∙ h);
        moved = λ h. a.moved (sym begun ∙ h);
        last = last ∙ (ap next_number a.last ∙ sym (last_behind 0 ls l (subst (λ (k : ℕ). comes_next k l ≡ true) a.last n) e));
      }

  -- one of them is impossible
  pub stops_next : (number : ℕ) (d : Configuration) (redex : Redex) → StopsLine (program_tree j.filling.plain) (configuration_of j.filling.plain) l number d redex → StopsNext p ls l number redex
  stops_next number d redex stops =
      record {
        from = a.from;
        between = configuration_of j.filling.plain;
        last = d;
        starts = a.starts;
        leads = a.leads;
        stops = subst (λ (q : ProgramTree). StopsLine q (configuration_of j.filling.plain) l number d redex) a.program stops;
      }

module _ (p : ProgramTree) (ls : List Line) (e : End) (d : Configuration) where
  -- an end line shows no transition
  end_led : LeadsTo p ls d → LeadsTo p (ls ++ R.End e ∷ []) d
  end_led t =
      let same : labels (ls ++ R.End e ∷ []) ≡ labels ls = labels_behind ls (R.End e) ∙ append-nil (labels ls) in
      record { from = t.from; starts = ap (λ ms. start p (first_agent ms)) same ∙ t.starts; leads = ap (run p t.from) same ∙ t.leads }

  quiet_here : has_end ls ≡ false → ends_quiet (ls ++ R.End e ∷ []) ≡ is_quiet_end (R.End e)
  quiet_here h = list_any-append is_quiet_end ls (R.End e ∷ []) ∙ (ap (λ b. b || (is_quiet_end (R.End e) || false)) (none ls h) ∙ by (is_quiet_end (R.End e)))
    where
      by : (b : Bool) → (b || false) ≡ b
      by true = refl
      by false = refl

      none : (xs : List Line) → has_end xs ≡ false → ends_quiet xs ≡ false
      none [] h = refl
      none (R.Event n v what ∷ xs) h = none xs h
      none (R.End v ∷ xs) h = absurd (let z : true ≡ false = h in cc)

  pub run_unquiet : has_end ls ≡ false → is_quiet_end (R.End e) ≡ false → LeadsTo p ls d → IsRunOf p (ls ++ R.End e ∷ [])
  run_unquiet h q t = record { last = d; run_to = end_led t; rests = λ k. absurd (let z : false ≡ true = sym (quiet_here h ∙ q) ∙ k in cc) }

  pub run_at_rest : ((lab : Label) → transition p d lab ≡ None) → LeadsTo p ls d → IsRunOf p (ls ++ R.End e ∷ [])
  run_at_rest r t = record { last = d; run_to = end_led t; rests = λ _. r }

  pub moves_still : (o : ℕ) → has_end ls ≡ false → is_quiet_end (R.End e) ≡ true → HasOwnTransition p d o → ((lab : Label) → agent lab < o → transition p d lab ≡ None) → LeadsTo p ls d
      → StillMoves p (ls ++ R.End e ∷ []) o
  moves_still o h q can least t = record { last = d; run_to = end_led t; quiet = quiet_here h ∙ q; can = can; least = λ k i m. none k i m.0 m.1 m.2 m.3 }
    where
      none : (k : ℕ) → k < o → (lab : Label) → agent lab ≡ k → (c : Configuration) → transition p d lab ≡ Some c → ⊥
      none k i lab s c z = let w : None ≡ Some c = sym (least lab (subst (λ (n : ℕ). n < o) (sym s) i)) ∙ z in cc

-- the line with the number of its name has its number
pub number_told : (names : List Text) (last : ℕ) (t : Told) (l : Line) → l ≡ numbered names t → comes_next last t.line ≡ true → comes_next last l ≡ true
number_told names last t l same next = ap (comes_next last) same ∙ (number_kept names last t.text t.line ∙ next)

-- a line of a text is judged as its line with the number of its name
pub judged_line : (p : ProgramTree) (names : List Text) (ls : List Line) (last : ℕ) (o : Option Told) (t : Told) (l : Line) (v w : Option Verdict) (text : Text) (j : Lines) → Some t ≡ o → comes_next last t.line ≡ true
    → l ≡ numbered names t → (comes_next last l ≡ true → IsVerdictAt p ls l j v) → v ≡ w → text ≡ judged_text names l w → IsJudgedLine p names ls last o w text j
judged_line p names ls last o t l v w text j is next same verdict found writes =
    record {
      told = t;
      is = sym is;
      next = next;
      verdict = subst (λ (x : Option Verdict). IsVerdictAt p ls (numbered names t) j x) found
          (subst (λ (x : Line). IsVerdictAt p ls x j v) same (verdict (number_told names last t l same next)));
      writes = writes ∙ ap (λ x. judged_text names x w) same;
    }
