-- The judge that fills in local transitions, before and after one more line.
use Rattle.std.proofs.Common.{◌≡◌, ◌≢◌, ◌⊎◌, inl, inr, refl, sym, ap, ap₂, subst, ◌∙◌, ℕ, zero, suc, ◌<◌, List, [], ◌∷◌, ◌++◌, replicate, Option, Some, None, Bool, true, false, append_assoc, append-nil, arith}
use Rattle.text_scan.specs.Text.{Text}
use Rattle.run_types.specs.declared.types.Label.{Label}
use Rattle.run_types.specs.declared.types.Label.TheVariants as L
use Rattle.run_types.specs.declared.types.What.TheVariants as W
use Rattle.run_types.specs.declared.types.Event.{Event}
use Rattle.run_types.specs.declared.types.End.{End}
use Rattle.run_types.specs.declared.types.Line.{Line}
use Rattle.run_types.specs.declared.types.Line.TheVariants as R
use Rattle.run_types.specs.declared.verdicts.Redex.{Redex}
use Rattle.run_types.specs.declared.verdicts.Verdict.{Verdict}
use Rattle.run_types.specs.declared.verdicts.Verdict.TheVariants as V
use Rattle.pool_syntax.specs.Terms.{ProgramTree}
use Rattle.pool_relation.specs.Configuration.{Configuration}
use Rattle.pool_relation.specs.Progress.{agent}
use Rattle.pool_relation.specs.Transition.{run, start, transition}
use Rattle.pool_relation.proofs.Laws.{joined}
use Rattle.mesh_semantics.specs.Record.{ends_quiet, is_quiet_end, labels, labels_of}
use Rattle.pool_semantics.specs.PlainOf.{configuration_of, program_tree, is_spent}
use Rattle.record_writer.specs.WrittenText.{writes_of, writes_text}
use Rattle.record_check.specs.RecordJudgement.{Judged, LeadsTo, first_agent, root}
use Rattle.record_check.proofs.Laws.{labels_split}
use Rattle.run_record.specs.Records.{is_end}
use Rattle.run_record.specs.Steps.{steps_of}
use Rattle.run_record.specs.declared.steps.Steps.{Steps}
use Rattle.stream_check.specs.declared.filling.Filling.{Filling}
use Rattle.stream_check.specs.declared.judge.Lines.{Lines}
use Rattle.stream_check.specs.Filled.{AllAtRest, AreAtRest, AreInPlace, AreNumbered, HaveNoLocal, IsAtRest, IsFull, IsFilled, shows_local, unnumbered_end, without_local, without_local_of}
use Rattle.stream_check.specs.FilledStream.{IsFilledFront}
use Rattle.stream_check.specs.FillingLines.{HasFilled, IsFilledAfter, IsFilledStop, IsFilledUpTo, IsReadyToFill, stop_text}
use Rattle.stream_check.specs.FillProgress.{Passes, Quiets, Stops, number_after, renumbered, with_done}
use Rattle.stream_check.specs.Followed.{IsJudged}
use Rattle.stream_check.specs.Progress.{IsEndVerdict}
use Rattle.stream_check.specs.Stream.{comes_next, has_end, next_number}
use Rattle.stream_check.proofs.FilledPlaces.{own_in_place, own_renumbered}
use Rattle.stream_check.proofs.FilledVerdict.{ended_in, led_to, stopped_in, told_in, whole}
use Rattle.stream_check.proofs.GrownLines.{grows_line}
use Rattle.stream_check.proofs.KeptLines.{kept_renumbered, local_gone, numbered_push, own_kept, shown_renumbered, without_split}
use Rattle.stream_check.proofs.LineWrites.{end_without, writes_behind, writes_same}
use Rattle.stream_check.proofs.NextLine.{end_behind, root_stays}
use Rattle.stream_check.proofs.RootOfLines.{first_own, rooted}
use Rattle.stream_check.proofs.StreamRows.{last_behind}

-- lines without local transitions, and one more
kept_behind : (ls : List Line) (l : Line) → without_local (ls ++ l ∷ []) ≡ without_local ls ++ without_local_of l
kept_behind ls l = without_split ls (l ∷ []) ∙ ap (λ xs. without_local ls ++ xs) (append-nil (without_local_of l))

none_kept : (l : Line) → labels_of l ≡ [] → labels (without_local_of l) ≡ []
none_kept (R.Event n e (W.Step (L.Local o) times)) h = refl
none_kept (R.Event n e (W.Step lab times)) h = append-nil (replicate times lab) ∙ h
none_kept (R.Event n e what) h = refl
none_kept (R.End e) h = refl

still_some : (xs ys : List Label) → xs ≢ [] → xs ++ ys ≢ []
still_some [] ys h e = h refl
still_some (x ∷ xs) ys h e = let z : x ∷ (xs ++ ys) ≡ [] = e in cc

line_of_steps : (l : Line) (s : Steps) → steps_of l ≡ Some s → (n : ℕ) × (e : Event) × (l ≡ R.Event n e (W.Step s.label s.times))
line_of_steps (R.End e) s h = absurd (let z : None ≡ Some s = h in cc)
line_of_steps (R.Event n e (W.Step label times)) s h = (n, e, ap (λ (s : Option Steps). elim s as (λ x. Line) [ None ↦ R.Event n e (W.Step label times) | Some t ↦ R.Event n e (W.Step t.label t.times) ]) h)
line_of_steps (R.Event n e what) s h = absurd (let z : None ≡ Some s = h in cc)

-- nothing was read
pub fills_first : (p : ProgramTree) (j : Lines) → program_tree j.filling.plain ≡ p → is_spent j.filling.plain ≡ false → start p 0 ≡ Some (configuration_of j.filling.plain) → j.filling.lines ≡ [] → j.filling.last ≡ 0
    → j.begun ≡ false → j.last ≡ 0 → IsFilledAfter p [] j
fills_first p j program fresh starts cleared filled begun last =
    record {
      program = program;
      fresh = fresh;
      unended = refl;
      from = configuration_of j.filling.plain;
      starts = starts;
      fs = [];
      filled = record { same = refl; numbered = λ more h. subst (λ (n : ℕ). AreNumbered n more) filled h; in_place = λ more h. h; leads = refl };
      cleared = cleared;
      unmoved = λ b. (refl, refl);
      moved = λ b. absurd (let z : false ≡ true = sym begun ∙ b in cc);
      last = last;
    }

module _ (p : ProgramTree) (ls : List Line) (l : Line) (j : Lines) (a : IsFilledAfter p ls j) where
  kept_labels : labels (without_local (ls ++ l ∷ [])) ≡ labels (without_local ls) ++ labels (without_local_of l)
  kept_labels = ap labels (kept_behind ls l) ∙ labels_split (without_local ls) (without_local_of l)

  -- the root has its name
  pub to_fill_begun : j.begun ≡ true → IsReadyToFill p ls l j
  to_fill_begun b =
      let some = a.moved b in (
        record {
          program = a.program;
          fresh = a.fresh;
          unended = a.unended;
          from = a.from;
          starts = ap (start p) (ap root (kept_behind ls l) ∙ root_stays (without_local ls) (without_local_of l) some) ∙ a.starts;
          fs = a.fs;
          filled = a.filled;
          cleared = a.cleared;
          unmoved = λ n. absurd (let z : true ≡ false = sym b ∙ n in cc);
          moved = λ _. λ e. still_some (labels (without_local ls)) (labels (without_local_of l)) some (sym kept_labels ∙ e);
          last = a.last;
        },
        λ n. absurd (let z : true ≡ false = sym b ∙ n in cc),
      )

  -- the line shows no transition
  pub to_fill_none : j.begun ≡ false → labels_of l ≡ [] → IsReadyToFill p ls l j
  to_fill_none b none =
      let same : labels (without_local (ls ++ l ∷ [])) ≡ labels (without_local ls) = kept_labels ∙ (ap (λ ms. labels (without_local ls) ++ ms) (none_kept l none) ∙ append-nil (labels (without_local ls))) in (
        record {
          program = a.program;
          fresh = a.fresh;
          unended = a.unended;
          from = a.from;
          starts = ap (λ ms. start p (first_agent ms)) same ∙ a.starts;
          fs = a.fs;
          filled = a.filled;
          cleared = a.cleared;
          unmoved = λ n. ((a.unmoved n).0, same ∙ (a.unmoved n).1);
          moved = λ y. absurd (let z : false ≡ true = sym b ∙ y in cc);
          last = a.last;
        },
        λ n. none,
      )

  -- the line shows the first transition
  pub to_fill_first : (s : Steps) (i : Lines) → shows_local l ≡ false → j.begun ≡ false → steps_of l ≡ Some s → s.times ≢ 0 → program_tree i.filling.plain ≡ p → is_spent i.filling.plain ≡ false
      → start p (agent s.label) ≡ Some (configuration_of i.filling.plain) → i.filling.lines ≡ j.filling.lines → i.filling.last ≡ j.filling.last → i.begun ≡ true → i.last ≡ j.last → IsReadyToFill p ls l i
  to_fill_first s i own b h some program fresh starts lines filled begun last =
      let is = line_of_steps l s h in
      let none = a.unmoved b in
      let f = a.filled in
      let behind : labels (without_local (ls ++ l ∷ [])) ≡ labels (without_local_of l) = kept_labels ∙ ap (λ ms. ms ++ labels (without_local_of l)) none.1 in
      let name : root (without_local (ls ++ l ∷ [])) ≡ agent s.label =
      ap first_agent (behind ∙ sym (append-nil (labels (without_local_of l)))) ∙ first_own l is.0 is.1 s.label s.times is.2 own some [] in (
        record {
          program = program;
          fresh = fresh;
          unended = a.unended;
          from = configuration_of i.filling.plain;
          starts = ap (start p) name ∙ starts;
          fs = a.fs;
          filled =
              record {
                same = f.same;
                numbered = λ more k. f.numbered more (subst (λ (n : ℕ). AreNumbered n more) filled k);
                in_place = f.in_place;
                leads = ap (run p (configuration_of i.filling.plain)) none.0;
              };
          cleared = lines ∙ a.cleared;
          unmoved = λ n. absurd (let z : true ≡ false = sym begun ∙ n in cc);
          moved = λ _. λ e. shown is.0 is.1 is.2 (sym behind ∙ e);
          last = last ∙ a.last;
        },
        λ n. absurd (let z : true ≡ false = sym begun ∙ n in cc),
      )
    where
      shown : (n : ℕ) (e : Event) → l ≡ R.Event n e (W.Step s.label s.times) → labels (without_local_of l) ≢ []
      shown n e is none = by s.times some (sym (ap (λ ms. labels ms) (ap without_local_of is ∙ own_kept n e s.label s.times (sym (ap shows_local is) ∙ own))) ∙ none)
        where
          by : (t : ℕ) → t ≢ 0 → replicate t s.label ++ [] ≡ [] → ⊥
          by zero k e = k refl
          by (suc t) k e = let z : s.label ∷ (replicate t s.label ++ []) ≡ [] = e in cc

  -- the line shows local transitions
  pub filled_past : (i : Lines) → shows_local l ≡ true → is_end l ≡ false → comes_next j.last l ≡ true → i.filling ≡ j.filling → i.begun ≡ j.begun → i.last ≡ next_number j.last → IsFilledAfter p (ls ++ l ∷ []) i
  filled_past i local event next filling begun last =
      let same : without_local (ls ++ l ∷ []) ≡ without_local ls = kept_behind ls l ∙ (ap (λ xs. without_local ls ++ xs) (local_gone l local) ∙ append-nil (without_local ls)) in
      record {
        program = ap (λ f. program_tree f.plain) filling ∙ a.program;
        fresh = ap (λ f. is_spent f.plain) filling ∙ a.fresh;
        unended = end_behind ls l false a.unended event;
        from = a.from;
        starts = ap (λ xs. start p (root xs)) same ∙ a.starts;
        fs = a.fs;
        filled =
            subst (λ (kept : List Line). HasFilled p a.from kept a.fs i.filling.last (configuration_of i.filling.plain)) (sym same)
            (subst (λ (f : Filling). HasFilled p a.from (without_local ls) a.fs f.last (configuration_of f.plain)) (sym filling) a.filled);
        cleared = ap (λ f. f.lines) filling ∙ a.cleared;
        unmoved = λ n. let u = a.unmoved (sym begun ∙ n) in (u.0, ap labels same ∙ u.1);
        moved = λ y. λ e. a.moved (sym begun ∙ y) (sym (ap labels same) ∙ e);
        last = last ∙ (ap next_number a.last ∙ sym (last_behind 0 ls l (subst (λ (k : ℕ). comes_next k l ≡ true) a.last next) event));
      }

-- a line before the first transition
pub passes_silent : (f g : Filling) (l : Line) → shows_local l ≡ false → labels_of l ≡ [] → g.plain ≡ f.plain → g.lines ≡ f.lines ++ renumbered f.last l ∷ [] → g.last ≡ number_after f.last l
    → (w : Passes f g (without_local_of l)) × (labels w.grows.added ≡ [])
passes_silent f g l own none plain lines last =
    let its = renumbered f.last l in (
      record {
        grows =
            grows_line f g l (ap program_tree plain) (λ s. ap is_spent plain ∙ s) lines last
            (ap (run (program_tree f.plain) (configuration_of f.plain)) none ∙ ap (λ q. Some (configuration_of q)) (sym plain));
        in_place = λ more h. own_in_place its more (own_renumbered f.last l own) h;
      },
      append-nil (labels_of its) ∙ (shown_renumbered f.last l ∙ none),
    )

-- more lines were filled
filled_more : (p : ProgramTree) (c0 : Configuration) (kept fs : List Line) (f g : Filling) (ks : List Line) → HasFilled p c0 kept fs f.last (configuration_of f.plain) → program_tree f.plain ≡ p
    → (w : Passes f g ks) → HasFilled p c0 (kept ++ ks) (fs ++ w.grows.added) g.last (configuration_of g.plain)
filled_more p c0 kept fs f g ks k program w =
    let added = w.grows.added in
    record {
      same = without_split fs added ∙ ap₂ (λ xs ys. xs ++ ys) k.same w.grows.adds.same;
      numbered = λ more h. subst (λ (xs : List Line). AreNumbered 0 xs) (sym (append_assoc fs added more)) (k.numbered (added ++ more) (w.grows.adds.numbered more h));
      in_place = λ more h. subst (λ (xs : List Line). AreInPlace xs) (sym (append_assoc fs added more)) (k.in_place (added ++ more) (w.in_place more h));
      leads =
          ap (run p c0) (labels_split fs added)
          ∙ (joined p c0 (configuration_of f.plain) (labels fs) (labels added) k.leads
          ∙ subst (λ (t : ProgramTree). run t (configuration_of f.plain) (labels added) ≡ Some (configuration_of g.plain)) program w.grows.leads);
    }

-- what is full in a list is so behind others
module _ (p : ProgramTree) (fs ms xs : List Line) (none : ms ≡ []) where
  full_behind : (o : ℕ) → IsFull (ms ++ xs) o → IsFull (fs ++ xs) o
  full_behind o f = record {
    before = fs ++ f.before;
    number = f.number;
    event = f.event;
    whole = ap (λ ys. fs ++ ys) (sym (ap (λ zs. zs ++ xs) none) ∙ f.whole) ∙ sym (append_assoc fs f.before (R.Event f.number f.event (W.Step (L.Local o) 1000000) ∷ []));
  }

  one_behind : (d : Configuration) (o : ℕ) → IsAtRest p (ms ++ xs) d o → IsAtRest p (fs ++ xs) d o
  one_behind d o (inl n) = inl n
  one_behind d o (inr f) = inr (full_behind o f)

  pub rest_behind : (d : Configuration) (lab : Label) → AreAtRest p (ms ++ xs) d lab → AreAtRest p (fs ++ xs) d lab
  rest_behind d lab h = by lab h
    where
      pair : (b o : ℕ) → ((transition p d (L.Local b) ≡ None) × IsAtRest p (ms ++ xs) d o) ⊎ IsFull (ms ++ xs) b → ((transition p d (L.Local b) ≡ None) × IsAtRest p (fs ++ xs) d o) ⊎ IsFull (fs ++ xs) b
      pair b o (inl (n, r)) = inl (n, one_behind d o r)
      pair b o (inr f) = inr (full_behind b f)

      by : (lab : Label) → AreAtRest p (ms ++ xs) d lab → AreAtRest p (fs ++ xs) d lab
      by (L.Answer b o m args) h = pair b o h
      by (L.Return b o v) h = pair b o h
      by lab h = one_behind d (agent lab) h

  pub all_behind : (d : Configuration) → AllAtRest p (ms ++ xs) d → AllAtRest p (fs ++ xs) d
  all_behind d (inl n) = inl n
  all_behind d (inr (q, f)) = inr (q, full_behind q f)

-- a copy of lines without local transitions
record Copy (last : ℕ) (ls : List Line) : Type 0 where
  lines : List Line
  same : without_local lines ≡ without_local ls
  own : HaveNoLocal lines
  numbered : AreNumbered last lines

copied : (last : ℕ) (ls : List Line) → Copy last ls
copied last [] = record { lines = []; same = refl; own = tt; numbered = tt }
copied last (l ∷ ls) = by (shows_local l) refl (λ k. copied k ls)
  where
    by : (b : Bool) → shows_local l ≡ b → ((k : ℕ) → Copy k ls) → Copy last (l ∷ ls)
    by true h rest = let c = rest last in record { lines = c.lines; same = c.same ∙ ap (λ xs. xs ++ without_local ls) (sym (local_gone l h)); own = c.own; numbered = c.numbered }
    by false h rest =
        let c = rest (number_after last l) in
        record {
          lines = renumbered last l ∷ c.lines;
          same = ap₂ (λ xs ys. xs ++ ys) (kept_renumbered last l) c.same;
          own = (own_renumbered last l h, c.own);
          numbered = numbered_push last l c.lines c.numbered;
        }

module _ (p : ProgramTree) (ls : List Line) (l : Line) (j : Lines) (ready : IsReadyToFill p ls l j) where
  abbrev a : IsFilledUpTo p ls (ls ++ l ∷ []) j
  a = ready.0

  -- its transitions are possible
  pub filled_after : (g : Filling) (i : Lines) (w : Passes j.filling g (without_local_of l)) → (j.begun ≡ false → labels w.grows.added ≡ []) → comes_next j.last l ≡ true → is_end l ≡ false
      → i.filling ≡ record g { lines = [] } → i.begun ≡ j.begun → i.last ≡ next_number j.last → IsFilledAfter p (ls ++ l ∷ []) i
  filled_after g i w silent next event filling begun last =
      let fs = a.fs ++ w.grows.added in
      let same = kept_behind ls l in
      let more = filled_more p a.from (without_local ls) a.fs j.filling g (without_local_of l) a.filled a.program w in
      record {
        program = ap (λ f. program_tree f.plain) filling ∙ (w.grows.program ∙ a.program);
        fresh = ap (λ f. is_spent f.plain) filling ∙ w.grows.going_on a.fresh;
        unended = end_behind ls l false a.unended event;
        from = a.from;
        starts = a.starts;
        fs = fs;
        filled =
            subst (λ (f : Filling). HasFilled p a.from (without_local (ls ++ l ∷ [])) fs f.last (configuration_of f.plain)) (sym filling)
            (subst (λ (kept : List Line). HasFilled p a.from kept fs g.last (configuration_of g.plain)) (sym same) more);
        cleared = ap (λ f. f.lines) filling;
        unmoved = λ n.
            let b = sym begun ∙ n in (
              labels_split a.fs w.grows.added ∙ (ap (λ ms. ms ++ labels w.grows.added) (a.unmoved b).0 ∙ silent b),
              (a.unmoved b).1,
            );
        moved = λ y. a.moved (sym begun ∙ y);
        last = last ∙ (ap next_number a.last ∙ sym (last_behind 0 ls l (subst (λ (k : ℕ). comes_next k l ≡ true) a.last next) event));
      }

  -- one of them is impossible
  pub filled_stop : (g : Filling) (redex : Redex) → Stops j.filling g l redex → IsFilledStop p ls l l (V.No g.last redex)
  filled_stop g redex s rest none =
      let all = ls ++ l ∷ rest in
      let c = copied g.last rest in
      let some : labels (without_local (ls ++ l ∷ [])) ≢ [] = λ e. first_shown (sym (ap labels (kept_behind ls l) ∙ labels_split (without_local ls) (without_local_of l)) ∙ e) in
      let name : root (without_local all) ≡ root (without_local (ls ++ l ∷ [])) =
      ap (λ xs. root (without_local xs)) (sym (append_assoc ls (l ∷ []) rest)) ∙ (ap root (without_split (ls ++ l ∷ []) rest) ∙ root_stays (without_local (ls ++ l ∷ [])) (without_local rest) some) in
      let starts : start p (root (without_local all)) ≡ Some a.from = ap (start p) name ∙ a.starts in
      let same : without_local ls ++ without_local (l ∷ rest) ≡ without_local all = sym (without_split ls (l ∷ rest)) in
      let rests : (lab : Label) → AreAtRest p (j.filling.lines ++ s.filled) (configuration_of g.plain) lab → AreAtRest p (a.fs ++ s.filled) (configuration_of g.plain) lab =
      λ lab h. rest_behind p a.fs j.filling.lines s.filled a.cleared (configuration_of g.plain) lab h in (
        whole p all a.from starts (without_local ls) a.fs j.filling.last (configuration_of j.filling.plain) a.filled j.filling g l redex s a.program refl refl rests rest c.lines same c.same c.numbered c.own,
        stopped_in p all a.from starts (without_local ls) a.fs j.filling.last (configuration_of j.filling.plain) a.filled j.filling g l redex s a.program refl refl rests rest c.lines same c.same c.numbered c.own,
        λ names.
            told_in p all a.from starts (without_local ls) a.fs j.filling.last (configuration_of j.filling.plain) a.filled j.filling g l redex s a.program refl refl rests rest c.lines same c.same c.numbered c.own names
            (writes_text names ls) (sym (writes_same names (a.fs ++ s.filled) ls a.unended (without_split a.fs s.filled ∙ (ap₂ (λ xs ys. xs ++ ys) a.filled.same s.silent ∙ append-nil (without_local ls))))),
      )
    where
      first_shown : labels (without_local ls) ++ labels (without_local_of l) ≡ [] → ⊥
      first_shown e = by s.times s.stops.fewer (sym (ap labels s.kept) ∙ behind (labels (without_local ls)) (labels (without_local_of l)) e)
        where
          behind : (xs ys : List Label) → xs ++ ys ≡ [] → ys ≡ []
          behind [] ys k = k
          behind (x ∷ xs) ys k = absurd (let z : x ∷ (xs ++ ys) ≡ [] = k in cc)

          by : (t : ℕ) → s.stops.made < t → replicate t s.label ++ [] ≡ [] → ⊥
          by zero m k = omega (arith, m)
          by (suc t) m k = let z : s.label ∷ (replicate t s.label ++ []) ≡ [] = k in cc

-- the lines so far are the front of a run
pub filled_front : (p : ProgramTree) (ls : List Line) (j : Lines) → IsFilledAfter p ls j → IsFilledFront p ls
filled_front p ls j a =
    let f = a.filled in
    let nothing : a.fs ++ [] ≡ a.fs = append-nil a.fs in
    let name : root a.fs ≡ root (without_local ls) =
    ap root (sym nothing) ∙ rooted p (root (without_local ls)) a.from (configuration_of j.filling.plain) a.fs [] a.starts f.leads (ap root (sym f.same) ∙ ap (λ xs. root (without_local xs)) (sym nothing)) refl in (
      a.fs,
      record {
        says = record { same = f.same; rooted = name };
        in_place = subst AreInPlace nothing (f.in_place [] tt);
        numbered = subst (AreNumbered 0) nothing (f.numbered [] tt);
      },
      (configuration_of j.filling.plain, record { from = a.from; starts = ap (start p) name ∙ a.starts; leads = f.leads }),
    )

-- the end has come
quiet_alone : (ls : List Line) (e : End) → has_end ls ≡ false → ends_quiet (R.End e ∷ []) ≡ ends_quiet (ls ++ R.End e ∷ [])
quiet_alone [] e h = refl
quiet_alone (R.Event n v what ∷ ls) e h = quiet_alone ls e h
quiet_alone (R.End v ∷ ls) e h = absurd (let z : true ≡ false = h in cc)

ends_with : (xs : List Line) (e : End) → has_end (xs ++ R.End e ∷ []) ≡ true
ends_with [] e = refl
ends_with (R.Event n v what ∷ xs) e = ends_with xs e
ends_with (R.End v ∷ xs) e = refl

module _ (p : ProgramTree) (ls : List Line) (end : End) (j : Lines) (a : IsFilledAfter p ls j) (g : Filling) (q : Quiets j.filling g end) where
  abbrev all_lines : List Line
  all_lines = ls ++ R.End end ∷ []

  still : labels (without_local all_lines) ≡ labels (without_local ls)
  still = ap labels (kept_behind ls (R.End end)) ∙ (labels_split (without_local ls) (R.End (unnumbered_end end) ∷ []) ∙ append-nil (labels (without_local ls)))

  pub filled_end : (v : Verdict) → ((xs : List Line) → has_end xs ≡ false → LeadsTo (program_tree g.plain) xs (configuration_of g.plain) → IsEndVerdict (program_tree g.plain) (xs ++ R.End (with_done g.last end) ∷ []) v)
      → IsFilledStop p ls (R.End end) (R.End (with_done g.last end)) v
  filled_end v verdict rest none =
      subst (λ (more : List Line). (fs : List Line) × IsFilled p (ls ++ R.End end ∷ more) fs v × ((names : List Text) → IsJudged p names fs (writes_text names ls ++ stop_text names (R.End (with_done g.last end)) v) v))
      (sym (none refl)) (its v (verdict front (sym (end_without front) ∙ (ap has_end same ∙ (end_without ls ∙ a.unended))) (subst (λ (t : ProgramTree). LeadsTo t front (configuration_of g.plain)) (sym program) led)))
    where
      program : program_tree g.plain ≡ p
      program = q.grows.program ∙ a.program

      filled : List Line
      filled = q.grows.added

      front : List Line
      front = a.fs ++ q.grows.added

      same : without_local (a.fs ++ q.grows.added) ≡ without_local ls
      same = without_split a.fs q.grows.added ∙ (ap₂ (λ xs ys. xs ++ ys) a.filled.same q.grows.adds.same ∙ append-nil (without_local ls))

      starts : start p (root (without_local all_lines)) ≡ Some a.from
      starts = ap (λ ms. start p (first_agent ms)) still ∙ a.starts

      numbers : AreNumbered j.filling.last (q.grows.added ++ R.End (with_done g.last end) ∷ [])
      numbers = q.grows.adds.numbered (R.End (with_done g.last end) ∷ []) (numbered_push g.last (R.End end) [] tt)

      leads : run p (configuration_of j.filling.plain) (labels q.grows.added) ≡ Some (configuration_of g.plain)
      leads = subst (λ (t : ProgramTree). run t (configuration_of j.filling.plain) (labels q.grows.added) ≡ Some (configuration_of g.plain)) a.program q.grows.leads

      rests : is_quiet_end (R.End end) ≡ true → AllAtRest p (a.fs ++ q.grows.added) (configuration_of g.plain)
      rests h =
          all_behind p a.fs j.filling.lines q.grows.added a.cleared (configuration_of g.plain)
          (subst (λ (xs : List Line). AllAtRest p xs (configuration_of g.plain)) q.grows.adds.lines (subst (λ (t : ProgramTree). AllAtRest t g.lines (configuration_of g.plain)) a.program (q.rests h)))

      its_all : without_local ls ++ without_local (R.End end ∷ []) ≡ without_local all_lines
      its_all = sym (without_split ls (R.End end ∷ []))

      led : LeadsTo p (a.fs ++ q.grows.added) (configuration_of g.plain)
      led = led_to p all_lines a.from starts (without_local ls) a.fs j.filling.last (configuration_of j.filling.plain) a.filled end q.grows.added g.last (configuration_of g.plain) q.grows.adds.same q.fills numbers leads rests its_all (quiet_alone ls end a.unended)

      is_filled : (v : Verdict) → Judged p ((a.fs ++ q.grows.added) ++ R.End (with_done g.last end) ∷ []) v → IsFilled p all_lines ((a.fs ++ q.grows.added) ++ R.End (with_done g.last end) ∷ []) v
      is_filled v judged =
          ended_in p all_lines a.from starts (without_local ls) a.fs j.filling.last (configuration_of j.filling.plain) a.filled end q.grows.added g.last (configuration_of g.plain) q.grows.adds.same q.fills numbers leads rests its_all (quiet_alone ls end a.unended) v (λ _. judged)

      writes : (names : List Text) → writes_text names ls ≡ writes_text names (a.fs ++ q.grows.added)
      writes names = sym (writes_same names (a.fs ++ q.grows.added) ls a.unended same)

      its : (v : Verdict) → IsEndVerdict (program_tree g.plain) ((a.fs ++ q.grows.added) ++ R.End (with_done g.last end) ∷ []) v
          → (fs : List Line) × IsFilled p all_lines fs v × ((names : List Text) → IsJudged p names fs (writes_text names ls ++ stop_text names (R.End (with_done g.last end)) v) v)
      its V.Yes h =
          let w = (a.fs ++ q.grows.added) ++ R.End (with_done g.last end) ∷ [] in
          let k = subst (λ (t : ProgramTree). Judged t w V.Yes) program h in (
            w,
            is_filled V.Yes k,
            λ names. (k, ends_with (a.fs ++ q.grows.added) (with_done g.last end), ap (λ t. t ++ writes_of names (R.End (with_done g.last end))) (writes names) ∙ sym (writes_behind names (a.fs ++ q.grows.added) (R.End (with_done g.last end)))),
          )
      its (V.No number redex) h = absurd h
      its (V.Moving o) h =
          let w = (a.fs ++ q.grows.added) ++ R.End (with_done g.last end) ∷ [] in
          let k = subst (λ (t : ProgramTree). Judged t w (V.Moving o)) program h in (
            w,
            is_filled (V.Moving o) k,
            λ names. (k, (a.fs ++ q.grows.added, record { end = with_done g.last end; whole = refl }, ap (λ t. t ++ stop_text names (R.End (with_done g.last end)) (V.Moving o)) (writes names))),
          )
