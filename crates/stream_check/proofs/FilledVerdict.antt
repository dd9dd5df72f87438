-- The filled lines and their verdict, by the steps of the code.
use Rattle.std.proofs.Common.{◌≡◌, refl, sym, ap, ap₂, subst, ◌∙◌, ℕ, ◌<◌, List, [], ◌∷◌, ◌++◌, ◌||◌, replicate, Some, None, Bool, true, false, append_assoc, append-nil, arith}
use Rattle.text_scan.specs.Text.{Text}
use Rattle.run_types.specs.declared.types.Label.{Label}
use Rattle.run_types.specs.declared.types.What.TheVariants as W
use Rattle.run_types.specs.declared.types.End.{End}
use Rattle.run_types.specs.declared.types.End.TheVariants as E
use Rattle.run_types.specs.declared.types.Line.{Line}
use Rattle.run_types.specs.declared.types.Line.TheVariants as R
use Rattle.run_types.specs.declared.verdicts.Redex.{Redex}
use Rattle.run_types.specs.declared.verdicts.Verdict.{Verdict}
use Rattle.run_types.specs.declared.verdicts.Verdict.TheVariants as V
use Rattle.run_types.proofs.Laws.{same_some}
use Rattle.pool_syntax.specs.Terms.{ProgramTree}
use Rattle.pool_relation.specs.Configuration.{Configuration}
use Rattle.pool_relation.specs.Progress.{agent}
use Rattle.pool_relation.specs.Transition.{run, start, transition}
use Rattle.pool_relation.proofs.Laws.{joined}
use Rattle.mesh_semantics.specs.Record.{ends_quiet, is_quiet_end, labels}
use Rattle.pool_semantics.specs.PlainOf.{configuration_of, program_tree}
use Rattle.pool_semantics.specs.Shown.{Shows}
use Rattle.record_writer.specs.WrittenText.{writes_text}
use Rattle.record_check.specs.RecordJudgement.{Judged, LeadsTo, StopsAt, first_agent, root}
use Rattle.record_check.specs.VerdictText.{verdict_text}
use Rattle.record_check.proofs.Laws.{labels_split, no_run, same_start}
use Rattle.stream_check.specs.Followed.{EndsWith, IsJudged}
use Rattle.stream_check.specs.declared.filling.Filling.{Filling}
use Rattle.stream_check.specs.Filled.{AllAtRest, AreAtRest, AreInPlace, AreNumbered, HaveNoLocal, IsFilled, IsSame, TakesPart, without_local}
use Rattle.stream_check.specs.FillProgress.{Adds, AreFillsOf, Begins, Ends, Follows, Passes, Stops, with_done}
use Rattle.stream_check.specs.FillingLines.{HasFilled}
use Rattle.stream_check.proofs.FilledPlaces.{all_own, in_place_before, needed_at, own_in_place}
use Rattle.stream_check.proofs.KeptLines.{kept_end, own_kept, quiet_without, without_split}
use Rattle.stream_check.proofs.RootOfLines.{root_of_step, rooted}

-- the verdict at the end
at_end : (p : ProgramTree) (ls fs before : List Line) (d : Configuration) (v : Verdict) → IsSame ls fs → LeadsTo p fs d → Judged p fs v → EndsWith fs before → (ends_quiet fs ≡ true → AllAtRest p before d)
    → IsFilled p ls fs v
at_end p ls fs before d V.Yes same t j e rests = (same, j)
at_end p ls fs before d (V.No number redex) same t (c, lab, stop, shows) e rests =
    let one = same_start p (root fs) t.from stop.from t.starts stop.starts in
    absurd (let z : Some d ≡ None = sym (subst (λ (c : Configuration). run p c (labels fs) ≡ Some d) one t.leads) ∙ no_run p fs number c lab stop in cc)
at_end p ls fs before d (V.Moving o) same t still e rests =
    let one = same_start p (root fs) t.from still.run_to.from t.starts still.run_to.starts in
    let last : d ≡ still.last = same_some (sym (subst (λ (c : Configuration). run p c (labels fs) ≡ Some d) one t.leads) ∙ still.run_to.leads) in
    (same, (still, before, e, subst (λ (c : Configuration). AllAtRest p before c) last (rests still.quiet)))

positive : (k n : ℕ) → k < n → 0 < n
positive k n h = omega (arith, h)

still_quiet : (k : ℕ) (end : End) → is_quiet_end (R.End (with_done k end)) ≡ is_quiet_end (R.End end)
still_quiet k (E.Quiet done) = refl
still_quiet k (E.Schedule done) = refl
still_quiet k (E.Full kind node done) = refl

is_quiet : (b : Bool) → (b || false) ≡ true → b ≡ true
is_quiet true h = refl
is_quiet false h = absurd (cc)

-- lines filled so far, from the start on
module _ (p : ProgramTree) (ls : List Line) (c0 : Configuration) (starts : start p (root (without_local ls)) ≡ Some c0) (kept fs : List Line) (last : ℕ) (c : Configuration) (k : HasFilled p c0 kept fs last c) where
  -- they lead on
  pub leads_on : (filled : List Line) (d : Configuration) → run p c (labels filled) ≡ Some d → run p c0 (labels (fs ++ filled)) ≡ Some d
  leads_on filled d h = ap (run p c0) (labels_split fs filled) ∙ (joined p c0 c (labels fs) (labels filled) k.leads ∙ h)

  -- they say the same
  kept_on : (filled : List Line) → without_local filled ≡ [] → without_local (fs ++ filled) ≡ kept
  kept_on filled silent = without_split fs filled ∙ ap₂ (λ xs ys. xs ++ ys) k.same silent ∙ append-nil kept

  -- they are numbered
  numbered_on : (filled more : List Line) → AreNumbered last (filled ++ more) → AreNumbered 0 ((fs ++ filled) ++ more)
  numbered_on filled more h = subst (λ (xs : List Line). AreNumbered 0 xs) (sym (append_assoc fs filled more)) (k.numbered (filled ++ more) h)

  -- and are in place
  places_on : (filled more : List Line) → AreInPlace (filled ++ more) → AreInPlace ((fs ++ filled) ++ more)
  places_on filled more h = subst (λ (xs : List Line). AreInPlace xs) (sym (append_assoc fs filled more)) (k.in_place (filled ++ more) h)

  -- a line is impossible
  module _ (f g : Filling) (l : Line) (redex : Redex) (s : Stops f g l redex) (program : program_tree f.plain ≡ p) (is_last : f.last ≡ last) (is_here : configuration_of f.plain ≡ c)
      (rests : (lab : Label) → AreAtRest p (f.lines ++ s.filled) (configuration_of g.plain) lab → AreAtRest p (fs ++ s.filled) (configuration_of g.plain) lab)
      (rest added : List Line) (all : kept ++ without_local (l ∷ rest) ≡ without_local ls) (copied : without_local added ≡ without_local rest) (behind : AreNumbered g.last added) (own : HaveNoLocal added) where
    abbrev before : List Line
    before = fs ++ s.filled

    abbrev its : Line
    its = R.Event g.last s.event (W.Step s.label s.times)

    abbrev pub whole : List Line
    whole = before ++ its ∷ added

    same : without_local whole ≡ without_local ls
    same =
        without_split before (its ∷ added)
        ∙ ap₂ (λ xs ys. xs ++ ys) (kept_on s.filled s.silent) (ap₂ (λ xs ys. xs ++ ys) (own_kept g.last s.event s.label s.times s.own ∙ sym s.kept) copied)
        ∙ all

    lead : run p c0 (labels before) ≡ Some s.between
    lead =
        leads_on s.filled s.between
        (subst (λ (d : Configuration). run p d (labels s.filled) ≡ Some s.between) is_here
        (subst (λ (t : ProgramTree). run t (configuration_of f.plain) (labels s.filled) ≡ Some s.between) program s.leads))

    origin : root whole ≡ root (without_local ls)
    origin =
        rooted p (root (without_local ls)) c0 s.between before (its ∷ added) starts lead (ap root (sym same))
        (root_of_step g.last s.event s.label s.times added s.own (positive s.stops.made s.times s.stops.fewer))

    abbrev stop : StopsAt p whole g.last (configuration_of g.plain) s.label
    stop =
        record {
          before = before;
          behind = added;
          event = s.event;
          made = s.stops.made;
          times = s.times;
          whole = refl;
          fewer = s.stops.fewer;
          from = c0;
          starts = ap (start p) origin ∙ starts;
          leads =
              joined p c0 s.between (labels before) (replicate s.stops.made s.label) lead
              ∙ subst (λ (t : ProgramTree). run t s.between (replicate s.stops.made s.label) ≡ Some (configuration_of g.plain)) program s.stops.leads;
          impossible = subst (λ (t : ProgramTree). transition t (configuration_of g.plain) s.label ≡ None) program s.stops.impossible;
        }

    shows : Shows p (configuration_of g.plain) (agent s.label) redex
    shows = subst (λ (t : ProgramTree). Shows t (configuration_of g.plain) (agent s.label) redex) program s.stops.shows

    pub stopped_in : IsFilled p ls whole (V.No g.last redex)
    stopped_in =
        let numbered : AreNumbered last (s.filled ++ its ∷ added) = subst (λ (n : ℕ). AreNumbered n (s.filled ++ its ∷ added)) is_last (s.numbered added behind) in (
          record {
            says = record { same = same; rooted = origin };
            in_place =
                places_on s.filled (its ∷ added)
                (in_place_before (λ q. TakesPart q s.label) s.filled (its ∷ added) s.fills (λ q n. needed_at its added s.own q n) (own_in_place its added s.own (all_own added own)));
            numbered = numbered_on s.filled (its ∷ added) numbered;
          },
          (
            configuration_of g.plain,
            s.label,
            stop,
            shows,
            s.own,
            own,
            λ none. rests s.label (subst (λ (t : ProgramTree). AreAtRest t (f.lines ++ s.filled) (configuration_of g.plain) s.label) program (s.rests none)),
          ),
        )

    -- the text for it
    pub told_in : (names : List Text) (text : Text) → text ≡ writes_text names before → IsJudged p names whole (text ++ verdict_text names (V.No g.last redex)) (V.No g.last redex)
    told_in names text h = (configuration_of g.plain, s.label, stop, shows, ap (λ t. t ++ verdict_text names (V.No g.last redex)) h)

  -- the end has come
  module _ (end : End) (filled : List Line) (done : ℕ) (d : Configuration) (silent : without_local filled ≡ []) (fills : AreFillsOf (λ q. is_quiet_end (R.End end) ≡ true) filled)
      (numbers : AreNumbered last (filled ++ R.End (with_done done end) ∷ [])) (leads : run p c (labels filled) ≡ Some d)
      (rests : is_quiet_end (R.End end) ≡ true → AllAtRest p (fs ++ filled) d) (all : kept ++ without_local (R.End end ∷ []) ≡ without_local ls)
      (quiet : ends_quiet (R.End end ∷ []) ≡ ends_quiet ls) where
    abbrev before_end : List Line
    before_end = fs ++ filled

    abbrev its_end : Line
    its_end = R.End (with_done done end)

    abbrev pub whole_end : List Line
    whole_end = before_end ++ its_end ∷ []

    same_end : without_local whole_end ≡ without_local ls
    same_end = without_split before_end (its_end ∷ []) ∙ ap₂ (λ xs ys. xs ++ ys) (kept_on filled silent) (kept_end done end) ∙ all

    lead_end : run p c0 (labels before_end) ≡ Some d
    lead_end = leads_on filled d leads

    origin_end : root whole_end ≡ root (without_local ls)
    origin_end = rooted p (root (without_local ls)) c0 d before_end (its_end ∷ []) starts lead_end (ap root (sym same_end)) refl

    shown : labels whole_end ≡ labels before_end
    shown = labels_split before_end (its_end ∷ []) ∙ append-nil (labels before_end)

    pub led_to : LeadsTo p before_end d
    led_to = record { from = c0; starts = ap (start p) (ap first_agent (sym shown) ∙ origin_end) ∙ starts; leads = lead_end }

    pub ended_in : (v : Verdict) → (LeadsTo p whole_end d → Judged p whole_end v) → IsFilled p ls whole_end v
    ended_in v judged =
        let led : LeadsTo p whole_end d = record { from = c0; starts = ap (start p) origin_end ∙ starts; leads = ap (run p c0) shown ∙ lead_end } in
        let says : ends_quiet whole_end ≡ ends_quiet (R.End end ∷ []) = sym (quiet_without whole_end) ∙ (ap ends_quiet same_end ∙ (quiet_without ls ∙ sym quiet)) in
        at_end p ls whole_end before_end d v
        (record {
          says = record { same = same_end; rooted = origin_end };
          in_place =
              places_on filled (its_end ∷ []) (in_place_before (λ q. is_quiet_end (R.End end) ≡ true) filled (its_end ∷ []) fills (λ q n. still_quiet done end ∙ n) tt);
          numbered = numbered_on filled (its_end ∷ []) numbers;
        })
        led (judged led) (record { end = with_done done end; whole = refl })
        (λ h. rests (is_quiet (is_quiet_end (R.End end)) (sym says ∙ h)))

module _ (ls : List Line) (f0 : Filling) (b : Begins ls f0) where
  abbrev p : ProgramTree
  p = program_tree f0.plain

  abbrev c0 : Configuration
  c0 = configuration_of f0.plain

  -- lines that were added from the start on
  from_start : (f : Filling) (kept : List Line) → Passes f0 f kept → HasFilled p c0 kept f.lines f.last (configuration_of f.plain)
  from_start f kept w =
      let g = w.grows in
      let front : f.lines ≡ g.added = g.adds.lines ∙ ap (λ xs. xs ++ g.added) b.none in
      record {
        same = ap without_local front ∙ g.adds.same;
        numbered = λ more h. subst (λ (xs : List Line). AreNumbered 0 (xs ++ more)) (sym front) (subst (λ (n : ℕ). AreNumbered n (g.added ++ more)) b.first (g.adds.numbered more h));
        in_place = λ more h. subst (λ (xs : List Line). AreInPlace (xs ++ more)) (sym front) (w.in_place more h);
        leads = ap (λ xs. run p c0 (labels xs)) front ∙ g.leads;
      }

  -- a line is impossible
  pub stopped : (f g h : Filling) (l : Line) (rest added : List Line) (redex : Redex) → Follows ls (l ∷ rest) f0 f → Stops f g l redex → Adds g h added (without_local rest)
      → HaveNoLocal added → IsFilled p ls h.lines (V.No g.last redex)
  stopped f g h l rest added redex w s a own =
      let before = f.lines ++ s.filled in
      let its = R.Event g.last s.event (W.Step s.label s.times) in
      let whole : h.lines ≡ before ++ its ∷ added = a.lines ∙ ap (λ xs. xs ++ added) s.lines ∙ append_assoc before (its ∷ []) added in
      let behind : AreNumbered g.last added = subst (λ (xs : List Line). AreNumbered g.last xs) (append-nil added) (a.numbered [] tt) in
      subst (λ (xs : List Line). IsFilled p ls xs (V.No g.last redex)) (sym whole)
      (stopped_in p ls c0 b.starts w.kept f.lines f.last (configuration_of f.plain) (from_start f w.kept w.passes) f g l redex s w.passes.grows.program refl refl (λ lab r. r) rest added w.all a.same behind own)

  -- the end has come
  pub ended : (f g : Filling) (end : End) (v : Verdict) → Follows ls (R.End end ∷ []) f0 f → Ends f g end v → IsFilled p ls g.lines v
  ended f g end v w e =
      let gr = w.passes.grows in
      let d = configuration_of g.plain in
      let whole = e.lines in
      let leads : run p (configuration_of f.plain) (labels e.filled) ≡ Some d =
      subst (λ (t : ProgramTree). run t (configuration_of f.plain) (labels e.filled) ≡ Some d) gr.program e.leads in
      let judged : LeadsTo p g.lines d → Judged p g.lines v =
      subst (λ (t : ProgramTree). LeadsTo t g.lines d → Judged t g.lines v) gr.program e.judged in
      subst (λ (xs : List Line). IsFilled p ls xs v) (sym whole)
      (ended_in p ls c0 b.starts w.kept f.lines f.last (configuration_of f.plain) (from_start f w.kept w.passes) end e.filled e.last d e.silent e.fills e.numbered leads
      (λ h. subst (λ (t : ProgramTree). AllAtRest t (f.lines ++ e.filled) d) gr.program (e.rests h)) w.all w.quiet v
      (subst (λ (xs : List Line). LeadsTo p xs d → Judged p xs v) whole judged))
