-- What one step of the code adds, and two steps one after the other.
use Rattle.std.proofs.Common.{◌≡◌, inl, inr, refl, sym, ap, ap₂, subst, ◌∙◌, ℕ, ◌<◌, ◌≤◌, ◌==◌, List, [], ◌∷◌, ◌++◌, replicate, Option, Some, None, IfNone, IfSome, Bool, true, false, append_assoc, append-nil, arith}
use Rattle.run_types.specs.declared.types.Label.{Label}
use Rattle.run_types.specs.declared.types.Label.TheVariants as L
use Rattle.run_types.specs.declared.types.What.{What}
use Rattle.run_types.specs.declared.types.What.TheVariants as W
use Rattle.run_types.specs.declared.types.Event.{Event}
use Rattle.run_types.specs.declared.types.End.{End}
use Rattle.run_types.specs.declared.types.Line.{Line}
use Rattle.run_types.specs.declared.types.Line.TheVariants as R
use Rattle.run_types.specs.declared.verdicts.Redex.{Redex}
use Rattle.run_types.specs.declared.verdicts.Verdict.{Verdict}
use Rattle.run_types.proofs.Laws.{equal, same_some}
use Rattle.pool_syntax.specs.Terms.{ProgramTree}
use Rattle.pool_relation.specs.Configuration.{Configuration}
use Rattle.pool_relation.specs.Progress.{agent}
use Rattle.pool_relation.specs.Transition.{run, transition}
use Rattle.pool_relation.proofs.Laws.{joined}
use Rattle.mesh_semantics.specs.Record.{is_quiet_end, labels, labels_of}
use Rattle.pool_semantics.specs.declared.plain.Plain.{Plain}
use Rattle.pool_semantics.specs.PlainOf.{configuration_of, program_tree, is_spent}
use Rattle.pool_semantics.specs.Shown.{Shows}
use Rattle.record_check.specs.RecordJudgement.{Judged, LeadsTo}
use Rattle.record_check.specs.Verdicts.{StopsAfter, StopsLine}
use Rattle.record_check.proofs.Laws.{labels_split}
use Rattle.stream_check.specs.Stream.{next_number}
use Rattle.stream_check.specs.declared.filling.Filling.{Filling}
use Rattle.stream_check.specs.Filled.{AllAtRest, AreAtRest, AreInPlace, AreNumbered, IsAtRest, IsFilledIn, IsFull, TakesPart, is_local, most_filled, shows_local, without_local_of}
use Rattle.stream_check.specs.FillProgress.{Adds, AreFillsOf, Ends, Fills, Grows, IsNeededBy, Passes, Prepares, Quiets, Readies, RestsFor, Settles, Stops, caller_of, number_after, renumbered}
use Rattle.stream_check.proofs.KeptLines.{kept_renumbered, local_gone, numbered_push, own_kept, shown_renumbered, without_split}
use Rattle.stream_check.proofs.LocalRuns.{kept_local}
use Rattle.stream_check.proofs.FilledPlaces.{fills_more, fills_weaker, in_place_before, needed_before, own_in_place, own_renumbered}

-- nothing
pub adds_none : (f g : Filling) → g.lines ≡ f.lines → g.last ≡ f.last → Adds f g [] []
adds_none f g lines last =
    record {
      lines = lines ∙ sym (append-nil f.lines);
      same = refl;
      numbered = λ more h. subst (λ (k : ℕ). AreNumbered k more) last h;
    }

-- one line
pub adds_line : (f g : Filling) (l : Line) → g.lines ≡ f.lines ++ renumbered f.last l ∷ [] → g.last ≡ number_after f.last l → Adds f g (renumbered f.last l ∷ []) (without_local_of l)
adds_line f g l lines last =
    record {
      lines = lines;
      same = append-nil (without_local_of (renumbered f.last l)) ∙ kept_renumbered f.last l;
      numbered = λ more h. numbered_push f.last l more (subst (λ (k : ℕ). AreNumbered k more) last h);
    }

-- two steps
pub adds_more : (f g h : Filling) (xs ys ks ls : List Line) → Adds f g xs ks → Adds g h ys ls → Adds f h (xs ++ ys) (ks ++ ls)
adds_more f g h xs ys ks ls a b =
    record {
      lines = b.lines ∙ ap (λ zs. zs ++ ys) a.lines ∙ append_assoc f.lines xs ys;
      same = without_split xs ys ∙ ap₂ (λ us vs. us ++ vs) a.same b.same;
      numbered = λ more i. subst (λ (zs : List Line). AreNumbered f.last zs) (sym (append_assoc xs ys more)) (a.numbered (ys ++ more) (b.numbered more i));
    }

abbrev pub grows_more : (f g h : Filling) (ks ls : List Line) → Grows f g ks → Grows g h ls → Grows f h (ks ++ ls)
grows_more f g h ks ls a b =
    record {
      program = b.program ∙ a.program;
      going_on = λ s. b.going_on (a.going_on s);
      added = a.added ++ b.added;
      adds = adds_more f g h a.added b.added ks ls a.adds b.adds;
      leads =
          ap (run (program_tree f.plain) (configuration_of f.plain)) (labels_split a.added b.added)
          ∙ (joined (program_tree f.plain) (configuration_of f.plain) (configuration_of g.plain) (labels a.added) (labels b.added) a.leads
          ∙ subst (λ (p : ProgramTree). run p (configuration_of g.plain) (labels b.added) ≡ Some (configuration_of h.plain)) a.program b.leads);
    }

abbrev pub grows_none : (f : Filling) → Grows f f []
grows_none f = record { program = refl; going_on = λ s. s; added = []; adds = adds_none f f refl refl; leads = refl }

abbrev pub grows_line : (f g : Filling) (l : Line) → program_tree g.plain ≡ program_tree f.plain → (is_spent f.plain ≡ false → is_spent g.plain ≡ false)
    → g.lines ≡ f.lines ++ renumbered f.last l ∷ [] → g.last ≡ number_after f.last l → run (program_tree f.plain) (configuration_of f.plain) (labels_of l) ≡ Some (configuration_of g.plain)
    → Grows f g (without_local_of l)
grows_line f g l program going_on lines last leads =
    record {
      program = program;
      going_on = going_on;
      added = renumbered f.last l ∷ [];
      adds = adds_line f g l lines last;
      leads = ap (run (program_tree f.plain) (configuration_of f.plain)) (append-nil (labels_of (renumbered f.last l)) ∙ shown_renumbered f.last l) ∙ leads;
    }

-- local transitions of one object: none, or some with their line
below_most : (k : ℕ) → k ≤ most_filled → (k == most_filled) ≡ false → k < most_filled
below_most k most n = grind (arith, most, n)

pub fills_some : (f g : Filling) (o k : ℕ) (event : Event) → IsFilledIn o event k → program_tree g.plain ≡ program_tree f.plain → (is_spent f.plain ≡ false → is_spent g.plain ≡ false)
    → g.lines ≡ f.lines ++ renumbered f.last (R.Event 0 event (W.Step (L.Local o) k)) ∷ [] → g.last ≡ number_after f.last (R.Event 0 event (W.Step (L.Local o) k))
    → run (program_tree f.plain) (configuration_of f.plain) (replicate k (L.Local o)) ≡ Some (configuration_of g.plain) → k ≤ most_filled
    → (k < most_filled → transition (program_tree f.plain) (configuration_of g.plain) (L.Local o) ≡ None) → Fills f g o (k == most_filled)
fills_some f g o k event filled program going_on lines last made most rests =
    record {
      grows = grows_line f g (R.Event 0 event (W.Step (L.Local o) k)) program going_on lines last made;
      fills = (record { object = o; number = next_number f.last; event = event; times = k; is = refl; filled = filled; its = refl }, tt);
      full = λ i. record {
        before = f.lines;
        number = next_number f.last;
        event = event;
        whole = lines ∙ ap (λ n. f.lines ++ R.Event (next_number f.last) event (W.Step (L.Local o) n) ∷ []) (equal k most_filled i);
      };
      rests = λ i. rests (below_most k most i);
      keeps = λ q n. kept_local (program_tree f.plain) o k (configuration_of f.plain) (configuration_of g.plain) q made n;
    }

pub fills_pushed : (f g : Filling) (q : Plain) (o k : ℕ) (event : Event) → IsFilledIn o event k → g.plain ≡ q → program_tree q ≡ program_tree f.plain → (is_spent f.plain ≡ false → is_spent q ≡ false)
    → g.lines ≡ f.lines ++ renumbered f.last (R.Event 0 event (W.Step (L.Local o) k)) ∷ [] → g.last ≡ number_after f.last (R.Event 0 event (W.Step (L.Local o) k))
    → run (program_tree f.plain) (configuration_of f.plain) (replicate k (L.Local o)) ≡ Some (configuration_of q) → k ≤ most_filled
    → (k < most_filled → transition (program_tree f.plain) (configuration_of q) (L.Local o) ≡ None) → Fills f g o (k == most_filled)
fills_pushed f g q o k event filled plain program going_on lines last made most rests =
    fills_some f g o k event filled (ap program_tree plain ∙ program) (λ s. ap is_spent plain ∙ going_on s) lines last
    (made ∙ ap (λ x. Some (configuration_of x)) (sym plain)) most (λ i. ap (λ x. transition (program_tree f.plain) (configuration_of x) (L.Local o)) plain ∙ rests i)

-- the agent of a transition, and the caller that is answered
agent_rests : (p : ProgramTree) (ls : List Line) (d : Configuration) (lab : Label) → transition p d (L.Local (agent lab)) ≡ None → ((o : ℕ) → caller_of lab ≡ Some o → IsAtRest p ls d o) → AreAtRest p ls d lab
agent_rests p ls d (L.Answer b o m args) h k = inl (h, k o refl)
agent_rests p ls d (L.Return b o v) h k = inl (h, k o refl)
agent_rests p ls d lab h k = inl h

at_rest : (f g : Filling) (o : ℕ) (full : Bool) → Fills f g o full → IsAtRest (program_tree f.plain) g.lines (configuration_of g.plain) o
at_rest f g o true a = inr (a.full refl)
at_rest f g o false a = inl (a.rests refl)

-- who takes part
agent_takes : (lab : Label) → TakesPart (agent lab) lab
agent_takes (L.Answer b o m args) = inl refl
agent_takes (L.Return b o v) = inl refl
agent_takes lab = refl

caller_takes : (lab : Label) (o : ℕ) → caller_of lab ≡ Some o → TakesPart o lab
caller_takes (L.Answer b q m args) o h = inr (sym (same_some h))
caller_takes (L.Return b q v) o h = inr (sym (same_some h))
caller_takes _ o h = absurd (cc)

pub its_fills : (lab : Label) (o : ℕ) (xs : List Line) → TakesPart o lab → AreFillsOf (λ q. q ≡ o) xs → AreFillsOf (λ q. TakesPart q lab) xs
its_fills lab o xs takes a = fills_weaker (λ q. q ≡ o) (λ q. TakesPart q lab) (λ q e. subst (λ (k : ℕ). TakesPart k lab) (sym e) takes) xs a

pub prepares_two : (f g h : Filling) (lab : Label) (caller : ℕ) (full : Bool) → caller_of lab ≡ Some caller → Fills f g (agent lab) false → Fills g h caller full → Prepares f h lab
prepares_two f g h lab caller full some a b =
    let p = program_tree f.plain in
    let same = a.grows.program in
    let c = configuration_of h.plain in
    let its : transition p (configuration_of g.plain) (L.Local (agent lab)) ≡ None = a.rests refl in
    record {
      grows = grows_more f g h [] [] a.grows b.grows;
      fills =
          fills_more (λ q. TakesPart q lab) a.grows.added b.grows.added
          (its_fills lab (agent lab) a.grows.added (agent_takes lab) a.fills)
          (its_fills lab caller b.grows.added (caller_takes lab caller some) b.fills);
      rests =
          agent_rests p h.lines c lab
          (subst (λ (t : ProgramTree). transition t c (L.Local (agent lab)) ≡ None) same (b.keeps (agent lab) (subst (λ (t : ProgramTree). transition t (configuration_of g.plain) (L.Local (agent lab)) ≡ None) (sym same) its)))
          (λ o e. subst (λ (q : ℕ). IsAtRest p h.lines c q) (same_some (sym some ∙ e)) (subst (λ (t : ProgramTree). IsAtRest t h.lines c caller) same (at_rest g h caller full b)));
    }

-- one object alone
pub prepares_full : (f g : Filling) (lab : Label) → Fills f g (agent lab) true → Prepares f g lab
prepares_full f g lab a = record { grows = a.grows; fills = its_fills lab (agent lab) a.grows.added (agent_takes lab) a.fills; rests = by lab a.full }
  where
    by : (lab : Label) → (true ≡ true → IsFull g.lines (agent lab)) → AreAtRest (program_tree f.plain) g.lines (configuration_of g.plain) lab
    by (L.Answer b o m args) full = inr (full refl)
    by (L.Return b o v) full = inr (full refl)
    by lab full = inr (full refl)

pub prepares_one : (f g : Filling) (lab : Label) → caller_of lab ≡ None → Fills f g (agent lab) false → Prepares f g lab
prepares_one f g lab none a = record {
  grows = a.grows;
  fills = its_fills lab (agent lab) a.grows.added (agent_takes lab) a.fills;
  rests = agent_rests (program_tree f.plain) g.lines (configuration_of g.plain) lab (a.rests refl) (λ o e. absurd (let z : None ≡ Some o = sym none ∙ e in cc));
}

pub positive : (k : ℕ) → (k ≡ 0 → ⊥) → 0 < k
positive k n = grind (arith, n)

-- nothing is filled in
pub fills_none : (f g : Filling) (o k : ℕ) → g.lines ≡ f.lines → g.last ≡ f.last → program_tree g.plain ≡ program_tree f.plain → (is_spent f.plain ≡ false → is_spent g.plain ≡ false)
    → run (program_tree f.plain) (configuration_of f.plain) (replicate k (L.Local o)) ≡ Some (configuration_of g.plain) → k ≡ 0 → (k < most_filled → transition (program_tree f.plain) (configuration_of g.plain) (L.Local o) ≡ None)
    → Fills f g o false
fills_none f g o k lines last program going_on made none rests =
    let still : Some (configuration_of f.plain) ≡ Some (configuration_of g.plain) = subst (λ (n : ℕ). run (program_tree f.plain) (configuration_of f.plain) (replicate n (L.Local o)) ≡ Some (configuration_of g.plain)) none made in
    record {
      grows = record { program = program; going_on = going_on; added = []; adds = adds_none f g lines last; leads = still };
      fills = tt;
      full = λ e. absurd (cc);
      rests = λ e. rests (omega (arith, none));
      keeps = λ q n. subst (λ (c : Configuration). transition (program_tree f.plain) c (L.Local q) ≡ None) (same_some still) n;
    }

readies_none : (f : Filling) (l : Line) → RestsFor f f l → Readies f f l
readies_none f l rests = record { grows = grows_none f; fills = tt; rests = rests }

pub readies_end : (f : Filling) (end : End) (l : Line) → l ≡ R.End end → Readies f f l
readies_end f end l is = subst (λ (x : Line). Readies f f x) (sym is) (readies_none f (R.End end) tt)

pub readies_other : (f : Filling) (n : ℕ) (e : Event) (what : What) (l : Line) → l ≡ R.Event n e what → ((lab : Label) (times : ℕ) → what ≡ W.Step lab times → ⊥) → Readies f f l
readies_other f n e (W.Step lab times) l is other = absurd (other lab times refl)
readies_other f n e what l is other = subst (λ (x : Line). Readies f f x) (sym is) (readies_none f (R.Event n e what) tt)

pub readies_step : (f g : Filling) (n : ℕ) (e : Event) (lab : Label) (times : ℕ) (l : Line) → l ≡ R.Event n e (W.Step lab times) → Prepares f g lab → Readies f g l
readies_step f g n e lab times l is a = subst (λ (x : Line). Readies f g x) (sym is) (record { grows = a.grows; fills = a.fills; rests = a.rests })

pub quiets_all : (f g : Filling) (end : End) → is_quiet_end (R.End end) ≡ true → Settles f g → Quiets f g end
quiets_all f g end quiet s = record { grows = s.grows; fills = fills_weaker (λ q. Unit {0}) (λ q. is_quiet_end (R.End end) ≡ true) (λ q u. quiet) s.grows.added s.fills; rests = λ q. s.rests }

pub quiets_none : (f : Filling) (end : End) → is_quiet_end (R.End end) ≡ false → Quiets f f end
quiets_none f end other = record { grows = grows_none f; fills = tt; rests = λ q. absurd (let z : true ≡ false = sym q ∙ other in cc) }

-- a line whose transitions are possible
pub passes_kept : (f m g : Filling) (l : Line) → shows_local l ≡ false → Readies f m l → program_tree g.plain ≡ program_tree m.plain → (is_spent m.plain ≡ false → is_spent g.plain ≡ false)
    → g.lines ≡ m.lines ++ renumbered m.last l ∷ [] → g.last ≡ number_after m.last l → run (program_tree m.plain) (configuration_of m.plain) (labels_of l) ≡ Some (configuration_of g.plain)
    → Passes f g (without_local_of l)
passes_kept f m g l own r program going_on lines last leads =
    let its = renumbered m.last l in
    record {
      grows = grows_more f m g [] (without_local_of l) r.grows (grows_line m g l program going_on lines last leads);
      in_place = λ more h. subst (λ (xs : List Line). AreInPlace xs) (sym (append_assoc r.grows.added (its ∷ []) more))
          (in_place_before (IsNeededBy l) r.grows.added (its ∷ more) r.fills (λ q n. needed_before l m.last more own q n) (own_in_place its more (own_renumbered m.last l own) h));
    }

pub passes_none : (f : Filling) → Passes f f []
passes_none f = record { grows = grows_none f; in_place = λ more h. h }

pub passes_local : (f : Filling) (l : Line) → shows_local l ≡ true → Passes f f (without_local_of l)
passes_local f l h = subst (λ (xs : List Line). Passes f f xs) (sym (local_gone l h)) (passes_none f)

pub passes_more : (f g h : Filling) (ks ls : List Line) → Passes f g ks → Passes g h ls → Passes f h (ks ++ ls)
passes_more f g h ks ls a b = record {
  grows = grows_more f g h ks ls a.grows b.grows;
  in_place = λ more i. subst (λ (xs : List Line). AreInPlace xs) (sym (append_assoc a.grows.added b.grows.added more)) (a.in_place (b.grows.added ++ more) (b.in_place more i));
}

-- a line with an impossible transition
nothing_made : (p : ProgramTree) (c d : Configuration) (lab : Label) (k : ℕ) → run p c (replicate k lab) ≡ Some d → k ≡ 0 → c ≡ d
nothing_made p c d lab k h e = same_some (subst (λ (n : ℕ). run p c (replicate n lab) ≡ Some d) e h)

stops_event : (f m g : Filling) (n : ℕ) (event : Event) (lab : Label) (times : ℕ) (redex : Redex) → is_local lab ≡ false → Readies f m (R.Event n event (W.Step lab times))
    → g.lines ≡ m.lines ++ R.Event (next_number m.last) event (W.Step lab times) ∷ [] → g.last ≡ next_number m.last → program_tree g.plain ≡ program_tree m.plain
    → StopsAfter (program_tree m.plain) (configuration_of m.plain) lab times (configuration_of g.plain) redex → Stops f g (R.Event n event (W.Step lab times)) redex
stops_event f m g n event lab times redex own r lines last program s =
    let same = r.grows.program in
    record {
      program = program ∙ same;
      filled = r.grows.added;
      silent = r.grows.adds.same;
      fills = r.fills;
      event = event;
      label = lab;
      times = times;
      own = own;
      kept = own_kept n event lab times own;
      lines = lines ∙ ap₂ (λ ls k. ls ++ R.Event k event (W.Step lab times) ∷ []) r.grows.adds.lines (sym last);
      numbered = λ more h. r.grows.adds.numbered (R.Event g.last event (W.Step lab times) ∷ more) (last, h);
      between = configuration_of m.plain;
      leads = r.grows.leads;
      stops =
          record {
            made = s.made;
            fewer = s.fewer;
            leads = subst (λ (p : ProgramTree). run p (configuration_of m.plain) (replicate s.made lab) ≡ Some (configuration_of g.plain)) same s.leads;
            impossible = subst (λ (p : ProgramTree). transition p (configuration_of g.plain) lab ≡ None) same s.impossible;
            shows = subst (λ (p : ProgramTree). Shows p (configuration_of g.plain) (agent lab) redex) same s.shows;
          };
      rests = λ none.
          subst (λ (c : Configuration). AreAtRest (program_tree f.plain) (f.lines ++ r.grows.added) c lab) (nothing_made (program_tree m.plain) (configuration_of m.plain) (configuration_of g.plain) lab s.made s.leads none)
          (subst (λ (ls : List Line). AreAtRest (program_tree f.plain) ls (configuration_of m.plain) lab) r.grows.adds.lines r.rests);
    }

pub stops_line : (f m g : Filling) (l : Line) (redex : Redex) → shows_local l ≡ false → Readies f m l → g.lines ≡ m.lines ++ renumbered m.last l ∷ [] → g.last ≡ number_after m.last l
    → program_tree g.plain ≡ program_tree m.plain → (n : ℕ) × StopsLine (program_tree m.plain) (configuration_of m.plain) l n (configuration_of g.plain) redex → Stops f g l redex
stops_line f m g l redex own r lines last program (n, s) =
    let all : shows_local l ≡ false → Readies f m l → g.lines ≡ m.lines ++ renumbered m.last l ∷ [] → g.last ≡ number_after m.last l → Stops f g l redex =
    subst (λ (x : Line). shows_local x ≡ false → Readies f m x → g.lines ≡ m.lines ++ renumbered m.last x ∷ [] → g.last ≡ number_after m.last x → Stops f g x redex) (sym s.is)
    (λ own r lines last. stops_event f m g n s.event s.label s.times redex own r lines last program s.stops) in
    all own r lines last

-- the same, by what the code returns
pub followed : (f m g : Filling) (l : Line) (r : Option Redex) → shows_local l ≡ false → Readies f m l → program_tree g.plain ≡ program_tree m.plain → (is_spent m.plain ≡ false → is_spent g.plain ≡ false)
    → g.lines ≡ m.lines ++ renumbered m.last l ∷ [] → g.last ≡ number_after m.last l → IfNone r (run (program_tree m.plain) (configuration_of m.plain) (labels_of l) ≡ Some (configuration_of g.plain))
    → IfNone r (Passes f g (without_local_of l))
followed f m g l None own s program going_on lines last h = passes_kept f m g l own s program going_on lines last h
followed f m g l (Some redex) own s program going_on lines last h = tt

pub halted : (f m g : Filling) (l : Line) (r : Option Redex) → shows_local l ≡ false → Readies f m l → g.lines ≡ m.lines ++ renumbered m.last l ∷ [] → g.last ≡ number_after m.last l
    → program_tree g.plain ≡ program_tree m.plain → IfSome r (λ redex. (n : ℕ) × StopsLine (program_tree m.plain) (configuration_of m.plain) l n (configuration_of g.plain) redex)
    → IfSome r (λ redex. Stops f g l redex)
halted f m g l None own s lines last program h = tt
halted f m g l (Some redex) own s lines last program h = stops_line f m g l redex own s lines last program h

-- the end line
pub ends_line : (f m g : Filling) (end : End) (v : Verdict) → Quiets f m end → g.lines ≡ m.lines ++ renumbered m.last (R.End end) ∷ [] → g.plain ≡ m.plain
    → (LeadsTo (program_tree g.plain) g.lines (configuration_of g.plain) → Judged (program_tree g.plain) g.lines v) → Ends f g end v
ends_line f m g end v q lines plain judged =
    record {
      filled = q.grows.added;
      silent = q.grows.adds.same;
      fills = q.fills;
      last = m.last;
      lines = lines ∙ ap (λ ls. ls ++ renumbered m.last (R.End end) ∷ []) q.grows.adds.lines;
      numbered = q.grows.adds.numbered (renumbered m.last (R.End end) ∷ []) (numbered_push m.last (R.End end) [] tt);
      leads = q.grows.leads ∙ ap (λ x. Some (configuration_of x)) (sym plain);
      judged = subst (λ (p : ProgramTree). LeadsTo p g.lines (configuration_of g.plain) → Judged p g.lines v) (ap program_tree plain ∙ q.grows.program) judged;
      rests = λ quiet.
          subst (λ (ls : List Line). AllAtRest (program_tree f.plain) ls (configuration_of g.plain)) q.grows.adds.lines
          (subst (λ (x : Plain). AllAtRest (program_tree f.plain) m.lines (configuration_of x)) (sym plain) (q.rests quiet));
    }
