-- Where filling in stops, no other filling is a run.
use Rattle.std.proofs.Common.{◌≡◌, ◌⊎◌, inl, inr, refl, sym, ap, ap₂, subst, ◌∙◌, ℕ, zero, suc, List, [], ◌∷◌, ◌++◌, replicate, Some, None, true, false, append-nil, arith}
use Rattle.text_scan.specs.Text.{Text}
use Rattle.run_types.specs.declared.types.Label.{Label}
use Rattle.run_types.specs.declared.types.Label.TheVariants as L
use Rattle.run_types.specs.declared.types.What.TheVariants as W
use Rattle.run_types.specs.declared.types.Event.{Event}
use Rattle.run_types.specs.declared.types.Line.{Line}
use Rattle.run_types.specs.declared.types.Line.TheVariants as R
use Rattle.run_types.specs.declared.verdicts.Verdict.{Verdict}
use Rattle.run_types.specs.declared.verdicts.Verdict.TheVariants as V
use Rattle.run_types.specs.Partial.{◌>>=◌}
use Rattle.run_types.proofs.Laws.{given_by, same_some}
use Rattle.pool_syntax.specs.Terms.{ProgramTree}
use Rattle.pool_relation.specs.Configuration.{Configuration}
use Rattle.pool_relation.specs.Progress.{agent}
use Rattle.pool_relation.specs.Transition.{run, start, transition}
use Rattle.mesh_semantics.specs.Record.{ends_quiet, labels, labels_of}
use Rattle.record_check.specs.RecordJudgement.{IsRunOf, StillMoves, StopsAt, root}
use Rattle.record_check.proofs.Laws.{labels_split, same_start}
use Rattle.run_record.specs.Readable.{IsRecord, IsRecordFrom, IsReadableStep}
use Rattle.stream_check.specs.Followed.{EndsWith}
use Rattle.stream_check.specs.Filled.{AllAtRest, AreAtRest, IsAtRest, IsFilled, IsFull, SaysTheSame, is_local, without_local, without_local_of}
use Rattle.stream_check.specs.FullLines.{HasFull}
use Rattle.stream_check.proofs.KeptLines.{own_kept, quiet_without, without_split}
use Rattle.stream_check.proofs.RootOfLines.{started_in_order}
use Rattle.stream_check.proofs.AnyFilling.{AtRest, locals, meets_itself, own, same_own_meet, split_step, stays_impossible}

-- labels without local ones
own_more : (xs ys : List Label) → own (xs ++ ys) ≡ own xs ++ own ys
own_more [] ys = refl
own_more (L.Local o ∷ xs) ys = own_more xs ys
own_more (l ∷ xs) ys = ap (λ zs. l ∷ zs) (own_more xs ys)

own_local : (k o : ℕ) → own (replicate k (L.Local o)) ≡ []
own_local zero o = refl
own_local (suc k) o = own_local k o

own_itself : (l : Label) (ls : List Label) → is_local l ≡ false → own (l ∷ ls) ≡ l ∷ own ls
own_itself (L.Local o) ls h = absurd (cc)
own_itself l ls h = refl

own_replicate : (k : ℕ) (l : Label) → is_local l ≡ false → own (replicate k l) ≡ replicate k l
own_replicate zero l h = refl
own_replicate (suc k) l h = own_itself l (replicate k l) h ∙ ap (λ zs. l ∷ zs) (own_replicate k l h)

step_own : (l : Label) (n : ℕ) (e : Event) (times : ℕ) → own (replicate times l) ≡ labels (without_local_of (R.Event n e (W.Step l times)))
step_own (L.Local o) n e times = own_local times o
step_own l n e times = own_replicate times l refl ∙ sym (append-nil (replicate times l))

line_own : (l : Line) → own (labels_of l) ≡ labels (without_local_of l)
line_own (R.Event n e (W.Step lab times)) = step_own lab n e times
line_own (R.Event n e what) = refl
line_own (R.End end) = refl

lines_own : (ls : List Line) → own (labels ls) ≡ labels (without_local ls)
lines_own [] = refl
lines_own (l ∷ ls) = own_more (labels_of l) (labels ls) ∙ ap₂ (λ xs ys. xs ++ ys) (line_own l) (lines_own ls) ∙ sym (labels_split (without_local_of l) (without_local ls))

-- a label among those that are not local, where it is among all
record Split (zs own_front : List Label) (l : Label) : Type 0 where
  front : List Label
  behind : List Label
  whole : zs ≡ front ++ l ∷ behind
  same : own front ≡ own_front

split_own : (zs xs bs : List Label) (l : Label) → own zs ≡ xs ++ l ∷ bs → Split zs xs l
split_own [] [] bs l h = absurd (cc)
split_own [] (a ∷ xs) bs l h = absurd (cc)
split_own (L.Local o ∷ zs) xs bs l h = let s = split_own zs xs bs l h in record { front = L.Local o ∷ s.front; behind = s.behind; whole = ap (λ ys. L.Local o ∷ ys) s.whole; same = s.same }
split_own (z ∷ zs) [] bs l h = let e : z ≡ l = cc in record { front = []; behind = zs; whole = ap (λ y. y ∷ zs) e; same = refl }
split_own (z ∷ zs) (a ∷ xs) bs l h =
    let e : z ≡ a = cc in
    let r : own zs ≡ xs ++ l ∷ bs = cc in
    let s = split_own zs xs bs l r in
    record { front = z ∷ s.front; behind = s.behind; whole = ap (λ ys. z ∷ ys) s.whole; same = ap₂ (λ y ys. y ∷ ys) e s.same }

run_split : (p : ProgramTree) (xs ys : List Label) (c e : Configuration) → run p c (xs ++ ys) ≡ Some e → (d : Configuration) × (run p c xs ≡ Some d) × (run p d ys ≡ Some e)
run_split p [] ys c e h = (c, refl, h)
run_split p (x ∷ xs) ys c e h =
    let s = given_by (transition p c x) (λ z. run p z (xs ++ ys)) e h in
    let r = run_split p xs ys s.0 e s.2 in
    (r.0, ap (λ t. t >>= λ z. run p z xs) s.1 ∙ r.1, r.2)

-- lines that show each transition once, but for local ones
abbrev ShowOnce : List Line → Type 0
ShowOnce [] = Unit {0}
ShowOnce (R.Event n e (W.Step lab times) ∷ ls) = (times ≡ 1) × ShowOnce ls
ShowOnce (R.Event n e what ∷ ls) = ShowOnce ls
ShowOnce (R.End end ∷ ls) = ShowOnce ls

step_once : (names : List Text) (lab : Label) (times : ℕ) → is_local lab ≡ false → IsReadableStep names lab times → times ≡ 1
step_once names (L.Local o) times own h = absurd (cc)
step_once names (L.New o p c) times own h = h.3
step_once names (L.Answer p o m args) times own h = h.1
step_once names (L.Return p o v) times own h = h.3
step_once names (L.Send o p m args) times own h = h.1
step_once names (L.Take p o m args) times own h = h.1
step_once names (L.Write o item) times own h = h.2
step_once names (L.Pick o i) times own h = h.3
step_once names (L.Fault o e) times own h = h.1

once : (names : List Text) (last : ℕ) (ls : List Line) → IsRecordFrom names last ls → ShowOnce (without_local ls)
once names last [] h = absurd h
once names last (R.Event n e (W.Step (L.Local o) times) ∷ ls) h = once names n ls h.4
once names last (R.Event n e (W.Step lab times) ∷ ls) h = (step_once names lab times refl h.3, once names n ls h.4)
once names last (R.Event n e what ∷ ls) h = once names n ls h.4
once names last (R.End end ∷ []) h = tt
once names last (R.End end ∷ l ∷ ls) h = absurd h

once_at : (xs ys : List Line) (n : ℕ) (e : Event) (lab : Label) (times : ℕ) → ShowOnce (xs ++ R.Event n e (W.Step lab times) ∷ ys) → times ≡ 1
once_at [] ys n e lab times h = h.0
once_at (R.Event m f (W.Step l k) ∷ xs) ys n e lab times h = once_at xs ys n e lab times h.1
once_at (R.Event m f what ∷ xs) ys n e lab times h = once_at xs ys n e lab times h
once_at (R.End end ∷ xs) ys n e lab times h = once_at xs ys n e lab times h

-- who is at rest
full_before : (fs before behind : List Line) (o : ℕ) → fs ≡ before ++ behind → IsFull before o → HasFull fs
full_before fs before behind o whole f = record { before = before; behind = behind; object = o; full = f; whole = whole }

rest_or_full : (p : ProgramTree) (fs before behind : List Line) (d : Configuration) (l : Label) → fs ≡ before ++ behind → AreAtRest p before d l → AtRest p d l ⊎ HasFull fs
rest_or_full p fs before behind d l whole h = by l h
  where
    pair : (b o : ℕ) → ((transition p d (L.Local b) ≡ None) × IsAtRest p before d o) ⊎ IsFull before b → ((transition p d (L.Local b) ≡ None) × (transition p d (L.Local o) ≡ None)) ⊎ HasFull fs
    pair b o (inl (n, inl m)) = inl (n, m)
    pair b o (inl (n, inr f)) = inr (full_before fs before behind o whole f)
    pair b o (inr f) = inr (full_before fs before behind b whole f)

    single : (o : ℕ) → IsAtRest p before d o → ((transition p d (L.Local o) ≡ None) × (transition p d (L.Local o) ≡ None)) ⊎ HasFull fs
    single o (inl n) = inl (n, n)
    single o (inr f) = inr (full_before fs before behind o whole f)

    by : (l : Label) → AreAtRest p before d l → AtRest p d l ⊎ HasFull fs
    by (L.Answer b o m args) h = pair b o h
    by (L.Return b o v) h = pair b o h
    by l h = single (agent l) h

module _ (p : ProgramTree) (names : List Text) (ls fs gs : List Line) (readable : IsRecord names ls) (s : SaysTheSame ls fs) (g : SaysTheSame ls gs) (r : IsRunOf p gs) where
  roots : root fs ≡ root gs
  roots = s.rooted ∙ sym g.rooted

  same_own : own (labels fs) ≡ own (labels gs)
  same_own = lines_own fs ∙ ap labels (s.same ∙ sym g.same) ∙ sym (lines_own gs)

  starts_same : (c : Configuration) → start p (root fs) ≡ Some c → c ≡ r.run_to.from
  starts_same c h = same_start p (root gs) c r.run_to.from (ap (start p) (sym roots) ∙ h) r.run_to.starts

  -- an impossible line
  no_run : (number : ℕ) (d : Configuration) (lab : Label) (stop : StopsAt p fs number d lab) → is_local lab ≡ false → (stop.made ≡ 0 → AreAtRest p stop.before d lab) → HasFull fs
  no_run number d lab stop not_local rests =
      let its : List Line = R.Event number stop.event (W.Step lab stop.times) ∷ stop.behind in
      let kept : without_local fs ≡ without_local stop.before ++ (R.Event 0 stop.event (W.Step lab stop.times) ∷ without_local stop.behind)
      = ap without_local stop.whole ∙ without_split stop.before its ∙ ap (λ xs. without_local stop.before ++ (xs ++ without_local stop.behind)) (own_kept number stop.event lab stop.times not_local) in
      let single : stop.times ≡ 1 = once_at (without_local stop.before) (without_local stop.behind) 0 stop.event lab stop.times (subst ShowOnce (sym s.same ∙ kept) (once names 0 ls readable)) in
      let none : stop.made ≡ 0 = omega (arith, stop.fewer, single) in
      let shows : own (labels gs) ≡ own (labels stop.before) ++ lab ∷ own (labels stop.behind)
      = sym same_own ∙ ap (λ xs. own (labels xs)) stop.whole ∙ ap own (labels_split stop.before its) ∙ own_more (labels stop.before) (replicate stop.times lab ++ labels stop.behind)
      ∙ ap (λ k. own (labels stop.before) ++ own (replicate k lab ++ labels stop.behind)) single ∙ ap (λ xs. own (labels stop.before) ++ xs) (own_itself lab (labels stop.behind) not_local) in
      let cut = split_own (labels gs) (own (labels stop.before)) (own (labels stop.behind)) lab shows in
      let whole_run : run p r.run_to.from (cut.front ++ lab ∷ cut.behind) ≡ Some r.last = ap (run p r.run_to.from) (sym cut.whole) ∙ r.run_to.leads in
      let two = run_split p cut.front (lab ∷ cut.behind) r.run_to.from r.last whole_run in
      let next = split_step p lab cut.behind two.0 r.last two.2 in
      let lead : run p r.run_to.from (labels stop.before) ≡ Some d
      = ap (λ xs. run p r.run_to.from xs) (sym (append-nil (labels stop.before)) ∙ ap (λ k. labels stop.before ++ replicate k lab) (sym none))
      ∙ ap (λ z. run p z (labels stop.before ++ replicate stop.made lab)) (sym (starts_same stop.from stop.starts)) ∙ stop.leads in
      by (rest_or_full p fs stop.before its d lab stop.whole (rests none)) two.0
      (λ rest. stays_impossible p (labels stop.before) cut.front lab r.run_to.from d two.0 (started_in_order p (root gs) r.run_to.from r.run_to.starts) not_local (sym cut.same) lead two.1 rest stop.impossible)
      next.0 next.1
    where
      by : AtRest p d lab ⊎ HasFull fs → (e : Configuration) → (AtRest p d lab → transition p e lab ≡ None) → (f : Configuration) → transition p e lab ≡ Some f → HasFull fs
      by (inl rest) e n f i = absurd (let z : None ≡ Some f = sym (n rest) ∙ i in cc)
      by (inr full) e n f i = full

  -- an object that still moves at a quiet end
  rests_alone : (c d : Configuration) → ((q : ℕ) → transition p c (L.Local q) ≡ None) → (os : List ℕ) → run p c (locals os) ≡ Some d → c ≡ d
  rests_alone c d n [] h = same_some h
  rests_alone c d n (o ∷ os) h = let t = given_by (transition p c (L.Local o)) (λ z. run p z (locals os)) d h in absurd (let z : None ≡ Some t.0 = sym (n o) ∙ t.1 in cc)

  no_quiet : (o : ℕ) (still : StillMoves p fs o) (before : List Line) → EndsWith fs before → AllAtRest p before still.last → HasFull fs
  no_quiet o still before ends (inr (q, f)) = full_before fs before (R.End ends.end ∷ []) q ends.whole f
  no_quiet o still before ends (inl rests) =
      let from : still.run_to.from ≡ r.run_to.from = starts_same still.run_to.from still.run_to.starts in
      let lead : run p r.run_to.from (labels fs) ≡ Some still.last = ap (λ z. run p z (labels fs)) (sym from) ∙ still.run_to.leads in
      let sorted = started_in_order p (root gs) r.run_to.from r.run_to.starts in
      let m = same_own_meet p (labels fs) (labels gs) r.run_to.from r.run_to.from still.last r.last sorted sorted same_own (meets_itself p r.run_to.from) lead r.run_to.leads in
      let quiet : ends_quiet gs ≡ true = sym (quiet_without gs) ∙ ap ends_quiet (g.same ∙ sym s.same) ∙ quiet_without fs ∙ still.quiet in
      let nothing = r.rests quiet in
      let left : still.last ≡ m.last = rests_alone still.last m.last rests m.left.objects m.left.leads in
      let right : r.last ≡ m.last = rests_alone r.last m.last (λ q. nothing (L.Local q)) m.right.objects m.right.leads in
      let moves : transition p r.last still.can.0 ≡ Some still.can.2 = ap (λ z. transition p z still.can.0) (right ∙ sym left) ∙ still.can.3 in
      absurd (let z : None ≡ Some still.can.2 = sym (nothing still.can.0) ∙ moves in cc)

-- where filling in stops, no other filling is a run, unless a line is full
pub no_other_filling : (p : ProgramTree) (names : List Text) (ls fs gs : List Line) (v : Verdict) → IsRecord names ls → IsFilled p ls fs v → (v ≡ V.Yes → ⊥) → SaysTheSame ls gs → IsRunOf p gs → HasFull fs
no_other_filling p names ls fs gs V.Yes readable f not_yes g r = absurd (not_yes refl)
no_other_filling p names ls fs gs (V.No number redex) readable (s, (d, lab, stop, shows, not_local, behind, rests)) not_yes g r = no_run p names ls fs gs readable s.says g r number d lab stop not_local rests
no_other_filling p names ls fs gs (V.Moving o) readable (s, (still, before, ends, rests)) not_yes g r = no_quiet p names ls fs gs readable s.says g r o still before ends rests
