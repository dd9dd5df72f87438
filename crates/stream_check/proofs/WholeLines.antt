-- The judge of a stream before and after one more whole line.
use Rattle.std.proofs.Common.{◌≡◌, ◌≢◌, refl, sym, ap, subst, ◌∙◌, ℕ, zero, suc, List, [], ◌∷◌, ◌++◌, map, replicate, Option, Some, None, Bool, true, false, append_assoc, append-nil, arith, if◌then◌else◌}
use Rattle.std.proofs.lemmas.List.{map-append}
use Rattle.text_scan.specs.Text.{Text}
use Rattle.run_types.specs.declared.types.End.{End}
use Rattle.run_types.specs.declared.types.Line.{Line}
use Rattle.run_types.specs.declared.types.Line.TheVariants as R
use Rattle.run_types.specs.declared.verdicts.Redex.{Redex}
use Rattle.run_types.specs.declared.verdicts.Verdict.{Verdict}
use Rattle.run_types.specs.declared.verdicts.Verdict.TheVariants as V
use Rattle.pool_syntax.specs.Terms.{ProgramTree}
use Rattle.pool_relation.specs.Configuration.{Configuration}
use Rattle.pool_relation.specs.Transition.{start}
use Rattle.pool_relation.proofs.Laws.{joined}
use Rattle.mesh_semantics.specs.Record.{labels, labels_of}
use Rattle.pool_semantics.specs.PlainOf.{configuration_of}
use Rattle.record_writer.specs.WrittenText.{writes_text}
use Rattle.record_check.specs.RecordJudgement.{IsRunOf, LeadsTo, StillMoves, root}
use Rattle.record_check.specs.Verdicts.{StopsLine}
use Rattle.record_parser.specs.Fields.{fields, parts}
use Rattle.record_parser.specs.Lines.{Told, line_of}
use Rattle.run_record.specs.declared.fault.RecordFault.{RecordFault}
use Rattle.run_record.specs.declared.fault.RecordFault.TheVariants as fault
use Rattle.run_record.specs.Numbered.{numbered}
use Rattle.run_record.specs.Records.{Rows, is_end, refused, with_told}
use Rattle.stream_check.specs.declared.judge.Judge.{Judge}
use Rattle.stream_check.specs.declared.judge.Lines.{Lines}
use Rattle.stream_check.specs.declared.judge.Stop.{Stop}
use Rattle.stream_check.specs.declared.judge.Stop.TheVariants as S
use Rattle.stream_check.specs.Filled.{IsFilled}
use Rattle.stream_check.specs.FilledStream.{IsFilledFront, IsFilledStream, IsFollowedBy}
use Rattle.stream_check.specs.FillingLines.{IsFilledAfter, IsFilledLine}
use Rattle.stream_check.specs.Followed.{IsFollowed, IsJudged}
use Rattle.stream_check.specs.Progress.{HasRead, IsAfter, IsAfterBy, IsFilledAt, IsFilledTold, IsJudgedAt, IsJudgedBy, IsJudgedLine, StopsNext, last_part, stop_by}
use Rattle.stream_check.specs.Stream.{comes_next, fault_after, has_end, last_number, next_number, rows_after, stream_fault, stream_lines, stream_rows, whole_lines}
use Rattle.stream_check.proofs.LineFeeds.{NoFeed, line_tail, tail_more, whole_line, whole_same}
use Rattle.stream_check.proofs.StreamRows.{before, end_kept, no_rows, row_ended, row_faulty, row_goes, rows_join}
use Rattle.stream_check.proofs.FillingSteps.{filled_front}
use Rattle.stream_check.proofs.LineWrites.{writes_behind}
use Rattle.stream_check.proofs.ReadIsFollowed.{last_by, read_is_followed, unended_by}
use Rattle.stream_check.proofs.NextLine.{end_behind, labels_behind, root_stays}

-- a line that stops shows a transition
stops_some : (p : ProgramTree) (c d : Configuration) (l : Line) (n : ℕ) (redex : Redex) → StopsLine p c l n d redex → labels_of l ≢ []
stops_some p c d l n redex s none = by s.times refl
  where
    by : (k : ℕ) → s.times ≡ k → ⊥
    by zero e = omega (arith, s.stops.fewer, e)
    by (suc k) e =
        let z : s.label ∷ replicate k s.label ≡ [] = sym (ap labels_of s.is ∙ ap (λ m. replicate m s.label) e) ∙ none in cc

some_behind : {A : Type 0} (xs ys : List A) → ys ≢ [] → xs ++ ys ≢ []
some_behind [] ys h e = h e
some_behind (x ∷ xs) ys h e = let z : x ∷ (xs ++ ys) ≡ [] = e in cc

end_of : (l : Line) → is_end l ≡ true → (e : End) × (l ≡ R.End e)
end_of (R.Event n e what) h = absurd (let z : false ≡ true = h in cc)
end_of (R.End e) h = (e, refl)

module _ (p : ProgramTree) (names : List Text) (s f left : Text) (clear : NoFeed f) (faultless : stream_fault s ≡ None) (unended : has_end (stream_lines names s) ≡ false) where
  -- the lines so far, the number of the last event, the next line, and all bytes
  abbrev ls : List Line
  ls = stream_lines names s

  abbrev last : ℕ
  last = last_number 0 (stream_lines names s)

  abbrev next : Text
  next = last_part (parts 10 s) ++ f

  abbrev all : Text
  all = s ++ (f ++ 10 ∷ left)

  rows_line : stream_rows all ≡ before (stream_rows s).told (rows_after last (next ∷ whole_lines left))
  rows_line = ap (rows_after 0) (whole_line s f left clear) ∙ rows_join names 0 (whole_lines s) (next ∷ whole_lines left) faultless unended

  lines_before : (ts : Rows) → stream_rows all ≡ before (stream_rows s).told ts → stream_lines names all ≡ ls ++ map (numbered names) ts.told
  lines_before ts e = ap (λ (r : Rows). map (numbered names) r.told) e ∙ map-append (numbered names) (stream_rows s).told ts.told

  -- the lines after the next one
  abbrev behind : List Line
  behind = map (numbered names) (rows_after (next_number last) (whole_lines left)).told

  module _ (t : Told) (is : line_of (fields next) ≡ Some t) (comes : comes_next last t.line ≡ true) where
    rows_goes : is_end t.line ≡ false → stream_rows all ≡ before (stream_rows s).told (with_told t (rows_after (next_number last) (whole_lines left)))
    rows_goes i = rows_line ∙ ap (before (stream_rows s).told) (row_goes last next (whole_lines left) t is comes i)

    rows_ended : is_end t.line ≡ true → stream_rows all ≡ before (stream_rows s).told (with_told t no_rows)
    rows_ended i = rows_line ∙ ap (before (stream_rows s).told) (row_ended last next (whole_lines left) t is comes i)

    lines_goes : is_end (numbered names t) ≡ false → stream_lines names all ≡ ls ++ numbered names t ∷ behind
    lines_goes i = lines_before (with_told t (rows_after (next_number last) (whole_lines left))) (rows_goes (sym (end_kept names t.text t.line) ∙ i))

    lines_ended : is_end (numbered names t) ≡ true → stream_lines names all ≡ ls ++ numbered names t ∷ []
    lines_ended i = lines_before (with_told t no_rows) (rows_ended (sym (end_kept names t.text t.line) ∙ i))

  rows_faulty : (g : RecordFault) → fault_after last (line_of (fields next)) ≡ Some g → stream_rows all ≡ before (stream_rows s).told (refused g)
  rows_faulty g h = rows_line ∙ ap (before (stream_rows s).told) (row_faulty last next (whole_lines left) g h)

  lines_faulty : (g : RecordFault) → fault_after last (line_of (fields next)) ≡ Some g → stream_lines names all ≡ ls
  lines_faulty g h = lines_before (refused g) (rows_faulty g h) ∙ append-nil ls

  -- the judge stops at the next line
  module _ (d : Configuration) (leads : LeadsTo p ls d) (j : Lines) where
    faulty_at : (g : RecordFault) (m : Text) → fault_after last (line_of (fields next)) ≡ Some g → m ≡ [] → IsFollowed p names all (writes_text names ls ++ m) (Some (S.Faulty g))
    faulty_at g m h e =
        let same = lines_faulty g h in (
          ap (λ (r : Rows). r.fault) (rows_faulty g h),
          (d, subst (λ (xs : List Line). LeadsTo p xs d) (sym same) leads),
          ap (λ t. writes_text names ls ++ t) e ∙ (append-nil (writes_text names ls) ∙ ap (writes_text names) (sym same)),
        )

    yes_at : (m : Text) → IsJudgedLine p names ls last (line_of (fields next)) (Some V.Yes) m j → IsFollowed p names all (writes_text names ls ++ m) (Some (S.Judged V.Yes))
    yes_at m r =
        let l = numbered names r.told in
        let end = r.verdict.0 in
        let same = lines_ended r.told r.is r.next end in (
          subst (IsRunOf p) (sym same) r.verdict.1,
          ap has_end same ∙ end_behind ls l true unended end,
          ap (λ t. writes_text names ls ++ t) r.writes ∙ (sym (writes_behind names ls l) ∙ ap (writes_text names) (sym same)),
        )

    moving_at : (o : ℕ) (m : Text) → IsJudgedLine p names ls last (line_of (fields next)) (Some (V.Moving o)) m j → IsFollowed p names all (writes_text names ls ++ m) (Some (S.Judged (V.Moving o)))
    moving_at o m r =
        let l = numbered names r.told in
        let end = r.verdict.0 in
        let same = lines_ended r.told r.is r.next end in
        let e = end_of l end in (
          subst (λ (xs : List Line). StillMoves p xs o) (sym same) r.verdict.1,
          (ls, record { end = e.0; whole = same ∙ ap (λ x. ls ++ x ∷ []) e.1 }, ap (λ t. writes_text names ls ++ t) r.writes),
        )

    no_at : (n : ℕ) (redex : Redex) (m : Text) → IsJudgedLine p names ls last (line_of (fields next)) (Some (V.No n redex)) m j → IsFollowed p names all (writes_text names ls ++ m) (Some (S.Judged (V.No n redex)))
    no_at n redex m r =
        let l = numbered names r.told in
        let st : StopsNext p ls l n redex = r.verdict in
        let same = lines_goes r.told r.is r.next (ap is_end st.stops.is) in
        let some : labels (ls ++ l ∷ []) ≢ [] =
        λ e. some_behind (labels ls) (labels_of l) (stops_some p st.between st.last l n redex st.stops) (sym (labels_behind ls l) ∙ e) in
        let name : root (stream_lines names all) ≡ root (ls ++ l ∷ []) = ap root (same ∙ sym (append_assoc ls (l ∷ []) behind)) ∙ root_stays (ls ++ l ∷ []) behind some in (
          st.last,
          st.stops.label,
          record {
            before = ls;
            behind = behind;
            event = st.stops.event;
            made = st.stops.stops.made;
            times = st.stops.times;
            whole = same ∙ ap (λ x. ls ++ x ∷ behind) st.stops.is;
            fewer = st.stops.stops.fewer;
            from = st.from;
            starts = ap (start p) name ∙ st.starts;
            leads = joined p st.from st.between (labels ls) (replicate st.stops.stops.made st.stops.label) st.leads ∙ st.stops.stops.leads;
            impossible = st.stops.stops.impossible;
          },
          st.stops.stops.shows,
          ap (λ t. writes_text names ls ++ t) r.writes,
        )

    stop_at : (stop : Stop) (m : Text) → IsJudgedAt p names ls last (line_of (fields next)) (Some stop) m j → IsFollowed p names all (writes_text names ls ++ m) (Some stop)
    stop_at (S.Faulty g) m r = faulty_at g m r.0 r.1
    stop_at (S.Judged V.Yes) m r = yes_at m r
    stop_at (S.Judged (V.No n redex)) m r = no_at n redex m r
    stop_at (S.Judged (V.Moving o)) m r = moving_at o m r

  -- a judge that fills in local transitions stops at the next line
  module _ (front : IsFilledFront p ls) (j : Lines) where
    filled_faulty_at : (g : RecordFault) (m : Text) → fault_after last (line_of (fields next)) ≡ Some g → m ≡ [] → IsFilledStream p names all (writes_text names ls ++ m) (Some (S.Faulty g))
    filled_faulty_at g m h e =
        let same = lines_faulty g h in (
          ap (λ (r : Rows). r.fault) (rows_faulty g h),
          subst (λ (xs : List Line). IsFilledFront p xs) (sym same) front,
          ap (λ t. writes_text names ls ++ t) e ∙ (append-nil (writes_text names ls) ∙ ap (writes_text names) (sym same)),
        )

    filled_judged_at : (v : Verdict) (m : Text) → IsFilledTold p names ls last (line_of (fields next)) (Some v) m j → IsFilledStream p names all (writes_text names ls ++ m) (Some (S.Judged v))
    filled_judged_at v m r = by (is_end l) refl
      where
        l : Line
        l = numbered names r.told

        with_rest : (rest : List Line) → (is_end (numbered names r.told) ≡ true → rest ≡ []) → stream_lines names all ≡ ls ++ numbered names r.told ∷ rest → IsFilledStream p names all (writes_text names ls ++ m) (Some (S.Judged v))
        with_rest rest none same =
            let k = r.gives.1 rest none in (
              k.0,
              subst (λ (xs : List Line). IsFilled p xs k.0 v) (sym same) k.1,
              subst (λ (t : Text). IsJudged p names k.0 (writes_text names ls ++ t) v) (sym r.gives.2) (k.2 names),
            )

        by : (b : Bool) → is_end (numbered names r.told) ≡ b → IsFilledStream p names all (writes_text names ls ++ m) (Some (S.Judged v))
        by true e = with_rest [] (λ _. refl) (lines_ended r.told r.is r.next e)
        by false e = with_rest behind (λ i. absurd (let z : false ≡ true = sym e ∙ i in cc)) (lines_goes r.told r.is r.next e)

    filled_stop_at : (stop : Stop) (m : Text) → IsFilledAt p names ls last (line_of (fields next)) (Some stop) m j → IsFilledStream p names all (writes_text names ls ++ m) (Some stop)
    filled_stop_at (S.Faulty g) m r = filled_faulty_at g m r.0 r.1
    filled_stop_at (S.Judged v) m r = filled_judged_at v m r

  pub stop_by_mode : (fills : Bool) (i j : Lines) (stop : Stop) (m : Text) → IsAfterBy fills p ls i → IsJudgedBy fills p names ls last (line_of (fields next)) (Some stop) m j
      → IsFollowedBy fills p names all (writes_text names ls ++ m) (Some stop)
  stop_by_mode true i j stop m a g = filled_stop_at (filled_front p ls i a) j stop m g
  stop_by_mode false i j stop m a g = stop_at (configuration_of i.filling.plain) a.leads j stop m g

  -- the lines with the next one
  next_behind : (t : Told) → line_of (fields next) ≡ Some t → comes_next last t.line ≡ true → is_end (numbered names t) ≡ false → left ≡ []
      → (stream_fault all ≡ None) × (stream_lines names all ≡ ls ++ numbered names t ∷ [])
  next_behind t is comes event none = (
    ap (λ (r : Rows). r.fault) (rows_goes t is comes (sym (end_kept names t.text t.line) ∙ event)) ∙ ap (λ (x : Text). (rows_after (next_number last) (whole_lines x)).fault) none,
    lines_goes t is comes event ∙ ap (λ (x : Text). ls ++ numbered names t ∷ map (numbered names) (rows_after (next_number last) (whole_lines x)).told) none,
  )

  -- the judge reads on after the next line
  line_goes : (fills : Bool) (i : Lines) (m : Text) → IsJudgedBy fills p names ls last (line_of (fields next)) None m i → left ≡ []
      → (stream_fault all ≡ None) × IsAfterBy fills p (stream_lines names all) i × (writes_text names ls ++ m ≡ writes_text names (stream_lines names all))
  line_goes true i m g none =
      let l = numbered names g.told in
      let n = next_behind g.told g.is g.next g.gives.0 none in (
        n.0,
        subst (λ (xs : List Line). IsFilledAfter p xs i) (sym n.1) g.gives.1,
        ap (λ t. writes_text names ls ++ t) g.gives.2 ∙ (sym (writes_behind names ls l) ∙ ap (writes_text names) (sym n.1)),
      )
  line_goes false i m g none =
      let l = numbered names g.told in
      let n = next_behind g.told g.is g.next g.verdict.0 none in (
        n.0,
        subst (λ (xs : List Line). IsAfter p xs i) (sym n.1) g.verdict.1,
        ap (λ t. writes_text names ls ++ t) g.writes ∙ (sym (writes_behind names ls l) ∙ ap (writes_text names) (sym n.1)),
      )

-- the judge reads on after a line
read_on : (fills : Bool) (p : ProgramTree) (names : List Text) (s f : Text) (j i : Judge) (m : Text) (r : HasRead fills p names s j) → NoFeed f
    → IsJudgedBy fills p names (stream_lines names s) (last_number 0 (stream_lines names s)) (line_of (fields (last_part (parts 10 s) ++ f))) None m i.lines → i.fills ≡ j.fills → i.tail.items ≡ []
    → HasRead fills p names (s ++ (f ++ 10 ∷ [])) i × (writes_text names (stream_lines names s) ++ m ≡ writes_text names (stream_lines names (s ++ (f ++ 10 ∷ []))))
read_on fills p names s f j i m r clear g mode tail =
    let goes = line_goes p names s f [] clear r.faultless (unended_by fills p (stream_lines names s) j.lines r.lines) fills i.lines m g refl in
    (record { mode = mode ∙ r.mode; faultless = goes.0; lines = goes.1; tail = tail ∙ sym (line_tail s f clear) }, goes.2)

-- the mode of the judge
pub by_mode : (fills : Bool) (p : ProgramTree) (ls : List Line) (mode : Bool) (j : Lines) → mode ≡ fills → IsAfterBy fills p ls j → IsAfterBy mode p ls j
by_mode fills p ls mode j e a = subst (λ (b : Bool). IsAfterBy b p ls j) (sym e) a

pub judged_by_mode : (fills : Bool) (p : ProgramTree) (names : List Text) (ls : List Line) (last : ℕ) (o : Option Told) (mode : Bool) (stop : Option Stop) (text : Text) (j : Lines) → mode ≡ fills
    → IsJudgedBy mode p names ls last o stop text j → IsJudgedBy fills p names ls last o stop text j
judged_by_mode fills p names ls last o mode stop text j e g = subst (λ (b : Bool). IsJudgedBy b p names ls last o stop text j) e g

-- a line with a fault is judged so in both ways
pub faulty_by : (fills : Bool) (p : ProgramTree) (names : List Text) (ls : List Line) (last : ℕ) (o : Option Told) (f : RecordFault) (j : Lines) → fault_after last o ≡ Some f
    → IsJudgedBy fills p names ls last o (Some (S.Faulty f)) [] j
faulty_by true p names ls last o f j h = (h, refl)
faulty_by false p names ls last o f j h = (h, refl)

-- a line with another number
pub out_of_order : (last : ℕ) (o : Option Told) (t : Told) (n : ℕ) → Some t ≡ o → comes_next last t.line ≡ false → n ≡ next_number last → fault_after last o ≡ Some (fault.OutOfOrder n)
out_of_order last o t n is wrong number =
    ap (fault_after last) (sym is) ∙ (ap (λ (b : Bool). if b then None else Some (fault.OutOfOrder (next_number last))) wrong ∙ ap (λ (m : ℕ). Some (fault.OutOfOrder m)) (sym number))

-- a line of a text is judged as its line with the number of its name, with local transitions filled in
pub filled_told : (p : ProgramTree) (names : List Text) (ls : List Line) (last : ℕ) (o : Option Told) (t : Told) (l : Line) (v : Option Verdict) (text : Text) (j : Lines) → Some t ≡ o
    → comes_next last t.line ≡ true → l ≡ numbered names t → IsFilledLine p names ls l v text j → IsFilledAt p names ls last o (stop_by v) text j
filled_told p names ls last o t l v text j is next same gives = by v (subst (λ (x : Line). IsFilledLine p names ls x v text j) same gives)
  where
    by : (w : Option Verdict) → IsFilledLine p names ls (numbered names t) w text j → IsFilledAt p names ls last o (stop_by w) text j
    by None g = record { told = t; is = sym is; next = next; gives = g }
    by (Some w) g = record { told = t; is = sym is; next = next; gives = g }

-- what the judge has read of a piece, and what it has appended to the text
pub record Reading (fills : Bool) (p : ProgramTree) (names : List Text) (s piece rest base now : Text) (j : Judge) : Type 0 where
  pub done : Text
  pub parted : done ++ rest ≡ piece
  pub read : HasRead fills p names (s ++ done) j
  pub more : Text
  pub grown : now ≡ base ++ more
  pub writes : writes_text names (stream_lines names s) ++ more ≡ writes_text names (stream_lines names (s ++ done))

pub starts_reading : (fills : Bool) (p : ProgramTree) (names : List Text) (s piece base : Text) (j : Judge) → HasRead fills p names s j → Reading fills p names s piece piece base base j
starts_reading fills p names s piece base j r =
    record {
      done = [];
      parted = refl;
      read = subst (λ t. HasRead fills p names t j) (sym (append-nil s)) r;
      more = [];
      grown = sym (append-nil base);
      writes = append-nil (writes_text names (stream_lines names s)) ∙ ap (λ t. writes_text names (stream_lines names t)) (sym (append-nil s));
    }

-- what the next line gives, in terms of the lines so far
module _ (fills : Bool) (p : ProgramTree) (names : List Text) (s piece rest base now : Text) (j : Judge) (r : Reading fills p names s piece rest base now j) (f : Text) (clear : NoFeed f) where
  abbrev here : Text
  here = s ++ r.done

  -- all bytes are those so far and those that are left
  joint : (t : Text) → rest ≡ t → here ++ t ≡ s ++ piece
  joint t e = append_assoc s r.done t ∙ ap (λ x. s ++ x) (ap (λ x. r.done ++ x) (sym e) ∙ r.parted)

  grown_by : (m new : Text) → new ≡ now ++ m → new ≡ base ++ (r.more ++ m)
  grown_by m new e = e ∙ (ap (λ t. t ++ m) r.grown ∙ append_assoc base r.more m)

  writes_by : (m : Text) → writes_text names (stream_lines names s) ++ (r.more ++ m) ≡ writes_text names (stream_lines names here) ++ m
  writes_by m = sym (append_assoc (writes_text names (stream_lines names s)) r.more m) ∙ ap (λ t. t ++ m) r.writes

  -- the line as the judge's parts give it
  as_here : (w m : Text) (o : Option Stop) (i : Lines) → w ≡ j.tail.items ++ f → IsJudgedBy fills p names (stream_lines names here) j.lines.last (line_of (fields w)) o m i
      → IsJudgedBy fills p names (stream_lines names here) (last_number 0 (stream_lines names here)) (line_of (fields (last_part (parts 10 here) ++ f))) o m i
  as_here w m o i e g =
      subst (λ (n : ℕ). IsJudgedBy fills p names (stream_lines names here) n (line_of (fields (last_part (parts 10 here) ++ f))) o m i) (last_by fills p (stream_lines names here) j.lines r.read.lines)
      (subst (λ (t : Text). IsJudgedBy fills p names (stream_lines names here) j.lines.last (line_of (fields t)) o m i) (e ∙ ap (λ t. t ++ f) r.read.tail) g)

  pub reads_on : (left w m new : Text) (i : Judge) → rest ≡ f ++ 10 ∷ left → w ≡ j.tail.items ++ f → new ≡ now ++ m
      → IsJudgedBy fills p names (stream_lines names here) j.lines.last (line_of (fields w)) None m i.lines → i.fills ≡ j.fills → i.tail.items ≡ [] → Reading fills p names s piece left base new i
  reads_on left w m new i e is put g mode tail =
      let step = read_on fills p names here f j i m r.read clear (as_here w m None i.lines is g) mode tail in
      let line = f ++ 10 ∷ [] in
      record {
        done = r.done ++ line;
        parted = append_assoc r.done line left ∙ (ap (λ t. r.done ++ t) (append_assoc f (10 ∷ []) left ∙ sym e) ∙ r.parted);
        read = subst (λ t. HasRead fills p names t i) (append_assoc s r.done line) step.0;
        more = r.more ++ m;
        grown = grown_by m new put;
        writes = writes_by m ∙ (step.1 ∙ ap (λ t. writes_text names (stream_lines names t)) (append_assoc s r.done line));
      }

  pub stops_reading : (left w m new : Text) (i : Lines) (stop : Stop) → rest ≡ f ++ 10 ∷ left → w ≡ j.tail.items ++ f → new ≡ now ++ m
      → IsJudgedBy fills p names (stream_lines names here) j.lines.last (line_of (fields w)) (Some stop) m i
      → (more : Text) × (new ≡ base ++ more) × IsFollowedBy fills p names (s ++ piece) (writes_text names (stream_lines names s) ++ more) (Some stop) × Unit {0}
  stops_reading left w m new i stop e is put g =
      let rd = r.read in
      let told = stop_by_mode p names here f left clear rd.faultless (unended_by fills p (stream_lines names here) j.lines rd.lines) fills j.lines i stop m rd.lines (as_here w m (Some stop) i is g) in (
        r.more ++ m,
        grown_by m new put,
        subst (λ t. IsFollowedBy fills p names (s ++ piece) t (Some stop)) (sym (writes_by m))
            (subst (λ t. IsFollowedBy fills p names t (writes_text names (stream_lines names here) ++ m) (Some stop)) (joint (f ++ 10 ∷ left) e) told),
        tt,
      )

  pub ends_reading : (i : Judge) → rest ≡ f → i.fills ≡ j.fills → i.lines ≡ j.lines → i.tail.items ≡ j.tail.items ++ f
      → (more : Text) × (now ≡ base ++ more) × IsFollowedBy fills p names (s ++ piece) (writes_text names (stream_lines names s) ++ more) None × HasRead fills p names (s ++ piece) i
  ends_reading i e mode same tail =
      let rows : stream_rows (here ++ f) ≡ stream_rows here = ap (rows_after 0) (whole_same here f clear) in
      let lines : stream_lines names (here ++ f) ≡ stream_lines names here = ap (λ (r : Rows). map (numbered names) r.told) rows in
      let read : HasRead fills p names (here ++ f) i =
      record {
        mode = mode ∙ r.read.mode;
        faultless = ap (λ (r : Rows). r.fault) rows ∙ r.read.faultless;
        lines = subst (λ (xs : List Line). IsAfterBy fills p xs i.lines) (sym lines) (subst (IsAfterBy fills p (stream_lines names here)) (sym same) r.read.lines);
        tail = tail ∙ (ap (λ t. t ++ f) r.read.tail ∙ sym (tail_more here f clear));
      } in
      let at = joint f e in
      let whole : HasRead fills p names (s ++ piece) i = subst (λ t. HasRead fills p names t i) at read in (
        r.more,
        r.grown,
        subst (λ t. IsFollowedBy fills p names (s ++ piece) t None) (sym (r.writes ∙ (ap (writes_text names) (sym lines) ∙ ap (λ t. writes_text names (stream_lines names t)) at)))
            (read_is_followed fills p names (s ++ piece) i whole),
        whole,
      )
