-- The lines of a stream with more lines after them.
use Rattle.std.proofs.Common.{◌≡◌, refl, sym, ap, ◌∙◌, ℕ, List, [], ◌∷◌, ◌++◌, map, Option, Some, None, Bool, true, false, ◌||◌}
use Rattle.text_scan.specs.Text.{Text}
use Rattle.run_types.specs.declared.types.Line.{Line}
use Rattle.run_types.specs.declared.types.Line.TheVariants as R
use Rattle.run_types.proofs.Laws.{equal}
use Rattle.record_parser.specs.Fields.{fields}
use Rattle.record_parser.specs.Lines.{Told, line_of}
use Rattle.run_record.specs.declared.fault.RecordFault.{RecordFault}
use Rattle.run_record.specs.declared.fault.RecordFault.TheVariants as fault
use Rattle.run_record.specs.Numbered.{numbered, numbered_by}
use Rattle.run_record.specs.Records.{Rows, by_fault, is_end, refused, with_told}
use Rattle.stream_check.specs.Stream.{comes_next, fault_after, has_end, last_number, next_number, rows_after, told_before}

abbrev pub no_rows : Rows
no_rows = record { told = []; fault = None }

-- these lines before the rows
abbrev pub before : List Told → Rows → Rows
before ts r = record { told = ts ++ r.told; fault = r.fault }

-- what one line is after the event `last`
pub data RowCase (last : ℕ) (o : Option Told) : Type 0 where
  faulty : (f : RecordFault) → fault_after last o ≡ Some f → RowCase last o
  ended : (t : Told) → o ≡ Some t → comes_next last t.line ≡ true → is_end t.line ≡ true → RowCase last o
  goes : (t : Told) → o ≡ Some t → comes_next last t.line ≡ true → is_end t.line ≡ false → RowCase last o

pub row_case : (last : ℕ) (o : Option Told) → RowCase last o
row_case last None = faulty (fault.BadLine (next_number last)) refl
row_case last (Some t) = by (comes_next last t.line) refl (is_end t.line) refl
  where
    by : (c : Bool) → comes_next last t.line ≡ c → (e : Bool) → is_end t.line ≡ e → RowCase last (Some t)
    by true h true i = ended t refl h i
    by true h false i = goes t refl h i
    by false h e i = faulty (fault.OutOfOrder (next_number last)) (rw h refl)

-- a line with the right number has no fault
fine : (last : ℕ) (o : Option Told) (t : Told) → o ≡ Some t → comes_next last t.line ≡ true → fault_after last o ≡ None
fine last o t e h = ap (fault_after last) e ∙ rw h refl

pub row_faulty : (last : ℕ) (p : Text) (ps : List Text) (f : RecordFault) → fault_after last (line_of (fields p)) ≡ Some f → rows_after last (p ∷ ps) ≡ refused f
row_faulty last p ps f h = ap (λ o. by_fault o (told_before (line_of (fields p)) (rows_after (next_number last) ps))) h

pub row_ended : (last : ℕ) (p : Text) (ps : List Text) (t : Told) → line_of (fields p) ≡ Some t → comes_next last t.line ≡ true → is_end t.line ≡ true → rows_after last (p ∷ ps) ≡ with_told t no_rows
row_ended last p ps t e h i =
    let rest = rows_after (next_number last) ps in
    ap (λ o. by_fault o (told_before (line_of (fields p)) rest)) (fine last (line_of (fields p)) t e h)
    ∙ (ap (λ o. told_before o rest) e ∙ rw i refl)

pub row_goes : (last : ℕ) (p : Text) (ps : List Text) (t : Told) → line_of (fields p) ≡ Some t → comes_next last t.line ≡ true → is_end t.line ≡ false → rows_after last (p ∷ ps) ≡ with_told t (rows_after (next_number last) ps)
row_goes last p ps t e h i =
    let rest = rows_after (next_number last) ps in
    ap (λ o. by_fault o (told_before (line_of (fields p)) rest)) (fine last (line_of (fields p)) t e h)
    ∙ (ap (λ o. told_before o rest) e ∙ rw i refl)

-- nothing comes after a fault
pub fault_stays : (last : ℕ) (ws qs : List Text) (f : RecordFault) → (rows_after last ws).fault ≡ Some f → rows_after last (ws ++ qs) ≡ rows_after last ws
fault_stays last [] qs f = λ h. absurd (let z : None ≡ Some f = h in cc)
fault_stays last (p ∷ ps) qs f = by (row_case last (line_of (fields p))) (fault_stays (next_number last) ps qs f)
  where
    by : RowCase last (line_of (fields p)) → ((rows_after (next_number last) ps).fault ≡ Some f → rows_after (next_number last) (ps ++ qs) ≡ rows_after (next_number last) ps)
        → (rows_after last (p ∷ ps)).fault ≡ Some f → rows_after last (p ∷ ps ++ qs) ≡ rows_after last (p ∷ ps)
    by (faulty g e) again h = row_faulty last p (ps ++ qs) g e ∙ sym (row_faulty last p ps g e)
    by (ended t e n i) again h = row_ended last p (ps ++ qs) t e n i ∙ sym (row_ended last p ps t e n i)
    by (goes t e n i) again h =
        let this = row_goes last p ps t e n i in
        row_goes last p (ps ++ qs) t e n i ∙ (ap (with_told t) (again (sym (ap (λ (r : Rows). r.fault) this) ∙ h)) ∙ sym this)

-- a line has the same number, and is an end or none, whatever the number of its name
pub end_kept : (names : List Text) (o : Option Text) (l : Line) → is_end (numbered_by names o l) ≡ is_end l
end_kept names None l = refl
end_kept names (Some w) (R.Event n e what) = refl
end_kept names (Some w) (R.End e) = refl

pub number_kept : (names : List Text) (last : ℕ) (o : Option Text) (l : Line) → comes_next last (numbered_by names o l) ≡ comes_next last l
number_kept names last None l = refl
number_kept names last (Some w) (R.Event n e what) = refl
number_kept names last (Some w) (R.End e) = refl

-- the number of the last event, after an event
pub last_next : (last : ℕ) (l : Line) (ls : List Line) → comes_next last l ≡ true → is_end l ≡ false → last_number last (l ∷ ls) ≡ last_number (next_number last) ls
last_next last (R.Event n e what) ls h i = ap (λ k. last_number k ls) (equal n (next_number last) h)
last_next last (R.End e) ls h i = absurd (let z : true ≡ false = i in cc)

pub last_behind : (last : ℕ) (xs : List Line) (l : Line) → comes_next (last_number last xs) l ≡ true → is_end l ≡ false → last_number last (xs ++ l ∷ []) ≡ next_number (last_number last xs)
last_behind last [] l h i = last_next last l [] h i
last_behind last (R.Event n e what ∷ xs) l h i = last_behind n xs l h i
last_behind last (R.End e ∷ xs) l h i = last_behind last xs l h i

module _ (names : List Text) where
  -- the number of the last event after a line of a text
  told_next : (last : ℕ) (t : Told) (ls : List Line) → comes_next last t.line ≡ true → is_end t.line ≡ false → last_number last (numbered names t ∷ ls) ≡ last_number (next_number last) ls
  told_next last t ls h i = last_next last (numbered names t) ls (number_kept names last t.text t.line ∙ h) (end_kept names t.text t.line ∙ i)

  -- an end is among lines after an event
  end_behind : (t : Told) (ls : List Line) → is_end t.line ≡ false → has_end (numbered names t ∷ ls) ≡ has_end ls
  end_behind t ls i = ap (λ b. b || has_end ls) (end_kept names t.text t.line ∙ i)

  end_here : (t : Told) (ls : List Line) → is_end t.line ≡ true → has_end (numbered names t ∷ ls) ≡ true
  end_here t ls i = ap (λ b. b || has_end ls) (end_kept names t.text t.line ∙ i)

  -- without an end and a fault, the rows of more lines follow
  pub rows_join : (last : ℕ) (ws qs : List Text) → (rows_after last ws).fault ≡ None → has_end (map (numbered names) (rows_after last ws).told) ≡ false
      → rows_after last (ws ++ qs) ≡ before (rows_after last ws).told (rows_after (last_number last (map (numbered names) (rows_after last ws).told)) qs)
  rows_join last [] qs = λ h k. refl
  rows_join last (p ∷ ps) qs = by (row_case last (line_of (fields p))) (rows_join (next_number last) ps qs)
    where
      rest : Rows
      rest = rows_after (next_number last) ps

      by : RowCase last (line_of (fields p))
          → ((rows_after (next_number last) ps).fault ≡ None → has_end (map (numbered names) (rows_after (next_number last) ps).told) ≡ false
          → rows_after (next_number last) (ps ++ qs)
          ≡ before (rows_after (next_number last) ps).told (rows_after (last_number (next_number last) (map (numbered names) (rows_after (next_number last) ps).told)) qs))
          → (rows_after last (p ∷ ps)).fault ≡ None → has_end (map (numbered names) (rows_after last (p ∷ ps)).told) ≡ false
          → rows_after last (p ∷ ps ++ qs) ≡ before (rows_after last (p ∷ ps)).told (rows_after (last_number last (map (numbered names) (rows_after last (p ∷ ps)).told)) qs)
      by (faulty f e) again h k = absurd (let z : Some f ≡ None = sym (ap (λ (r : Rows). r.fault) (row_faulty last p ps f e)) ∙ h in cc)
      by (ended t e n i) again h k =
          absurd (let z : true ≡ false = sym (ap (λ (r : Rows). has_end (map (numbered names) r.told)) (row_ended last p ps t e n i) ∙ end_here t [] i) ∙ k in cc)
      by (goes t e n i) again h k =
          let this = row_goes last p ps t e n i in
          let told = (rows_after (next_number last) ps).told in
          let ls = map (numbered names) told in
          let deeper = again (sym (ap (λ (r : Rows). r.fault) this) ∙ h) (sym (ap (λ (r : Rows). has_end (map (numbered names) r.told)) this ∙ end_behind t ls i) ∙ k) in
          row_goes last p (ps ++ qs) t e n i
          ∙ (ap (with_told t) deeper
          ∙ (ap (λ k. before (t ∷ told) (rows_after k qs)) (sym (told_next last t ls n i))
          ∙ ap (λ (r : Rows). before r.told (rows_after (last_number last (map (numbered names) r.told)) qs)) (sym this)))

  -- nothing comes after an end
  pub end_stays : (last : ℕ) (ws qs : List Text) → has_end (map (numbered names) (rows_after last ws).told) ≡ true → rows_after last (ws ++ qs) ≡ rows_after last ws
  end_stays last [] qs = λ h. absurd (let z : false ≡ true = h in cc)
  end_stays last (p ∷ ps) qs = by (row_case last (line_of (fields p))) (end_stays (next_number last) ps qs)
    where
      by : RowCase last (line_of (fields p))
          → (has_end (map (numbered names) (rows_after (next_number last) ps).told) ≡ true → rows_after (next_number last) (ps ++ qs) ≡ rows_after (next_number last) ps)
          → has_end (map (numbered names) (rows_after last (p ∷ ps)).told) ≡ true → rows_after last (p ∷ ps ++ qs) ≡ rows_after last (p ∷ ps)
      by (faulty g e) again h = row_faulty last p (ps ++ qs) g e ∙ sym (row_faulty last p ps g e)
      by (ended t e n i) again h = row_ended last p (ps ++ qs) t e n i ∙ sym (row_ended last p ps t e n i)
      by (goes t e n i) again h =
          let this = row_goes last p ps t e n i in
          let ls = map (numbered names) (rows_after (next_number last) ps).told in
          row_goes last p (ps ++ qs) t e n i
          ∙ (ap (with_told t) (again (sym (ap (λ (r : Rows). has_end (map (numbered names) r.told)) this ∙ end_behind t ls i) ∙ h)) ∙ sym this)

  pub end_faultless : (last : ℕ) (ws : List Text) → has_end (map (numbered names) (rows_after last ws).told) ≡ true → (rows_after last ws).fault ≡ None
  end_faultless last [] = λ h. refl
  end_faultless last (p ∷ ps) = by (row_case last (line_of (fields p))) (end_faultless (next_number last) ps)
    where
      by : RowCase last (line_of (fields p)) → (has_end (map (numbered names) (rows_after (next_number last) ps).told) ≡ true → (rows_after (next_number last) ps).fault ≡ None)
          → has_end (map (numbered names) (rows_after last (p ∷ ps)).told) ≡ true → (rows_after last (p ∷ ps)).fault ≡ None
      by (faulty g e) again h = absurd (let z : false ≡ true = sym (ap (λ (r : Rows). has_end (map (numbered names) r.told)) (row_faulty last p ps g e)) ∙ h in cc)
      by (ended t e n i) again h = ap (λ (r : Rows). r.fault) (row_ended last p ps t e n i)
      by (goes t e n i) again h =
          let this = row_goes last p ps t e n i in
          let ls = map (numbered names) (rows_after (next_number last) ps).told in
          ap (λ (r : Rows). r.fault) this ∙ again (sym (ap (λ (r : Rows). has_end (map (numbered names) r.told)) this ∙ end_behind t ls i) ∙ h)
