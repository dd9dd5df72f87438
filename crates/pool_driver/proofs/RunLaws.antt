-- From code to terms: the meaning of the three texts, and the text of their run.
use Rattle.std.proofs.Common.{◌≡◌, ◌∙◌, ◌++◌, ℕ, List, [], ◌∷◌, map, Option, Some, None, Bool, true, false, Ok, length, ◌<◌, refl, sym, ap, subst, arith}
use Rattle.text_scan.specs.Text.{Text}
use Rattle.pool_syntax.specs.Terms.{ClassTree, ProgramTree}
use Rattle.run_types.specs.declared.types.Line.{Line}
use Rattle.run_types.specs.declared.types.Placement.{Placement}
use Rattle.pool_relation.specs.Action.{Object}
use Rattle.pool_relation.specs.Configuration.{Configuration}
use Rattle.pool_relation.specs.Transition.{last_class, start}
use Rattle.code_semantics.specs.declared.unit.Unit.{Unit as Code}
use Rattle.code_semantics.specs.declared.unit.ClassCode.{ClassCode}
use Rattle.code_semantics.specs.Proper.{IsProper}
use Rattle.code_semantics.specs.Suits.{Suits}
use Rattle.run_record.specs.Readable.{IsRecord}
use Rattle.compiler_correctness.proofs.Laws.{program_reads, program_reads_on_wires, record_writable}
use Rattle.pool_compile.specs.Code.{code}
use Rattle.mesh_semantics.specs.Config.{Config}
use Rattle.mesh_semantics.specs.Record as M
use Rattle.mesh_semantics.specs.Record.{record_at, root_name}
use Rattle.mesh_semantics.specs.Wired.{KeepsWires}
use Rattle.mesh_of_terms.specs.Terms.{terms}
use Rattle.mesh_of_terms.proofs.Laws.{answers, answers_on_wires, runs_from, runs_from_on_wires}
use Rattle.std.proofs.lemmas.List.{append_assoc}
use Rattle.compiler_correctness.specs.CheckedProgram.{IsCheckedProgram}
use Rattle.compiler_correctness.proofs.Laws.{code_record, code_record_on_wires, code_simulates, parsed_checked, suits_fits}
use Rattle.mesh_of_code.specs.Coded.{Placed, coded}
use Rattle.mesh_of_code.proofs.Laws.{code_fits}
use Rattle.compiler_correctness.specs.CodeRun.{IsCodeRun}
use Rattle.compiler_correctness.proofs.Laws.{code_answers, code_answers_on_wires, record_is_code_run, record_is_code_run_on_wires, verified_is_proper}
use Rattle.pool_driver.specs.UnitFiles.{IsVerifiedFile}
use Rattle.pool_driver.specs.UnitOfFile.{IsUnitOfFile}
use Rattle.pool_driver.proofs.ReadableFiles.{file_reads, file_reads_on_wires}
use Rattle.code_semantics.specs.declared.file.UnitFile.{UnitFile}
use Rattle.code_semantics.specs.Shaped as File
use Rattle.code_semantics.specs.Shaped.{IsShaped}
use Rattle.mesh_semantics.specs.Language.{Language}
use Rattle.std.specs.List.{AllByRecursion}
use Rattle.record_writer.specs.Writable.{IsWritable}
use Rattle.mesh_semantics.specs.Act.{id}
use Rattle.mesh_semantics.specs.Delay.{Delay, no_delay, no_delay_on_wires}
use Rattle.mesh_semantics.specs.Simulates.{SameRecord, Zipped}
use Rattle.mesh_semantics.specs.Standing as T
use Rattle.mesh_semantics.specs.Standing.{standing}
use Rattle.mesh_semantics.proofs.Laws.{no_wires_kept, record_keeps_wires, standing_same}
use Rattle.compiler_correctness.specs.Matches.{Matches}
use Rattle.mesh_of_terms.specs.RunOf.{IsRunFrom, TypedTerms}
use Rattle.wait_report.specs.declared.rows.ObjectRow.{ObjectRow}
use Rattle.wait_report.specs.Report.{report_text}
use Rattle.run_loop.specs.Reports.{row_in, row_of, rows_of, standing_word}
use Rattle.run_loop.specs.ReportRows.{rows_in}
use Rattle.run_loop.specs.declared.loaded.Loaded.{Loaded}
use Rattle.placement_reader.specs.Placements.{placement_of}
use Rattle.schedule_reader.specs.Schedules.{Plan}
use Rattle.record_writer.specs.SecondForm.{form_text, line_text2, lines_text2, text2}
use Rattle.run_types.specs.Asks.{EachAnswersPost, request_number_of, asks_from}
use Rattle.pool_machine.specs.SentPackets.{nothing_sent}
use Rattle.command_line.specs.declared.command.Show.{Show}
use Rattle.command_line.specs.declared.command.Show.TheVariants as Sh
use Rattle.run_loop.specs.RunOutput.{IsLoaded, IsPlanOn, shown_lines, shown_record}
use Rattle.pool_driver.specs.Outputs.{IsLoadOf, IsRunOf, shown_text}
use Rattle.pool_driver.specs.Inputs.{unit_of}
use Rattle.pool_driver.specs.Readers.{IsPlacedAs, IsScheduledAs, IsUnitOf}
use Rattle.run_loop.specs.Loading.{lines_of, run_of, run_text}
use Rattle.pool_driver.specs.Runs.{CodeMeaning, Meaning, ShowsCodeRun, ShowsRun, record_of}
use Rattle.run_loop.specs.Shown.{ends_text, ring_text, status_of}
use Rattle.record_writer.specs.WrittenText.{writes_of, writes_text}
use Rattle.run_loop.proofs.Laws.{plan_is_on}
use Rattle.pool_driver.proofs.ReadableLaws.{events_read}

-- a program of which there is code has a last class, and starts
last_there : (p : ProgramTree) → 0 < length (code p) → (k : ClassTree) × (last_class p ≡ Some k)
last_there [] h = absurd (omega (arith, h))
last_there (k ∷ []) h = (k, refl)
last_there (k ∷ l ∷ ks) h = last_there (l ∷ ks) (omega arith)

starts : (p : ProgramTree) (n : ℕ) → 0 < length (code p) → (c : Configuration) × (start p n ≡ Some c)
starts p n h = by (last_class p) refl
  where
    by : (z : Option ClassTree) → last_class p ≡ z → (c : Configuration) × (start p n ≡ Some c)
    by None e = let k = last_there p h in absurd (let q : None ≡ Some k.0 = sym e ∙ k.1 in cc)
    by (Some k) e = rw e (_, refl)

-- what is shown of lines and of rows, in the words of the output
abbrev texts_shown : (show : Show) (names : List Text) (rows : List ObjectRow) (ls : List Line) → Text
texts_shown Sh.Record names rows ls = text2 names ls
texts_shown Sh.Writes names rows ls = writes_text names ls
texts_shown Sh.Report names rows ls = report_text names rows ++ ends_text names ls

lines_are : (names : List Text) (earlier ls : List Line) → shown_lines Sh.Record names earlier ls ≡ lines_text2 names ls (asks_from earlier ls)
lines_are names earlier [] = refl
lines_are names earlier (l ∷ ls) = ap (λ (t : Text). line_text2 names l (request_number_of earlier l) ++ t) (lines_are names (l ∷ earlier) ls)

record_is : (names : List Text) (ls : List Line) → shown_record Sh.Record names ls ≡ text2 names ls
record_is names ls = append_assoc form_text (10 ∷ []) (shown_lines Sh.Record names [] ls) ∙ ap (λ (t : Text). form_text ++ 10 ∷ t) (lines_are names [] ls)

writes_behind : (names : List Text) (earlier ls : List Line) → shown_lines Sh.Writes names earlier ls ≡ writes_text names ls
writes_behind names earlier [] = refl
writes_behind names earlier (l ∷ ls) = ap (λ (t : Text). writes_of names l ++ t) (writes_behind names (l ∷ earlier) ls)

writes_are : (names : List Text) (ls : List Line) → shown_record Sh.Writes names ls ≡ writes_text names ls
writes_are names ls = writes_behind names [] ls

shown_is : (show : Show) (r : Loaded) → run_text show r ≡ texts_shown show r.unit.names (rows_in (coded r.unit) (run_of r).delay (run_of r).last.objects) (lines_of r)
shown_is Sh.Record r = record_is r.unit.names (lines_of r)
shown_is Sh.Writes r = writes_are r.unit.names (lines_of r)
shown_is Sh.Report r = refl

shown_of : {source place plan : Text} (show : Show) (m : Meaning source place plan) → texts_shown show m.names (rows_of m.program (record_of m).last (record_of m).delay) (record_of m).lines ≡ shown_text show m
shown_of Sh.Record m = refl
shown_of Sh.Writes m = refl
shown_of Sh.Report m = refl

-- objects that correspond have the same rows
module _ (p : ProgramTree) (u : Code) (checked : IsCheckedProgram p) (unit : u.classes ≡ code p) (d : Delay) where
  same_row : (n k : ℕ) (x : Object) (y : Placed) → n ≡ k → Matches p u n x y → row_of p d (n, x) ≡ row_in (coded u) d (k, y)
  same_row n k x y e r =
      let class : (terms p).class x ≡ (coded u).class y = (code_simulates p u checked unit).class n x y r in
      let stands : standing (terms p) d n x ≡ standing (coded u) d n y = standing_same (terms p) (coded u) (TypedTerms p) (Matches p u) (code_simulates p u checked unit) d n x y r in
      ap (λ (i : ℕ). record { name = n; class = id i; standing = standing_word (standing (terms p) d n x) }) class
      ∙ ap (λ (s : T.Standing). record { name = n; class = id ((coded u).class y); standing = standing_word s }) stands
      ∙ ap (λ (i : ℕ). row_in (coded u) d (i, y)) e

  same_rows : (es : List (ℕ × Object)) (fs : List (ℕ × Placed)) → Zipped (Matches p u) es fs → map (row_of p d) es ≡ rows_in (coded u) d fs
  same_rows [] [] z = refl
  same_rows [] (f ∷ fs) z = absurd z
  same_rows (e ∷ es) [] z = absurd z
  same_rows (e ∷ es) (f ∷ fs) z =
      ap (λ (r : ObjectRow). r ∷ map (row_of p d) es) (same_row e.0 f.0 e.1 f.1 z.0 z.1)
      ∙ ap (λ (rows : List ObjectRow). row_in (coded u) d f ∷ rows) (same_rows es fs z.2)

-- what holds of links that are wires and of those that are not
pub with_wires_or_not : (P : Delay → Type 0) (lossy : Bool) → P no_delay → P no_delay_on_wires → P (nothing_sent lossy)
with_wires_or_not P true plain wired = wired
with_wires_or_not P false plain wired = plain

-- at the end of a record each wire has handed out a front of what entered it
ends_kept : {S : Type 0} (g : Language S) (l : Placement) (plan : Plan) → KeepsWires (record_at g l plan.quantum (M.start g l) (nothing_sent plan.lossy) plan.events).delay
ends_kept {S} g l plan = by (M.start g l)
  where
    kept : KeepsWires (nothing_sent plan.lossy)
    kept = with_wires_or_not KeepsWires plan.lossy tt no_wires_kept

    by : (z : Option (Config S)) → KeepsWires (record_at g l plan.quantum z (nothing_sent plan.lossy) plan.events).delay
    by None = kept
    by (Some c) = (record_keeps_wires g l plan.quantum plan.events c (nothing_sent plan.lossy) 0 kept).0

-- the record of three texts with a meaning shows a run, where its lines are readable
pub program_shows : (source place text : Text) (m : Meaning source place text) → Suits m.layout (unit_of m.names m.program) → 0 < length (code m.program) → IsRecord m.names (record_of m).lines
    → ShowsRun m
program_shows source place text m suits there reads =
    let p = m.program in
    let l = m.layout in
    let plan = m.schedule in
    let checked = parsed_checked source m.names p m.parsed m.typed in
    let fits = suits_fits p (unit_of m.names p) l refl suits in
    let first = starts p (root_name l) there in
    record {
      first = first.0;
      starts = first.1;
      run = with_wires_or_not (λ d. IsRunFrom p l plan.quantum first.0 d (record_at (terms p) l plan.quantum (M.start (terms p) l) d plan.events)) plan.lossy
          (runs_from p m.typed checked.written l fits plan.quantum plan.events first.0 first.1) (runs_from_on_wires p m.typed checked.written l fits plan.quantum plan.events first.0 first.1);
      readable = reads;
      answers = with_wires_or_not (λ d. EachAnswersPost (record_at (terms p) l plan.quantum (M.start (terms p) l) d plan.events).lines) plan.lossy
          (answers p m.typed checked.written l fits plan.quantum plan.events) (answers_on_wires p m.typed checked.written l fits plan.quantum plan.events);
      wires = ends_kept (terms p) l plan;
    }

module _ (source place text : Text) (u : Code) (l : Placement) (plan : Plan) (is : IsUnitOf source u) (placed : IsPlacedAs u place l) (scheduled : IsScheduledAs l text plan) where
  abbrev pub means : Meaning source place text
  means = record {
    names = is.code.names;
    program = is.code.program;
    parsed = is.code.parsed;
    typed = is.code.typed;
    layout = l;
    placed = subst (λ (v : Code). placement_of v place ≡ Ok l) is.code.coded placed.0;
    schedule = plan;
    scheduled = scheduled;
  }

  checked : IsCheckedProgram is.code.program
  checked = parsed_checked source is.code.names is.code.program is.code.parsed is.code.typed

  classes : u.classes ≡ code is.code.program
  classes = ap (λ (v : Code). v.classes) is.code.coded

  abbrev pub made : Loaded
  made = record { unit = u; placement = l; schedule = plan }

  -- the record of the program from this delay
  abbrev terms_over : Delay → M.Record Object
  terms_over d = record_at (terms is.code.program) l plan.quantum (M.start (terms is.code.program) l) d plan.events

  same : SameRecord (Matches is.code.program u) (record_of means) (run_of made)
  same =
      let p = is.code.program in
      let fits = suits_fits p u l classes placed.1 in
      with_wires_or_not (λ d. SameRecord (Matches p u) (terms_over d) (record_at (coded u) l plan.quantum (M.start (coded u) l) d plan.events)) plan.lossy
      (code_record p u checked classes l plan.quantum plan.events fits) (code_record_on_wires p u checked classes l plan.quantum plan.events fits)

  -- the lines of the code are those of the program, and so are its rows
  pub same_lines : lines_of made ≡ (record_of means).lines
  same_lines = sym same.lines

  rows_same : rows_in (coded u) (run_of made).delay (run_of made).last.objects ≡ rows_of is.code.program (record_of means).last (record_of means).delay
  rows_same =
      ap (λ (d : Delay). rows_in (coded u) d (run_of made).last.objects) (sym same.delay)
      ∙ sym (same_rows is.code.program u checked classes (record_of means).delay (record_of means).last.objects (run_of made).last.objects same.last.objects)

  on : IsPlanOn l plan
  on = plan_is_on l text plan scheduled

  pub shows : ShowsRun means
  shows =
      let p = is.code.program in
      let names = is.code.names in
      let proper = subst IsProper is.code.coded is.proper in
      let suits = subst (Suits l) is.code.coded placed.1 in
      let read = events_read u l placed.1 plan.lossy plan.events on.events in
      let there : 0 < length (code is.code.program) = subst (λ (ks : List ClassCode). 0 < length ks) classes is.proper.classes.0 in
      program_shows source place text means suits there (with_wires_or_not (λ d. IsRecord names (terms_over d).lines) plan.lossy
      (program_reads source names p l plan.quantum plan.events is.code.parsed is.code.typed proper suits on.quantum.1 on.count read)
      (program_reads_on_wires source names p l plan.quantum plan.events is.code.parsed is.code.typed proper suits on.quantum.1 on.count read))

  pub run_is : (show : Show) → IsRunOf show source place text (run_text show made) (status_of (lines_of made))
  run_is show = record {
    meaning = means;
    written = shown_is show made
        ∙ ap (λ (rows : List ObjectRow). texts_shown show u.names rows (lines_of made)) rows_same
        ∙ ap (texts_shown show u.names (rows_of is.code.program (record_of means).last (record_of means).delay)) same_lines
        ∙ ap (λ (v : Code). texts_shown show v.names (rows_of is.code.program (record_of means).last (record_of means).delay) (record_of means).lines) is.code.coded
        ∙ shown_of show means;
    ended = ap status_of same_lines;
    run = shows;
  }

  -- and of a ring the counts of its lines
  pub counts_are : ring_text u.names (lines_of made) ≡ ring_text is.code.names (record_of means).lines
  counts_are = ap (ring_text u.names) same_lines ∙ ap (λ (v : Code). ring_text v.names (record_of means).lines) is.code.coded

  pub same_status : status_of (lines_of made) ≡ status_of (record_of means).lines
  same_status = ap status_of same_lines

  -- it can be made
  pub loaded : IsLoaded u l plan
  loaded = record {
    proper = is.proper;
    suits = placed.1;
    writable = subst (λ (v : Code). AllByRecursion (IsWritable v.names) (lines_of made)) (sym is.code.coded)
        (subst (λ (ls : List Line). AllByRecursion (IsWritable is.code.names) ls) (sym same_lines) (record_writable is.code.names 0 (record_of means).lines shows.readable));
    planned = plan_is_on l text plan scheduled;
  }

-- An object code file with a placement and a schedule: their record is a run of the relation over objects of code, and it can be made and written.

module _ (source place text : Text) (f : UnitFile) (l : Placement) (plan : Plan) (is : IsVerifiedFile source f) (shaped : IsShaped f) (placed : IsPlacedAs f.unit place l)
    (scheduled : IsScheduledAs l text plan) where
  abbrev file_means : CodeMeaning source place text
  file_means = record { file = f; is_file = is; layout = l; placed = placed.0; schedule = plan; scheduled = scheduled }

  abbrev file_made : Loaded
  file_made = record { unit = f.unit; placement = l; schedule = plan }

  -- the record of the code from this delay
  abbrev code_over : Delay → M.Record Placed
  code_over d = record_at (coded f.unit) l plan.quantum (M.start (coded f.unit) l) d plan.events

  abbrev IsCodeRunOver : Delay → Type 0
  IsCodeRunOver d = (c : Config Placed) × (M.start (coded f.unit) l ≡ Some c) × IsCodeRun f l plan.quantum c d (code_over d)

  file_on : IsPlanOn l plan
  file_on = plan_is_on l text plan scheduled

  file_readable : File.IsWritable f → IsRecord f.unit.names (lines_of file_made)
  file_readable writable =
      let read = events_read f.unit l placed.1 plan.lossy plan.events file_on.events in
      with_wires_or_not (λ d. IsRecord f.unit.names (code_over d).lines) plan.lossy
      (file_reads f shaped is.verified writable l placed.1 plan.quantum file_on.quantum.1 plan.events file_on.count read)
      (file_reads_on_wires f shaped is.verified writable l placed.1 plan.quantum file_on.quantum.1 plan.events file_on.count read)

  pub file_shows : IsRecord f.unit.names (lines_of file_made) → ShowsCodeRun file_means
  file_shows reads =
      let fits = code_fits f.unit l placed.1 in
      let run = with_wires_or_not IsCodeRunOver plan.lossy
      (record_is_code_run f shaped is.verified l plan.quantum plan.events fits) (record_is_code_run_on_wires f shaped is.verified l plan.quantum plan.events fits) in
      record {
        first = run.0;
        starts = run.1;
        run = run.2;
        readable = reads;
        answers = with_wires_or_not (λ d. EachAnswersPost (code_over d).lines) plan.lossy
            (code_answers f shaped is.verified l fits plan.quantum plan.events) (code_answers_on_wires f shaped is.verified l fits plan.quantum plan.events);
        wires = ends_kept (coded f.unit) l plan;
      }

  file_load_is : File.IsWritable f → IsLoadOf source place text (run_text Sh.Record file_made) (status_of (lines_of file_made))
  file_load_is writable = record { meaning = file_means; written = record_is f.unit.names (lines_of file_made); ended = refl; run = file_shows (file_readable writable) }

  file_loaded : File.IsWritable f → IsLoaded f.unit l plan
  file_loaded writable = record {
    proper = verified_is_proper f shaped is.verified;
    suits = placed.1;
    writable = record_writable f.unit.names 0 (lines_of file_made) (file_readable writable);
    planned = file_on;
  }

-- by the unit that was read
module _ (source place text : Text) (u : Code) (l : Placement) (plan : Plan) (is : IsUnitOfFile source u) (placed : IsPlacedAs u place l) (scheduled : IsScheduledAs l text plan) where
  placed_in_file : IsPlacedAs is.file.unit place l
  placed_in_file = subst (λ (v : Code). IsPlacedAs v place l) is.is_unit placed

  pub load_is : IsLoadOf source place text (run_text Sh.Record (record { unit = u; placement = l; schedule = plan })) (status_of (lines_of (record { unit = u; placement = l; schedule = plan })))
  load_is =
      subst (λ (v : Code). IsLoadOf source place text (run_text Sh.Record (record { unit = v; placement = l; schedule = plan })) (status_of (lines_of (record { unit = v; placement = l; schedule = plan }))))
      (sym is.is_unit) (file_load_is source place text is.file l plan is.is_file is.shaped placed_in_file scheduled is.writable)

  pub file_is_loaded : IsLoaded u l plan
  file_is_loaded =
      subst (λ (v : Code). IsLoaded v l plan) (sym is.is_unit) (file_loaded source place text is.file l plan is.is_file is.shaped placed_in_file scheduled is.writable)
