-- `load` of a built file gives the same record as `record` of the program.
use Rattle.std.proofs.Common.{◌≡◌, ◌∙◌, refl, sym, ap, subst, List, ◌∷◌, [], Ok}
use Rattle.text_scan.specs.Text.{Text}
use Rattle.pool_syntax.specs.Terms.{ProgramTree}
use Rattle.run_types.specs.declared.types.Placement.{Placement}
use Rattle.code_semantics.specs.declared.unit.Unit.{Unit as Code}
use Rattle.code_semantics.specs.declared.file.UnitFile.{UnitFile}
use Rattle.code_semantics.specs.Suits.{Suits}
use Rattle.mesh_semantics.specs.Record as M
use Rattle.mesh_semantics.specs.Record.{record_at}
use Rattle.mesh_of_terms.specs.Terms.{terms}
use Rattle.compiler_correctness.specs.CheckedProgram.{IsCheckedProgram}
use Rattle.compiler_correctness.proofs.Laws.{code_record, code_record_on_wires, parsed_checked, suits_fits, file_is_shaped}
use Rattle.mesh_of_code.specs.Coded.{coded}
use Rattle.placement_reader.specs.Placements.{placement_of}
use Rattle.run_record.specs.Readable.{IsRecord}
use Rattle.record_writer.specs.SecondForm.{text2}
use Rattle.compiler_correctness.specs.DeclaredKinds.{file_of}
use Rattle.pool_driver.specs.UnitFiles.{IsVerifiedFile}
use Rattle.pool_driver.proofs.NoProgram.{no_program}
use Rattle.pool_driver.proofs.OneFilePerText.{said_once}
use Rattle.command_line.specs.declared.command.Ask.TheVariants as As
use Rattle.command_line.specs.declared.command.Show.TheVariants as Sh
use Rattle.command_inputs.specs.declared.fault.Input.TheVariants as I
use Rattle.command_shell.specs.declared.status.Status.{Status}
use Rattle.run_loop.specs.Shown.{record_over, status_of}
use Rattle.pool_driver.specs.Inputs.{Gives, IsAccepted, IsPlacementOf, by_file, by_program, unit_of}
use Rattle.pool_driver.specs.Outputs.{IsLoadOf, IsRunOf, IsTextFor}
use Rattle.command_inputs.specs.Programs.{IsParsed}
use Rattle.pool_driver.specs.Runs.{Meaning, ShowsRun, record_of}
use Rattle.placement_reader.proofs.Laws.{placement_suits}
use Rattle.pool_driver.proofs.RunLaws.{file_shows, program_shows, with_wires_or_not}

-- three texts with a meaning, and the bytes of the file of their program
module _ (source place text : Text) (m : Meaning source place text) (bytes : Text) (is : IsVerifiedFile bytes (file_of m.names m.program)) where
  checked : IsCheckedProgram m.program
  checked = parsed_checked source m.names m.program m.parsed m.typed

  suits : Suits m.layout (unit_of m.names m.program)
  suits = placement_suits (unit_of m.names m.program) place m.layout m.placed

  -- the lines of the program are those of its code
  same_lines : (record_of m).lines ≡ (record_over (coded (unit_of m.names m.program)) m.layout m.schedule).lines
  same_lines =
      let p = m.program in
      let u = unit_of m.names m.program in
      let fits = suits_fits p u m.layout refl suits in
      with_wires_or_not (λ d. (record_at (terms p) m.layout m.schedule.quantum (M.start (terms p) m.layout) d m.schedule.events).lines
      ≡ (record_at (coded u) m.layout m.schedule.quantum (M.start (coded u) m.layout) d m.schedule.events).lines) m.schedule.lossy
      (code_record p u checked refl m.layout m.schedule.quantum m.schedule.events fits).lines (code_record_on_wires p u checked refl m.layout m.schedule.quantum m.schedule.events fits).lines

  load_of : (t : Text) (status : Status) → t ≡ text2 m.names (record_of m).lines → status ≡ status_of (record_of m).lines → ShowsRun m → IsLoadOf bytes place text t status
  load_of t status written ended run = record {
    meaning = record { file = file_of m.names m.program; is_file = is; layout = m.layout; placed = m.placed; schedule = m.schedule; scheduled = m.scheduled };
    written = written ∙ ap (text2 m.names) same_lines;
    ended = ended ∙ ap status_of same_lines;
    run = file_shows bytes place text (file_of m.names m.program) m.layout m.schedule is (file_is_shaped m.names m.program) (m.placed, suits) m.scheduled
        (subst (IsRecord m.names) same_lines run.readable);
  }

  run_of : (t : Text) (status : Status) → t ≡ text2 m.names (record_over (coded (unit_of m.names m.program)) m.layout m.schedule).lines
      → status ≡ status_of (record_over (coded (unit_of m.names m.program)) m.layout m.schedule).lines
      → IsRecord m.names (record_over (coded (unit_of m.names m.program)) m.layout m.schedule).lines → IsRunOf Sh.Record source place text t status
  run_of t status written ended reads = record {
    meaning = m;
    written = written ∙ ap (text2 m.names) (sym same_lines);
    ended = ended ∙ ap status_of (sym same_lines);
    run = program_shows source place text m suits is.verified.some (subst (IsRecord m.names) (sym same_lines) reads);
  }

module _ (one_program : (s : Text) (names others : List Text) (p q : ProgramTree) → IsParsed s names p → IsParsed s others q → (names ≡ others) × (p ≡ q))
    (source bytes : Text) (b : IsTextFor As.File source bytes) where
  -- the code that the program gives, and its bytes
  pub source_gives : (u : Code) → Gives source u → u ≡ unit_of b.names b.program
  source_gives u (by_program c) =
      let same = one_program source c.names b.names c.program b.program c.parsed b.parsed in
      c.coded ∙ ap (λ (ns : List Text). unit_of ns c.program) same.0 ∙ ap (unit_of b.names) same.1
  source_gives u (by_file f h e) = absurd (no_program source f b.names b.parsed.0 h.said b.parsed.1)

  pub bytes_give : (u : Code) → Gives bytes u → u ≡ unit_of b.names b.program
  bytes_give u (by_program c) = absurd (no_program bytes (file_of b.names b.program) c.names c.parsed.0 b.built.said c.parsed.1)
  bytes_give u (by_file f h e) = e ∙ ap (λ (g : UnitFile). g.unit) (said_once bytes f (file_of b.names b.program) h.said b.built.said)

  pub placement_for_bytes : (place : Text) (l : Placement) → IsPlacementOf source place l → IsPlacementOf bytes place l
  placement_for_bytes place l x = record { unit = x.unit; code = by_file (file_of b.names b.program) b.built (source_gives x.unit x.code); placed = x.placed }

  pub placement_for_source : (place : Text) (l : Placement) → IsPlacementOf bytes place l → IsPlacementOf source place l
  placement_for_source place l x = record {
    unit = x.unit;
    code = by_program (record { names = b.names; program = b.program; parsed = b.parsed; typed = b.typed; coded = bytes_give x.unit x.code });
    placed = x.placed;
  }

  pub placements_same : (place : Text) → (IsAccepted (source ∷ []) I.Placement place → IsAccepted (bytes ∷ []) I.Placement place)
      × (IsAccepted (bytes ∷ []) I.Placement place → IsAccepted (source ∷ []) I.Placement place)
  placements_same place = (λ h. (h.0, placement_for_bytes place h.0 h.1), λ h. (h.0, placement_for_source place h.0 h.1))

  pub schedules_same : (place plan : Text) → (IsAccepted (source ∷ place ∷ []) I.Schedule plan → IsAccepted (bytes ∷ place ∷ []) I.Schedule plan)
      × (IsAccepted (bytes ∷ place ∷ []) I.Schedule plan → IsAccepted (source ∷ place ∷ []) I.Schedule plan)
  schedules_same place plan = (λ h. (h.0, h.1, placement_for_bytes place h.0 h.2, h.3), λ h. (h.0, h.1, placement_for_source place h.0 h.2, h.3))

  pub loaded_as_recorded : (place plan text : Text) (status : Status) → IsRunOf Sh.Record source place plan text status → IsLoadOf bytes place plan text status
  loaded_as_recorded place plan text status r =
      let m = r.meaning in
      let same = one_program source b.names m.names b.program m.program b.parsed m.parsed in
      let is : IsVerifiedFile bytes (file_of m.names m.program) =
      subst (λ (ns : List Text). IsVerifiedFile bytes (file_of ns m.program)) same.0 (subst (λ (p : ProgramTree). IsVerifiedFile bytes (file_of b.names p)) same.1 b.built) in
      load_of source place plan m bytes is text status r.written r.ended r.run

  pub recorded_as_loaded : (place plan text : Text) (status : Status) → IsLoadOf bytes place plan text status → IsRunOf Sh.Record source place plan text status
  recorded_as_loaded place plan text status r =
      let c = r.meaning in
      let same : c.file ≡ file_of b.names b.program = said_once bytes c.file (file_of b.names b.program) c.is_file.said b.built.said in
      let m : Meaning source place plan = record {
        names = b.names;
        program = b.program;
        parsed = b.parsed;
        typed = b.typed;
        layout = c.layout;
        placed = subst (λ (f : UnitFile). placement_of f.unit place ≡ Ok c.layout) same c.placed;
        schedule = c.schedule;
        scheduled = c.scheduled;
      } in
      run_of source place plan m bytes b.built text status
      (r.written ∙ ap (λ (f : UnitFile). text2 f.unit.names (record_over (coded f.unit) c.layout c.schedule).lines) same)
      (r.ended ∙ ap (λ (f : UnitFile). status_of (record_over (coded f.unit) c.layout c.schedule).lines) same)
      (subst (λ (f : UnitFile). IsRecord f.unit.names (record_over (coded f.unit) c.layout c.schedule).lines) same r.run.readable)
