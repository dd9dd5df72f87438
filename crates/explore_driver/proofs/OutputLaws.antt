-- The output of a command follows from its inputs, one after another.
use Rattle.std.proofs.Common.{◌≡◌, ◌∙◌, ◌+◌, ℕ, inl, inr, List, [], ◌∷◌, length, Result, Ok, Err, false, refl, sym, ap, subst}
use Rattle.text_scan.specs.Text.{Text}
use Rattle.pool_syntax.specs.Terms.{ProgramTree}
use Rattle.pool_syntax.specs.TreeOf.{program_of}
use Rattle.pool_syntax.specs.Typing.{faults}
use Rattle.run_types.specs.declared.types.Line.{Line}
use Rattle.run_types.specs.declared.types.Line.TheVariants as R
use Rattle.mesh_semantics.specs.Record.{EndsOnce}
use Rattle.run_record.specs.Readable.{IsRecord, IsRecordFrom}
use Rattle.run_types.specs.declared.verdicts.Verdict.{Verdict}
use Rattle.run_types.specs.declared.verdicts.Verdict.TheVariants as V
use Rattle.command_inputs.specs.declared.fault.Fault.{Fault}
use Rattle.command_inputs.specs.declared.fault.Input.TheVariants as I
use Rattle.command_inputs.specs.declared.fault.Input.{Input}
use Rattle.command_inputs.specs.declared.fault.InputError.{InputError}
use Rattle.command_inputs.specs.declared.fault.InputError.TheVariants as T
use Rattle.command_inputs.specs.declared.program.Parsed.{Parsed}
use Rattle.command_inputs.specs.declared.record.NamedLines.{NamedLines}
use Rattle.command_inputs.specs.Inputs.{IsReadAs}
use Rattle.command_inputs.specs.Readers.{AreNamedLinesOf, IsAnyProgram, IsProgramOf, IsTypedProgramOf, Reads}
use Rattle.command_inputs.specs.Programs.{HasTypedFault, IsFaultOfClasses, IsFaultOfText, IsTypedProgram}
use Rattle.command_inputs.proofs.Laws.{judged, judges_refusal}
use Rattle.run_record.specs.Numbered.{lines_after, names_after}
use Rattle.run_record.specs.Records.{record_of}
use Rattle.command_shell.specs.declared.status.Status.{Status}
use Rattle.command_shell.specs.Ends.{Reaches, WholeTextWritten}
use Rattle.command_shell.specs.Results as D
use Rattle.command_shell.specs.Verdicts.{status_of_verdict}
use Rattle.pool_outside.specs.Reading.{AllRead, Reading}
use Rattle.record_check.specs.RecordJudgement.{Judged}
use Rattle.search_text.specs.declared.answers.Found.{Found}
use Rattle.search_text.specs.declared.answers.Found.TheVariants as O
use Rattle.search_text.specs.Answers.{Inquiry, IsAnswerTo}
use Rattle.explore_driver.specs.declared.outputs.Output.{Output}
use Rattle.explore_driver.specs.declared.words.Shown.{Shown}
use Rattle.explore_driver.specs.declared.words.Shown.TheVariants as Sh
use Rattle.explore_driver.specs.Ends.{IsAccepted, explore_program}
use Rattle.explore_driver.specs.Outputs.{IsFilledText, IsOutput, IsTextOf, status_of_found}
use Rattle.explore_driver.specs.Results.{ResultsIn}
use Rattle.explore_driver.specs.Words.{Request, of_fill, of_follow, of_search, of_watch}

-- the inputs of a command, one after another

abbrev pub reaches_program : (k : Reading) (q : Inquiry) (name : Text) → k.opened ≡ k.opens + 1 → Reaches explore_program k (of_search q name) I.Program name
reaches_program k q name h = record { before = []; behind = []; texts = []; place = refl; accepted = tt; opened = h }

abbrev pub reaches_watched : (k : Reading) (shown : Shown) (name other : Text) → k.opened ≡ k.opens + 1 → Reaches explore_program k (of_watch shown name other) I.Program name
reaches_watched k shown name other h = record { before = []; behind = (I.Record, other) ∷ []; texts = []; place = refl; accepted = tt; opened = h }

abbrev pub reaches_record : (k : Reading) (shown : Shown) (name other s : Text) → IsReadAs k.told I.Program name s → IsAccepted [] I.Program s → k.opened ≡ k.opens + 2
    → Reaches explore_program k (of_watch shown name other) I.Record other
reaches_record k shown name other s read accepted h =
    record { before = (I.Program, name) ∷ []; behind = []; texts = s ∷ []; place = refl; accepted = (read, accepted, tt); opened = h }

-- The program of a request whose classes have a fault, after it was read.
pub class_stops : (k : Reading) (name : Text) (read : Parsed) (stop : InputError) → Reads k I.Program name IsAnyProgram IsFaultOfText IsProgramOf (Ok read)
    → ((i : Input) (f : Fault) → stop ≡ T.Refused i f → (i ≡ I.Program) × IsFaultOfClasses (program_of read.program) f) → ((i : Input) → stop ≡ T.Unread i → ⊥)
    → (faults (program_of read.program) ≡ [] → stop ≡ T.Memory) → Reads k I.Program name IsTypedProgram HasTypedFault IsTypedProgramOf (Err stop)
class_stops k name read stop reads refused unread only = judged _ _ _ _ _ _ _ _ IsTypedProgramOf read _ reads (λ s is.
    judges_refusal I.Program IsTypedProgram HasTypedFault IsTypedProgramOf s stop
    (λ i f e. let why = refused i f e in (why.0, inr (program_of read.program, (read.names, is.parsed), why.1)))
    unread
    (λ q. only (ap faults (is.only q.1.0.0 q.0 q.1.0.1).1 ∙ q.1.1)))

-- for the same request
pub makes_for : (k : Reading) (q r : Request) (result : Result Output InputError) → q ≡ r → ResultsIn k q result → ResultsIn k r result
makes_for k q r result e h = subst (λ (x : Request). ResultsIn k x result) e h

-- what comes of a program
pub search_makes : (k : Reading) (q : Inquiry) (name s : Text) (read : Parsed) (o : Output) (found : Found) → IsReadAs k.told I.Program name s → IsProgramOf s read
    → faults (program_of read.program) ≡ [] → k.opened ≡ k.opens + 1 → length s ≡ k.given → k.live ≡ false → AllRead k → IsAnswerTo read.names (program_of read.program) q o.text.items found
    → o.status ≡ status_of_found found → ResultsIn k (of_search q name) (Ok o)
search_makes k q name s read o found first is typed opened given ended calm answers status = D.made o refl (record {
  texts = s ∷ [];
  accepted = (first, (program_of read.program, ((read.names, is.parsed), typed)), tt);
  opened = opened;
  given = given;
  ended = ended;
  calm = calm;
  output = record {
    names = read.names;
    program = program_of read.program;
    parsed = is.parsed;
    typed = typed;
    found = found;
    answers = answers;
    ended = status;
  };
}) tt

-- the verdict of a text that shows lines is right for them
pub judged_by : (shown : Shown) (p : ProgramTree) (names : List Text) (ls : List Line) (text : Text) (v : Verdict) → IsTextOf shown p names ls text v → Judged p ls v
judged_by Sh.Whole p names ls text v h = h.judged
judged_by (Sh.Lines first last) p names ls text v h = h.judged
judged_by Sh.Waits p names ls text v h = h.judged

-- what comes of a program and a record, one after the other
pub watch_makes : (k : Reading) (shown : Shown) (name other s t : Text) (read : Parsed) (lines : NamedLines) (o : Output) (v : Verdict) → IsReadAs k.told I.Program name s → IsProgramOf s read
    → faults (program_of read.program) ≡ [] → IsReadAs k.told I.Record other t → AreNamedLinesOf read.names t lines → k.opened ≡ k.opens + 2 → length t ≡ k.given → k.live ≡ false → AllRead k
    → IsTextOf shown (program_of read.program) lines.names lines.lines o.text.items v → ((w : Verdict) → Judged (program_of read.program) lines.lines w → w ≡ v) → o.status ≡ status_of_verdict v
    → ResultsIn k (of_watch shown name other) (Ok o)
watch_makes k shown name other s t read lines o v first is typed second named opened given ended calm shows only status = D.made o refl (record {
  texts = s ∷ t ∷ [];
  accepted = (first, (program_of read.program, ((read.names, is.parsed), typed)), (second, named.0.0, tt));
  opened = opened;
  given = given;
  ended = ended;
  calm = calm;
  output = record {
    names = read.names;
    program = program_of read.program;
    parsed = is.parsed;
    typed = typed;
    faultless = named.0.0;
    verdict = v;
    shows = subst (λ (ns : List Text). IsTextOf shown (program_of read.program) ns (lines_after read.names (record_of t).told) o.text.items v) named.1
        (subst (λ (xs : List Line). IsTextOf shown (program_of read.program) lines.names xs o.text.items v) named.0.1 shows);
    only = λ w h. only w (subst (λ (xs : List Line). Judged (program_of read.program) xs w) (sym named.0.1) h);
    ended = status;
  };
}) tt

-- the lines of a record have one end line, the last
pub ends_once : (names : List Text) (last : ℕ) (ls : List Line) → IsRecordFrom names last ls → EndsOnce ls
ends_once names last [] h = absurd h
ends_once names last (R.Event n e what ∷ ls) h = ends_once names n ls h.4
ends_once names last (R.End e ∷ []) h = tt
ends_once names last (R.End e ∷ l ∷ ls) h = absurd h

-- what comes of a program and a record that is filled in
pub fill_makes : (k : Reading) (name other s t : Text) (read : Parsed) (lines : NamedLines) (o : Output) (v : Verdict) → IsReadAs k.told I.Program name s → IsProgramOf s read
    → faults (program_of read.program) ≡ [] → IsReadAs k.told I.Record other t → AreNamedLinesOf read.names t lines → k.opened ≡ k.opens + 2 → length t ≡ k.given → k.live ≡ false → AllRead k
    → IsFilledText (program_of read.program) lines.names lines.lines o.text.items v → o.status ≡ status_of_verdict v → ResultsIn k (of_fill name other) (Ok o)
fill_makes k name other s t read lines o v first is typed second named opened given ended calm filled status = D.made o refl (record {
  texts = s ∷ t ∷ [];
  accepted = (first, (program_of read.program, ((read.names, is.parsed), typed)), (second, named.0.0, tt));
  opened = opened;
  given = given;
  ended = ended;
  calm = calm;
  output = record {
    names = read.names;
    program = program_of read.program;
    parsed = is.parsed;
    typed = typed;
    faultless = named.0.0;
    verdict = v;
    filled = subst (λ (ns : List Text). IsFilledText (program_of read.program) ns (lines_after read.names (record_of t).told) o.text.items v) named.1
        (subst (λ (ls : List Line). IsFilledText (program_of read.program) lines.names ls o.text.items v) named.0.1 filled);
    ended = status;
  };
}) tt

-- the lines of a record that was read are those of a record
pub read_again : (names : List Text) (t : Text) (lines : NamedLines) → AreNamedLinesOf names t lines → IsRecord (names_after names (record_of t).told) (lines_after names (record_of t).told)
    → IsRecord lines.names lines.lines
read_again names t lines named h =
    subst (λ (ns : List Text). IsRecord ns lines.lines) (sym named.1)
    (subst (λ (ls : List Line). IsRecord (names_after names (record_of t).told) ls) (sym named.0.1) h)

-- an output is written with a status that says so

found_whole : (found : Found) → WholeTextWritten (status_of_found found)
found_whole O.Finite = inl refl
found_whole O.Running = inr (inr (inl refl))
found_whole O.Shown = inr (inl refl)
found_whole O.Over = inr (inr (inl refl))
found_whole O.Run = inl refl
found_whole O.Missing = inr (inl refl)

pub verdict_whole : (v : Verdict) → WholeTextWritten (status_of_verdict v)
verdict_whole V.Yes = inl refl
verdict_whole (V.No number redex) = inr (inl refl)
verdict_whole (V.Moving o) = inr (inl refl)

pub output_whole : (r : Request) (texts : List Text) (text : Text) (s : Status) → IsOutput r texts text s → WholeTextWritten s
output_whole (of_search q name) [] text s h = absurd h
output_whole (of_search q name) (p ∷ []) text s h = subst WholeTextWritten (sym h.ended) (found_whole h.found)
output_whole (of_search q name) (p ∷ l ∷ ls) text s h = absurd h
output_whole (of_watch shown name other) [] text s h = absurd h
output_whole (of_watch shown name other) (p ∷ []) text s h = absurd h
output_whole (of_watch shown name other) (p ∷ t ∷ []) text s h = subst WholeTextWritten (sym h.ended) (verdict_whole h.verdict)
output_whole (of_watch shown name other) (p ∷ t ∷ u ∷ us) text s h = absurd h
output_whole (of_fill name other) [] text s h = absurd h
output_whole (of_fill name other) (p ∷ []) text s h = absurd h
output_whole (of_fill name other) (p ∷ t ∷ []) text s h = subst WholeTextWritten (sym h.ended) (verdict_whole h.verdict)
output_whole (of_fill name other) (p ∷ t ∷ u ∷ us) text s h = absurd h
output_whole (of_follow fills name other) texts text s h = absurd h
