-- The outcomes of reading inputs: an error is passed on, and a text that was read is checked.
use Rattle.std.proofs.Common.{◌≡◌, ◌∙◌, ℕ, List, Some, None, IfOk, MatchResult, Result, Ok, Err, true, ◌≢◌, refl, sym, ap, subst}
use Rattle.text_scan.specs.Text.{Text}
use Rattle.pool_grammar.specs.Grammatical.{IsGrammatical}
use Rattle.pool_syntax.specs.Spelled.{is_spelled}
use Rattle.pool_syntax.specs.Terms.{ProgramTree}
use Rattle.pool_syntax.specs.TreeOf.{program_of}
use Rattle.command_inputs.specs.declared.fault.Input.{Input}
use Rattle.command_inputs.specs.declared.fault.Input.TheVariants as I
use Rattle.command_inputs.specs.declared.fault.Fault.{Fault}
use Rattle.command_inputs.specs.declared.fault.InputError.{InputError}
use Rattle.command_inputs.specs.declared.fault.InputError.TheVariants as T
use Rattle.pool_outside.specs.Reading.{Reading, AllRead, Told}
use Rattle.command_inputs.specs.declared.program.Parsed.{Parsed}
use Rattle.command_inputs.specs.Programs.{IsFaultOfText, IsParsed}
use Rattle.command_inputs.specs.Readers as R
use Rattle.command_inputs.specs.Readers.{HasRecordFault, IsAcceptedRecord, IsAnyProgram, IsProgramOf, Judges, Opening, Reads, ReadsInput, stop_of_record}
use Rattle.command_inputs.specs.declared.fault.Fault.TheVariants as Why
use Rattle.run_record.specs.ReaderFacts.{ReportsFault}
use Rattle.run_record.specs.Records.{record_of}
use Rattle.run_record.specs.declared.fault.RecordFault.{RecordFault}
use Rattle.run_record.specs.declared.fault.RecordFault.TheVariants as Lines
use Rattle.command_inputs.specs.Inputs.{Stops, WasRead, too_long, faulty}

-- what is accepted and what is a fault, by other words
pub stops_as : (k : Reading) (input : Input) (name : Text) (P Q : Text → Type 0) (F G : Text → Fault → Type 0) (f : Fault) → ((s : Text) (f : Fault) → F s f → G s f) → ((s : Text) → Q s → P s)
    → Stops k input name P F f → Stops k input name Q G f
stops_as k input name P Q F G f fault accept (too_long e g l t) = too_long e g l t
stops_as k input name P Q F G f fault accept (faulty s w h n) = faulty s w (fault s f h) (λ q. n (accept s q))

module _ {A : Type 0} (k : Reading) (input : Input) (name : Text) (P : Text → Type 0) (F : Text → Fault → Type 0) (Is : Text → A → Type 0) where
  -- what was read, and its text
  pub was_read : (a : A) → Reads k input name P F Is (Ok a) → (s : Text) × WasRead k input name s × Is s a × AllRead k
  was_read a (R.read s b e w i c) = let same : b ≡ a = cc in (s, w, subst (Is s) same i, c)
  was_read a (R.refused f e w c) = absurd (cc)
  was_read a (R.unread e r w) = absurd (cc)
  was_read a (R.memory e) = absurd (cc)

module _ {A B : Type 0} (k : Reading) (input : Input) (name : Text) (P Q : Text → Type 0) (F G : Text → Fault → Type 0) (Is : Text → A → Type 0) where
  -- an error is passed on
  pub passed_on : (To : Text → B → Type 0) (stop : InputError) → ((s : Text) (f : Fault) → F s f → G s f) → ((s : Text) → Q s → P s)
      → Reads k input name P F Is (Err stop) → Reads k input name Q G To (Err stop)
  passed_on To stop fault accept (R.read s a e w i c) = absurd (cc)
  passed_on To stop fault accept (R.refused f e w c) = let same : stop ≡ T.Refused input f = cc in R.refused f (ap Err same) (stops_as k input name P Q F G f fault accept w) c
  passed_on To stop fault accept (R.unread e r w) = let same : stop ≡ T.Unread input = cc in R.unread (ap Err same) r w
  passed_on To stop fault accept (R.memory e) = let same : stop ≡ T.Memory = cc in R.memory (ap Err same)

  -- it is judged
  pub judged : (To : Text → B → Type 0) (a : A) (result : Result B InputError) → Reads k input name P F Is (Ok a) → ((s : Text) → Is s a → Judges input Q G To s result) → Reads k input name Q G To result
  judged To a result r j = let h = was_read k input name P F Is a r in by h.0 h.1 h.3 (j h.0 h.2)
    where
      by : (s : Text) → WasRead k input name s → AllRead k → Judges input Q G To s result → Reads k input name Q G To result
      by s w c (R.fits b e i) = R.read s b e w i c
      by s w c (R.fails f e x n) = R.refused f e (faulty s w x n) c
      by s w c (R.forgets e) = R.memory e

-- the same of a reader
module _ {A B : Type 0} (o : Opening) (input : Input) (name : Text) (P Q : Text → Type 0) (F G : Text → Fault → Type 0) (Is : Text → A → Type 0) where
  pub input_passed_on : (To : Text → B → Type 0) (stop : InputError) → ((s : Text) (f : Fault) → F s f → G s f) → ((s : Text) → Q s → P s)
      → ReadsInput o input name P F Is (Err stop) → ReadsInput o input name Q G To (Err stop)
  input_passed_on To stop fault accept h = record {
    reads = passed_on o.effect input name P Q F G Is To stop fault accept h.reads;
    opened_once = h.opened_once;
    unread_within = h.unread_within;
    same_texts = h.same_texts;
    same_leave = h.same_leave;
  }

  pub input_judged : (To : Text → B → Type 0) (a : A) (result : Result B InputError) → ReadsInput o input name P F Is (Ok a) → ((s : Text) → Is s a → Judges input Q G To s result)
      → ReadsInput o input name Q G To result
  input_judged To a result h judges = record {
    reads = judged o.effect input name P Q F G Is To a result h.reads judges;
    opened_once = h.opened_once;
    unread_within = h.unread_within;
    same_texts = h.same_texts;
    same_leave = h.same_leave;
  }

-- a judge that reads nothing, and refuses for a fault what is not accepted
pub judges_refusal : {B : Type 0} (input : Input) (Q : Text → Type 0) (G : Text → Fault → Type 0) (To : Text → B → Type 0) (s : Text) (stop : InputError)
    → ((i : Input) (f : Fault) → stop ≡ T.Refused i f → (i ≡ input) × G s f) → ((i : Input) → stop ≡ T.Unread i → ⊥) → (Q s → stop ≡ T.Memory)
    → Judges input Q G To s (Err stop)
judges_refusal input Q G To s (T.Refused i f) refuse unread accept =
    let h = refuse i f refl in
    R.fails f (ap (λ (j : Input). Err (T.Refused j f)) h.0) h.1 (λ q. let z : T.Refused i f ≡ T.Memory = accept q in cc)
judges_refusal input Q G To s (T.Unread i) refuse unread accept = absurd (unread i refl)
judges_refusal input Q G To s T.Memory refuse unread accept = R.forgets refl

-- what a judge says of what fits, and an error of it that is passed on
pub fits_is : {A : Type 0} (input : Input) (P : Text → Type 0) (F : Text → Fault → Type 0) (Is : Text → A → Type 0) (s : Text) (a : A) → Judges input P F Is s (Ok a) → Is s a
fits_is input P F Is s a (R.fits b e i) = let same : b ≡ a = cc in subst (Is s) same i
fits_is input P F Is s a (R.fails f e x n) = absurd (cc)
fits_is input P F Is s a (R.forgets e) = absurd (cc)

pub judge_passed : {A B : Type 0} (input : Input) (P Q : Text → Type 0) (F G : Text → Fault → Type 0) (Is : Text → A → Type 0) (To : Text → B → Type 0) (s : Text) (stop : InputError)
    → ((f : Fault) → F s f → G s f) → (Q s → P s) → Judges input P F Is s (Err stop) → Judges input Q G To s (Err stop)
judge_passed input P Q F G Is To s stop fault accept (R.fits b e i) = absurd (cc)
judge_passed input P Q F G Is To s stop fault accept (R.fails f e x n) = let same : stop ≡ T.Refused input f = cc in R.fails f (ap Err same) (fault f x) (λ q. n (accept q))
judge_passed input P Q F G Is To s stop fault accept (R.forgets e) = let same : stop ≡ T.Memory = cc in R.forgets (ap Err same)

-- what the reader of a program says of a text
pub program_judged : (bytes : Text) (result : Result Parsed InputError) → IfOk result (λ p. IsParsed bytes p.names (program_of p.program)) → IfOk result (λ p. IsGrammatical (program_of p.program))
    → IfOk result (λ p. is_spelled p.names (program_of p.program) ≡ true) → ((i : Input) (f : Fault) → result ≡ Err (T.Refused i f) → (i ≡ I.Program) × IsFaultOfText bytes f)
    → ((i : Input) → result ≢ Err (T.Unread i))
    → ((names : List Text) (p : ProgramTree) → IsParsed bytes names p → MatchResult result (λ q. (q.names ≡ names) × (program_of q.program ≡ p)) (λ r. r ≡ T.Memory))
    → Judges I.Program IsAnyProgram IsFaultOfText IsProgramOf bytes result
program_judged bytes (Ok p) parsed grammatical spelled refused unread only =
    R.fits p refl (record { parsed = parsed; grammatical = grammatical; spelled = spelled; only = only })
program_judged bytes (Err stop) parsed grammatical spelled refused unread only =
    judges_refusal I.Program IsAnyProgram IsFaultOfText IsProgramOf bytes stop (λ i f e. refused i f (ap Err e)) (λ i e. unread i (ap Err e)) (λ q. only q.1.0 q.0 q.1.1)

-- the same reading, counted from an earlier moment
pub since : {A : Type 0} (k : Reading) (told : Told) (opens faults : ℕ) (input : Input) (name : Text) (P : Text → Type 0) (F : Text → Fault → Type 0) (Is : Text → A → Type 0) (result : Result A InputError)
    → k.told ≡ told → k.faults ≡ faults → Reads k input name P F Is result → Reads (record k { told = told; opens = opens; faults = faults }) input name P F Is result
since {A} k told opens faults input name P F Is result t n r =
    subst (λ (x : ℕ). Reads (record k { told = told; opens = opens; faults = x }) input name P F Is result) n
    (subst (λ (x : Told). Reads (record k { told = x; opens = opens }) input name P F Is result) t (from r))
  where
    stops : (f : Fault) → Stops k input name P F f → Stops (record k { opens = opens }) input name P F f
    stops f (too_long e g l t) = too_long e g l t
    stops f (faulty s w h n) = faulty s w h n

    from : Reads k input name P F Is result → Reads (record k { opens = opens }) input name P F Is result
    from (R.read s a e w i c) = R.read s a e w i c
    from (R.refused f e w c) = R.refused f e (stops f w) c
    from (R.unread e r w) = R.unread e r w
    from (R.memory e) = R.memory e

-- what the reader of a record says of a text
module _ {A : Type 0} (To : Text → A → Type 0) where
  record_fails : (s : Text) (f : RecordFault) (stop : InputError) → stop ≡ T.Refused I.Record (Why.Record f) → (record_of s).fault ≡ Some f
      → Judges I.Record IsAcceptedRecord HasRecordFault To s (Err stop)
  record_fails s f stop e told = R.fails (Why.Record f) (ap Err e) (f, refl, told) (λ q. let z : None ≡ Some f = sym q ∙ told in cc)

  pub record_refused : (s : Text) (f : RecordFault) (stop : InputError) → stop ≡ stop_of_record f → ReportsFault f (record_of s).fault → Judges I.Record IsAcceptedRecord HasRecordFault To s (Err stop)
  record_refused s (Lines.BadLine line) stop e told = record_fails s (Lines.BadLine line) stop e told
  record_refused s (Lines.OutOfOrder line) stop e told = record_fails s (Lines.OutOfOrder line) stop e told
  record_refused s (Lines.WrongAsk line) stop e told = record_fails s (Lines.WrongAsk line) stop e told
  record_refused s Lines.Memory stop e told = R.forgets (ap Err e)
