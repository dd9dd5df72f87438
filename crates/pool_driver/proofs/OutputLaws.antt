-- The output of a request follows from its inputs, one after another.
use Rattle.std.proofs.Common.{◌≡◌, ◌∙◌, ◌+◌, ℕ, List, [], ◌∷◌, length, Result, Ok, Err, false, refl, sym, ap, subst}
use Rattle.text_scan.specs.Text.{Text}
use Rattle.pool_syntax.specs.TreeOf.{program_of}
use Rattle.pool_syntax.specs.Typing.{faults}
use Rattle.run_types.specs.declared.types.Line.{Line}
use Rattle.command_inputs.specs.declared.program.Parsed.{Parsed}
use Rattle.record_check.specs.RecordJudgement.{Judged}
use Rattle.run_types.specs.declared.types.Placement.{Placement}
use Rattle.code_semantics.specs.declared.unit.Unit.{Unit as Code}
use Rattle.placement_reader.specs.Placements.{placement_of}
use Rattle.schedule_reader.specs.Schedules.{schedule_of}
use Rattle.command_inputs.specs.declared.fault.Fault.{Fault}
use Rattle.command_inputs.specs.declared.fault.Input.TheVariants as I
use Rattle.command_inputs.specs.declared.fault.InputError.{InputError}
use Rattle.pool_driver.specs.declared.outputs.Output.{Output}
use Rattle.command_line.specs.Commands.{Request, of_ring, of_check}
use Rattle.pool_driver.specs.Inputs.{Gives, by_file, by_program, IsAccepted, HasFault, IsPlacementOf}
use Rattle.command_inputs.specs.Inputs.{IsReadAs}
use Rattle.pool_driver.specs.UnitOfFile.{IsUnitOfFile}
use Rattle.pool_driver.proofs.NoProgram.{no_program}
use Rattle.pool_driver.proofs.OneFilePerText.{said_once}
use Rattle.code_semantics.specs.declared.file.UnitFile.{UnitFile}
use Rattle.command_shell.specs.Results as Results
use Rattle.command_shell.proofs.Laws.{none_opened}
use Rattle.pool_outside.specs.Reading.{AllRead, Reading}
use Rattle.command_inputs.specs.declared.fault.InputError.TheVariants as T
use Rattle.run_loop.specs.declared.loaded.Loaded.{Loaded}
use Rattle.pool_gen.specs.Ring.{ring_placement, ring_program, ring_schedule}
use Rattle.pool_driver.specs.Readers as D
use Rattle.command_inputs.specs.Readers as J
use Rattle.pool_driver.specs.Readers.{HasPlacementFault, HasScheduleFault, HasUnitFault, IsAcceptedPlacement, IsAcceptedSchedule, IsPlacedAs, IsScheduledAs, IsUnitOf, Loads, ResultsIn, Rings, Decides}
use Rattle.command_inputs.specs.Readers.{AreLinesOf, HasRecordFault, IsProgramOf, Judges}
use Rattle.command_inputs.specs.Programs.{HasTypedFault, IsTypedProgram}

-- for the same request
pub makes_for : (k : Reading) (q r : Request) (result : Result Output InputError) → q ≡ r → ResultsIn k q result → ResultsIn k r result
makes_for k q r result e h = subst (λ (x : Request). ResultsIn k x result) e h

-- a file that is refused
pub file_fault : (s : Text) (f : Fault) → HasUnitFault s f → HasFault [] I.Unit s f
file_fault s f h = subst (λ (x : Fault). HasFault [] I.Unit s x) (sym h.1) h.2

pub judged_fault : (source s : Text) (f : Fault) → HasRecordFault s f → HasFault (source ∷ []) I.Record s f
judged_fault source s f h = subst (λ (x : Fault). HasFault (source ∷ []) I.Record s x) (sym h.1) h.2

-- a record that is refused
pub record_fault : (s : Text) (f : Fault) → HasRecordFault s f → HasFault [] I.Record s f
record_fault s f h = subst (λ (x : Fault). HasFault [] I.Record s x) (sym h.1) h.2

-- a program that was read and compiled
pub accepts : (s : Text) (u : Code) → IsUnitOf s u → IsAccepted [] I.Program s
accepts s u is = (is.code.program, ((is.code.names, is.code.parsed), is.code.typed))

-- a placement that was read for the code that a text gives, and no other
module _ (s : Text) (u : Code) (gives : Gives s u) (only : (v : Code) → Gives s v → v ≡ u) where
  placed_for : (t : Text) (l : Placement) → placement_of u t ≡ Ok l → IsPlacementOf s t l
  placed_for t l e = record { unit = u; code = gives; placed = e }

  placement_fault_for : (t : Text) (f : Fault) → HasPlacementFault u t f → HasFault (s ∷ []) I.Placement t f
  placement_fault_for t f h = subst (λ (x : Fault). HasFault (s ∷ []) I.Placement t x) (sym h.1) (u, gives, h.2)

  -- and no other is
  placed_by : (t : Text) (l : Placement) → IsPlacementOf s t l → placement_of u t ≡ Ok l
  placed_by t l h = subst (λ (v : Code). placement_of v t ≡ Ok l) (only h.unit h.code) h.placed

  placement_accepted_for : (t : Text) → IsAccepted (s ∷ []) I.Placement t → IsAcceptedPlacement u t
  placement_accepted_for t q = (q.0, placed_by t q.0 q.1)

  module _ (t : Text) (l : Placement) (placed : placement_of u t ≡ Ok l) where
    schedule_fault_for : (v : Text) (f : Fault) → HasScheduleFault l v f → HasFault (s ∷ t ∷ []) I.Schedule v f
    schedule_fault_for v f h = subst (λ (x : Fault). HasFault (s ∷ t ∷ []) I.Schedule v x) (sym h.1) (l, placed_for t l placed, h.2)

    schedule_accepted_for : (v : Text) → IsAccepted (s ∷ t ∷ []) I.Schedule v → IsAcceptedSchedule l v
    schedule_accepted_for v q =
        let z : Ok q.0 ≡ Ok l = sym (placed_by t q.0 q.2) ∙ placed in
        let same : q.0 ≡ l = cc in
        (q.1, subst (λ (x : Placement). schedule_of x.width x.height x.cuts v ≡ Ok q.1) same q.3)

-- for a program
module _ (s : Text) (u : Code) (is : IsUnitOf s u) where
  program_gives : Gives s u
  program_gives = by_program is.code

  program_only : (v : Code) → Gives s v → v ≡ u
  program_only v (by_program c) = is.only v c
  program_only v (by_file f h e) = absurd (no_program s f is.code.names is.code.parsed.0 h.said is.code.parsed.1)

  pub places : (t : Text) (l : Placement) → placement_of u t ≡ Ok l → IsPlacementOf s t l
  places t l e = placed_for s u program_gives program_only t l e

  pub placement_fault : (t : Text) (f : Fault) → HasPlacementFault u t f → HasFault (s ∷ []) I.Placement t f
  placement_fault t f h = placement_fault_for s u program_gives program_only t f h

  pub placement_accepted : (t : Text) → IsAccepted (s ∷ []) I.Placement t → IsAcceptedPlacement u t
  placement_accepted t q = placement_accepted_for s u program_gives program_only t q

  module _ (t : Text) (l : Placement) (placed : placement_of u t ≡ Ok l) where
    pub schedule_fault : (v : Text) (f : Fault) → HasScheduleFault l v f → HasFault (s ∷ t ∷ []) I.Schedule v f
    schedule_fault v f h = schedule_fault_for s u program_gives program_only t l placed v f h

    pub schedule_accepted : (v : Text) → IsAccepted (s ∷ t ∷ []) I.Schedule v → IsAcceptedSchedule l v
    schedule_accepted v q = schedule_accepted_for s u program_gives program_only t l placed v q

-- for an object code file
module _ (s : Text) (u : Code) (is : IsUnitOfFile s u) where
  file_gives : Gives s u
  file_gives = by_file is.file is.is_file is.is_unit

  file_only : (v : Code) → Gives s v → v ≡ u
  file_only v (by_program c) = absurd (no_program s is.file c.names c.parsed.0 is.is_file.said c.parsed.1)
  file_only v (by_file f h e) = e ∙ ap (λ (x : UnitFile). x.unit) (said_once s f is.file h.said is.is_file.said) ∙ sym is.is_unit

  pub file_accepted : IsAccepted [] I.Unit s
  file_accepted = (is.file, is.is_file)

  pub file_places : (t : Text) (l : Placement) → placement_of u t ≡ Ok l → IsPlacementOf s t l
  file_places t l e = placed_for s u file_gives file_only t l e

  pub file_placement_fault : (t : Text) (f : Fault) → HasPlacementFault u t f → HasFault (s ∷ []) I.Placement t f
  file_placement_fault t f h = placement_fault_for s u file_gives file_only t f h

  pub file_placement_accepted : (t : Text) → IsAccepted (s ∷ []) I.Placement t → IsAcceptedPlacement u t
  file_placement_accepted t q = placement_accepted_for s u file_gives file_only t q

  module _ (t : Text) (l : Placement) (placed : placement_of u t ≡ Ok l) where
    pub file_schedule_fault : (v : Text) (f : Fault) → HasScheduleFault l v f → HasFault (s ∷ t ∷ []) I.Schedule v f
    file_schedule_fault v f h = schedule_fault_for s u file_gives file_only t l placed v f h

    pub file_schedule_accepted : (v : Text) → IsAccepted (s ∷ t ∷ []) I.Schedule v → IsAcceptedSchedule l v
    file_schedule_accepted v q = schedule_accepted_for s u file_gives file_only t l placed v q

-- what comes of three texts, one after another

module _ (p l s : Text) (stop : InputError) where
  pub loads_program : Judges I.Program IsTypedProgram HasTypedFault IsUnitOf p (Err stop) → Loads p l s (Err stop)
  loads_program (J.fits b e i) = absurd (cc)
  loads_program (J.fails f e x n) = let same : stop ≡ T.Refused I.Program f = cc in D.stops I.Program f (ap Err same) (x, n)
  loads_program (J.forgets e) = let same : stop ≡ T.Memory = cc in D.lacks (ap Err same)

  pub loads_placement : (u : Code) → IsUnitOf p u → Judges I.Placement (IsAcceptedPlacement u) (HasPlacementFault u) (IsPlacedAs u) l (Err stop) → Loads p l s (Err stop)
  loads_placement u is (J.fits b e i) = absurd (cc)
  loads_placement u is (J.fails f e x n) =
      let same : stop ≡ T.Refused I.Placement f = cc in
      D.stops I.Placement f (ap Err same) (accepts p u is, placement_fault p u is l f x, λ q. n (placement_accepted p u is l q))
  loads_placement u is (J.forgets e) = let same : stop ≡ T.Memory = cc in D.lacks (ap Err same)

  pub loads_schedule : (u : Code) (place : Placement) → IsUnitOf p u → IsPlacedAs u l place → Judges I.Schedule (IsAcceptedSchedule place) (HasScheduleFault place) (IsScheduledAs place) s (Err stop)
      → Loads p l s (Err stop)
  loads_schedule u place is placed (J.fits b e i) = absurd (cc)
  loads_schedule u place is placed (J.fails f e x n) =
      let same : stop ≡ T.Refused I.Schedule f = cc in
      D.stops I.Schedule f (ap Err same)
      (accepts p u is, (place, places p u is l place placed.0), schedule_fault p u is l place placed.0 s f x, λ q. n (schedule_accepted p u is l place placed.0 s q))
  loads_schedule u place is placed (J.forgets e) = let same : stop ≡ T.Memory = cc in D.lacks (ap Err same)

-- the same of texts that equal these
pub loads_of : (p l s p' l' s' : Text) (result : Result Loaded InputError) → p ≡ p' → l ≡ l' → s ≡ s' → Loads p l s result → Loads p' l' s' result
loads_of p l s p' l' s' result a b c h =
    subst (λ (x : Text). Loads x l' s' result) a (subst (λ (x : Text). Loads p x s' result) b (subst (λ (x : Text). Loads p l x result) c h))

-- of a ring: what was loaded, and why nothing was
pub was_loaded : (p l s : Text) (r : Loaded) → Loads p l s (Ok r) → IsUnitOf p r.unit × IsPlacedAs r.unit l r.placement × IsScheduledAs r.placement s r.schedule
was_loaded p l s r (D.loads q e a b c) = let same : q ≡ r = cc in subst (λ (x : Loaded). IsUnitOf p x.unit × IsPlacedAs x.unit l x.placement × IsScheduledAs x.placement s x.schedule) same (a, b, c)
was_loaded p l s r (D.stops i f e w) = absurd (cc)
was_loaded p l s r (D.lacks e) = absurd (cc)

pub ring_stops : (k : ℕ) (stop : InputError) → Loads (ring_program k) ring_placement (ring_schedule k) (Err stop) → Rings k (Err stop)
ring_stops k stop (D.loads q e a b c) = absurd (cc)
ring_stops k stop (D.stops i f e w) = let same : stop ≡ T.Refused i f = cc in D.stops i f (ap Err same) w
ring_stops k stop (D.lacks e) = let same : stop ≡ T.Memory = cc in D.lacks (ap Err same)

-- a ring opens nothing
pub ring_makes : (k : Reading) (cells : ℕ) (result : Result Output InputError) → k.opened ≡ k.opens → k.live ≡ false → k.failed ≡ k.faults → Rings cells result → ResultsIn k (of_ring cells) result
ring_makes k cells result opened ended calm (D.rings o e is printable) =
    Results.made o e (record { texts = []; accepted = tt; opened = opened ∙ none_opened k.opens; given = tt; ended = ended; calm = calm; output = is }) printable
ring_makes k cells result opened ended calm (D.stops i f e w) = Results.unmade i f e (record { why = w; opened = opened; calm = calm })
ring_makes k cells result opened ended calm (D.lacks e) = Results.memory e

-- what comes of a program and a record, one after the other
pub check_makes : (k : Reading) (name other s t : Text) (read : Parsed) (ls : List Line) (result : Result Output InputError) → IsReadAs k.told I.Program name s → IsProgramOf s read
    → faults (program_of read.program) ≡ [] → IsReadAs k.told I.Record other t → AreLinesOf read.names t ls → k.opened ≡ k.opens + 2 → length t ≡ k.given → k.live ≡ false → AllRead k
    → Decides read.names (program_of read.program) ls result → ResultsIn k (of_check name other) result
check_makes k name other s t read ls result first is typed second lines opened given ended calm (D.decides o v e j only text status printable) = Results.made o e (record {
  texts = s ∷ t ∷ [];
  accepted = (first, (program_of read.program, ((read.names, is.parsed), typed)), (second, lines.0, tt));
  opened = opened;
  given = given;
  ended = ended;
  calm = calm;
  output = record {
    names = read.names;
    program = program_of read.program;
    parsed = is.parsed;
    typed = typed;
    faultless = lines.0;
    verdict = v;
    judged = subst (λ (xs : List Line). Judged (program_of read.program) xs v) lines.1 j;
    only = λ w h. only w (subst (λ (xs : List Line). Judged (program_of read.program) xs w) (sym lines.1) h);
    written = text;
    ended = status;
  };
}) printable
check_makes k name other s t read ls result first is typed second lines opened given ended calm (D.lacks e) = Results.memory e
