-- `load` of a built file stops at the same input for the same fault as `record` of the program.
use Rattle.std.proofs.Common.{◌≡◌, ◌∙◌, ◌⊎◌, inl, inr, refl, sym, ap, subst, ◌≤◌, List, ◌∷◌, [], Some, Ok, Result, length, arith}
use Rattle.text_scan.specs.Text.{Text}
use Rattle.pool_syntax.specs.Terms.{ProgramTree}
use Rattle.run_types.specs.declared.types.Placement.{Placement}
use Rattle.run_types.proofs.Laws.{same_some}
use Rattle.code_semantics.specs.declared.unit.Unit.{Unit as Code}
use Rattle.compiler_correctness.specs.DeclaredKinds.{file_of}
use Rattle.command_line.specs.declared.command.Ask.TheVariants as As
use Rattle.command_inputs.specs.Inputs.{limit_of}
use Rattle.command_inputs.specs.Programs.{IsParsed}
use Rattle.command_inputs.specs.declared.fault.Input.{Input}
use Rattle.command_inputs.specs.declared.fault.Input.TheVariants as I
use Rattle.command_inputs.specs.declared.fault.Fault.{Fault}
use Rattle.command_inputs.specs.declared.fault.Fault.TheVariants as F
use Rattle.placement_reader.specs.declared.fault.PlacementFault.{PlacementFault}
use Rattle.placement_reader.specs.Placements as P
use Rattle.placement_reader.specs.Placements.{placement_of}
use Rattle.schedule_reader.specs.declared.fault.ScheduleFault.{ScheduleFault}
use Rattle.schedule_reader.specs.Schedules as S
use Rattle.schedule_reader.specs.Schedules.{schedule_of}
use Rattle.pool_driver.specs.Inputs.{Gives, HasFault, IsAccepted, by_file, by_program, unit_of}
use Rattle.pool_driver.specs.FirstFault.{StopsFirst, StopsFor}
use Rattle.pool_driver.specs.Outputs.{IsTextFor}
use Rattle.pool_driver.proofs.BuildThenLoad.{bytes_give, placement_for_bytes, placement_for_source, placements_same, schedules_same, source_gives}

same_ok : {A E : Type 0} {x y : A} → ◌≡◌ {A = Result A E} (Ok x) (Ok y) → x ≡ y
same_ok e = cc

-- what stops after some texts also stops after others, if they have the same faults and accept no more
carried : (before after : List Text) (i : Input) (s : Text) (f : Fault) → (HasFault before i s f → HasFault after i s f) → (IsAccepted after i s → IsAccepted before i s)
    → StopsFor before i s f → StopsFor after i s f
carried before after i s f fault accepted (inl t) = inl t
carried before after i s f fault accepted (inr t) = inr (t.0, fault t.1, λ a. t.2 (accepted a))

-- a text stops for one fault, if it has one fault
stops_once : (earlier : List Text) (i : Input) (s : Text) (f g : Fault) → (HasFault earlier i s f → HasFault earlier i s g → f ≡ g) → StopsFor earlier i s f → StopsFor earlier i s g → f ≡ g
stops_once earlier i s f g one (inl t) (inl u) = t.1 ∙ sym u.1
stops_once earlier i s f g one (inl t) (inr u) = let long = t.0 in let short = u.0 in absurd (omega (arith, long, short))
stops_once earlier i s f g one (inr t) (inl u) = let short = t.0 in let long = u.0 in absurd (omega (arith, long, short))
stops_once earlier i s f g one (inr t) (inr u) = one t.1 u.1

-- what is within its limit and accepted does not stop
passes : (earlier : List Text) (i : Input) (s : Text) (f : Fault) → length s ≤ limit_of i → IsAccepted earlier i s → StopsFor earlier i s f → ⊥
passes earlier i s f short accepted (inl t) = let long = t.0 in omega (arith, short, long)
passes earlier i s f short accepted (inr t) = t.2 accepted

module _ (one_program : (s : Text) (names others : List Text) (p q : ProgramTree) → IsParsed s names p → IsParsed s others q → (names ≡ others) × (p ≡ q))
    (source bytes : Text) (b : IsTextFor As.File source bytes) where
  program_accepted : IsAccepted [] I.Program source
  program_accepted = (b.program, ((b.names, b.parsed), b.typed))

  file_accepted : IsAccepted [] I.Unit bytes
  file_accepted = (file_of b.names b.program, b.built)

  by_bytes : (u : Code) → Gives source u → Gives bytes u
  by_bytes u g = by_file (file_of b.names b.program) b.built (source_gives one_program source bytes b u g)

  by_source : (u : Code) → Gives bytes u → Gives source u
  by_source u g = by_program (record { names = b.names; program = b.program; parsed = b.parsed; typed = b.typed; coded = bytes_give one_program source bytes b u g })

  placement_there : (place : Text) (f : Fault) → HasFault (source ∷ []) I.Placement place f → HasFault (bytes ∷ []) I.Placement place f
  placement_there place F.TooLong h = h
  placement_there place (F.Lex f) h = h
  placement_there place (F.Syntax f) h = h
  placement_there place (F.Class f) h = h
  placement_there place (F.Placement f) h = (h.0, by_bytes h.0 h.1, h.2)
  placement_there place (F.Schedule f) h = h
  placement_there place (F.Record f) h = h
  placement_there place (F.Unit f) h = h

  placement_back : (place : Text) (f : Fault) → HasFault (bytes ∷ []) I.Placement place f → HasFault (source ∷ []) I.Placement place f
  placement_back place F.TooLong h = h
  placement_back place (F.Lex f) h = h
  placement_back place (F.Syntax f) h = h
  placement_back place (F.Class f) h = h
  placement_back place (F.Placement f) h = (h.0, by_source h.0 h.1, h.2)
  placement_back place (F.Schedule f) h = h
  placement_back place (F.Record f) h = h
  placement_back place (F.Unit f) h = h

  schedule_there : (place plan : Text) (f : Fault) → HasFault (source ∷ place ∷ []) I.Schedule plan f → HasFault (bytes ∷ place ∷ []) I.Schedule plan f
  schedule_there place plan F.TooLong h = h
  schedule_there place plan (F.Lex f) h = h
  schedule_there place plan (F.Syntax f) h = h
  schedule_there place plan (F.Class f) h = h
  schedule_there place plan (F.Placement f) h = h
  schedule_there place plan (F.Schedule f) h = (h.0, placement_for_bytes one_program source bytes b place h.0 h.1, h.2)
  schedule_there place plan (F.Record f) h = h
  schedule_there place plan (F.Unit f) h = h

  schedule_back : (place plan : Text) (f : Fault) → HasFault (bytes ∷ place ∷ []) I.Schedule plan f → HasFault (source ∷ place ∷ []) I.Schedule plan f
  schedule_back place plan F.TooLong h = h
  schedule_back place plan (F.Lex f) h = h
  schedule_back place plan (F.Syntax f) h = h
  schedule_back place plan (F.Class f) h = h
  schedule_back place plan (F.Placement f) h = h
  schedule_back place plan (F.Schedule f) h = (h.0, placement_for_source one_program source bytes b place h.0 h.1, h.2)
  schedule_back place plan (F.Record f) h = h
  schedule_back place plan (F.Unit f) h = h

  -- the fault of a placement or a schedule of the program, over its one code
  placement_fault : (place : Text) (f : Fault) → HasFault (source ∷ []) I.Placement place f
      → (g : PlacementFault) × (f ≡ F.Placement g) × (P.fault_in (placement_of (unit_of b.names b.program) place) ≡ Some g)
  placement_fault place F.TooLong h = absurd h
  placement_fault place (F.Lex f) h = absurd h
  placement_fault place (F.Syntax f) h = absurd h
  placement_fault place (F.Class f) h = absurd h
  placement_fault place (F.Placement f) h =
      (f, refl, subst (λ (u : Code). P.fault_in (placement_of u place) ≡ Some f) (source_gives one_program source bytes b h.0 h.1) h.2)
  placement_fault place (F.Schedule f) h = absurd h
  placement_fault place (F.Record f) h = absurd h
  placement_fault place (F.Unit f) h = absurd h

  schedule_fault : (place plan : Text) (f : Fault) → HasFault (source ∷ place ∷ []) I.Schedule plan f
      → (g : ScheduleFault) × (f ≡ F.Schedule g)
      × ((l : Placement) × (placement_of (unit_of b.names b.program) place ≡ Ok l) × (S.fault_in (schedule_of l.width l.height l.cuts plan) ≡ Some g))
  schedule_fault place plan F.TooLong h = absurd h
  schedule_fault place plan (F.Lex f) h = absurd h
  schedule_fault place plan (F.Syntax f) h = absurd h
  schedule_fault place plan (F.Class f) h = absurd h
  schedule_fault place plan (F.Placement f) h = absurd h
  schedule_fault place plan (F.Schedule f) h =
      (f, refl, (h.0, subst (λ (u : Code). placement_of u place ≡ Ok h.0) (source_gives one_program source bytes b h.1.unit h.1.code) h.1.placed, h.2))
  schedule_fault place plan (F.Record f) h = absurd h
  schedule_fault place plan (F.Unit f) h = absurd h

  one_placement : (place : Text) (f g : Fault) → HasFault (source ∷ []) I.Placement place f → HasFault (source ∷ []) I.Placement place g → f ≡ g
  one_placement place f g h i =
      let x = placement_fault place f h in
      let y = placement_fault place g i in
      x.1 ∙ ap F.Placement (same_some (sym x.2 ∙ y.2)) ∙ sym y.1

  one_schedule : (place plan : Text) (f g : Fault) → HasFault (source ∷ place ∷ []) I.Schedule plan f → HasFault (source ∷ place ∷ []) I.Schedule plan g → f ≡ g
  one_schedule place plan f g h i =
      let x = schedule_fault place plan f h in
      let y = schedule_fault place plan g i in
      let same : x.2.0 ≡ y.2.0 = same_ok (sym x.2.1 ∙ y.2.1) in
      x.1 ∙ ap F.Schedule (same_some (sym x.2.2 ∙ ap (λ (l : Placement). S.fault_in (schedule_of l.width l.height l.cuts plan)) same ∙ y.2.2)) ∙ sym y.1

  -- the inputs of `record` and of `load`, with their texts
  abbrev Recorded : Text → Text → Input → Fault → Type 0
  Recorded place plan input f = StopsFirst [] (I.Program ∷ I.Placement ∷ I.Schedule ∷ []) (source ∷ place ∷ plan ∷ []) input f

  abbrev Loaded : Text → Text → Input → Fault → Type 0
  Loaded place plan input f = StopsFirst [] (I.Unit ∷ I.Placement ∷ I.Schedule ∷ []) (bytes ∷ place ∷ plan ∷ []) input f

  pub loads_stop : (place plan : Text) (input : Input) (f : Fault) → length source ≤ limit_of I.Program → length bytes ≤ limit_of I.Unit → Recorded place plan input f → Loaded place plan input f
  loads_stop place plan input f short few (inl t) = absurd (passes [] I.Program source f short program_accepted t.1)
  loads_stop place plan input f short few (inr (z, inl t)) =
      inr ((few, file_accepted), inl (t.0, carried (source ∷ []) (bytes ∷ []) I.Placement place f (placement_there place f) (placements_same one_program source bytes b place).1 t.1))
  loads_stop place plan input f short few (inr (z, inr (y, inl t))) =
      inr (
        (few, file_accepted),
        inr (
          (y.0, (placements_same one_program source bytes b place).0 y.1),
          inl (t.0, carried (source ∷ place ∷ []) (bytes ∷ place ∷ []) I.Schedule plan f (schedule_there place plan f) (schedules_same one_program source bytes b place plan).1 t.1),
        ),
      )
  loads_stop place plan input f short few (inr (z, inr (y, inr t))) = absurd t.1

  pub records_stop : (place plan : Text) (input : Input) (f : Fault) → length source ≤ limit_of I.Program → length bytes ≤ limit_of I.Unit → Loaded place plan input f → Recorded place plan input f
  records_stop place plan input f short few (inl t) = absurd (passes [] I.Unit bytes f few file_accepted t.1)
  records_stop place plan input f short few (inr (z, inl t)) =
      inr ((short, program_accepted), inl (t.0, carried (bytes ∷ []) (source ∷ []) I.Placement place f (placement_back place f) (placements_same one_program source bytes b place).0 t.1))
  records_stop place plan input f short few (inr (z, inr (y, inl t))) =
      inr (
        (short, program_accepted),
        inr (
          (y.0, (placements_same one_program source bytes b place).1 y.1),
          inl (t.0, carried (bytes ∷ place ∷ []) (source ∷ place ∷ []) I.Schedule plan f (schedule_back place plan f) (schedules_same one_program source bytes b place plan).0 t.1),
        ),
      )
  records_stop place plan input f short few (inr (z, inr (y, inr t))) = absurd t.1

  pub stops_at_one : (place plan : Text) (i j : Input) (f g : Fault) → length source ≤ limit_of I.Program → Recorded place plan i f → Recorded place plan j g → (i ≡ j) × (f ≡ g)
  stops_at_one place plan i j f g short (inl t) y = absurd (passes [] I.Program source f short program_accepted t.1)
  stops_at_one place plan i j f g short (inr x) (inl u) = absurd (passes [] I.Program source g short program_accepted u.1)
  stops_at_one place plan i j f g short (inr (z, inl t)) (inr (y, inl u)) = (t.0 ∙ sym u.0, stops_once (source ∷ []) I.Placement place f g (one_placement place f g) t.1 u.1)
  stops_at_one place plan i j f g short (inr (z, inl t)) (inr (y, inr (w, u))) = absurd (passes (source ∷ []) I.Placement place f w.0 w.1 t.1)
  stops_at_one place plan i j f g short (inr (z, inr (x, t))) (inr (y, inl u)) = absurd (passes (source ∷ []) I.Placement place g x.0 x.1 u.1)
  stops_at_one place plan i j f g short (inr (z, inr (x, inl t))) (inr (y, inr (w, inl u))) =
      (t.0 ∙ sym u.0, stops_once (source ∷ place ∷ []) I.Schedule plan f g (one_schedule place plan f g) t.1 u.1)
  stops_at_one place plan i j f g short (inr (z, inr (x, inr t))) (inr (y, inr (w, u))) = absurd t.1
  stops_at_one place plan i j f g short (inr (z, inr (x, inl t))) (inr (y, inr (w, inr u))) = absurd u.1
