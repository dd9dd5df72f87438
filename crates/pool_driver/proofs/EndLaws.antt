-- Each output has a status that says so, and the inputs of a servable request do not stop a call.
use Rattle.std.proofs.Common.{◌≡◌, inl, inr, ◌||◌, Bool, true, false, List, [], ◌∷◌, refl, sym, subst}
use Rattle.text_scan.specs.Text.{Text}
use Rattle.run_types.specs.declared.types.End.{End}
use Rattle.run_types.specs.declared.types.End.TheVariants as F
use Rattle.run_types.specs.declared.types.Line.{Line}
use Rattle.run_types.specs.declared.types.Line.TheVariants as R
use Rattle.run_types.specs.declared.verdicts.Verdict.{Verdict}
use Rattle.run_types.specs.declared.verdicts.Verdict.TheVariants as V
use Rattle.command_inputs.specs.declared.fault.Input.{Input}
use Rattle.command_inputs.specs.declared.fault.Input.TheVariants as I
use Rattle.command_inputs.specs.declared.fault.Fault.{Fault}
use Rattle.command_line.specs.Commands.{Request, of_run, of_program, of_ring, of_convert, of_check, of_load}
use Rattle.command_shell.specs.declared.status.Status.{Status}
use Rattle.command_shell.specs.Ends.{WholeTextWritten}
use Rattle.command_shell.specs.Programs.{AreServed}
use Rattle.command_shell.specs.Verdicts.{status_of_verdict}
use Rattle.pool_gen.specs.Ring.{ring_placement, ring_program, ring_schedule}
use Rattle.pool_outside.specs.Reading.{Told}
use Rattle.run_loop.specs.Shown.{ended, shows_fault, status_after}
use Rattle.pool_driver.specs.Ends.{IsUnfit}
use Rattle.pool_driver.specs.Inputs.{inputs, IsAccepted, AreAccepted, IsServable, StopAt}
use Rattle.pool_driver.specs.Outputs.{IsOutput}
use Rattle.pool_driver.specs.Runs.{code_record_of, record_of}

-- what is asked for is written with a status that says so

ended_whole : (b : Bool) (e : End) → WholeTextWritten (ended b e)
ended_whole true (F.Quiet done) = inr (inl refl)
ended_whole false (F.Quiet done) = inl refl
ended_whole b (F.Schedule done) = inr (inr (inl refl))
ended_whole b (F.Full kind node done) = inr (inr (inr refl))

status_whole : (b : Bool) (ls : List Line) → WholeTextWritten (status_after b ls)
status_whole b [] = inl refl
status_whole b (R.Event number e what ∷ ls) = status_whole (b || shows_fault what) ls
status_whole b (R.End e ∷ ls) = ended_whole b e

verdict_whole : (v : Verdict) → WholeTextWritten (status_of_verdict v)
verdict_whole V.Yes = inl refl
verdict_whole (V.No number redex) = inr (inl refl)
verdict_whole (V.Moving o) = inr (inl refl)

pub output_whole : (r : Request) (texts : List Text) (text : Text) (s : Status) → IsOutput r texts text s → WholeTextWritten s
output_whole (of_run show names) [] text s h = absurd h
output_whole (of_run show names) (p ∷ []) text s h = absurd h
output_whole (of_run show names) (p ∷ l ∷ []) text s h = absurd h
output_whole (of_run show names) (p ∷ l ∷ t ∷ []) text s h = subst WholeTextWritten (sym h.ended) (status_whole false (record_of h.meaning).lines)
output_whole (of_run show names) (p ∷ l ∷ t ∷ u ∷ us) text s h = absurd h
output_whole (of_program ask name) [] text s h = absurd h
output_whole (of_program ask name) (p ∷ []) text s h = inl h.1
output_whole (of_program ask name) (p ∷ l ∷ ls) text s h = absurd h
output_whole (of_ring k) [] text s h = subst WholeTextWritten (sym h.ended) (status_whole false (record_of h.meaning).lines)
output_whole (of_ring k) (p ∷ ps) text s h = absurd h
output_whole (of_convert name) [] text s h = absurd h
output_whole (of_convert name) (p ∷ []) text s h = inl h.1
output_whole (of_convert name) (p ∷ l ∷ ls) text s h = absurd h
output_whole (of_check name other) [] text s h = absurd h
output_whole (of_check name other) (p ∷ []) text s h = absurd h
output_whole (of_check name other) (p ∷ t ∷ []) text s h = subst WholeTextWritten (sym h.ended) (verdict_whole h.verdict)
output_whole (of_check name other) (p ∷ t ∷ u ∷ us) text s h = absurd h
output_whole (of_load file place plan) [] text s h = absurd h
output_whole (of_load file place plan) (p ∷ []) text s h = absurd h
output_whole (of_load file place plan) (p ∷ l ∷ []) text s h = absurd h
output_whole (of_load file place plan) (p ∷ l ∷ t ∷ []) text s h = subst WholeTextWritten (sym h.ended) (status_whole false (code_record_of h.meaning).lines)
output_whole (of_load file place plan) (p ∷ l ∷ t ∷ u ∷ us) text s h = absurd h

-- the inputs of a servable request are served, and no text that is generated for it stops the call

pub served_inputs : (told : Told) (r : Request) → IsServable told r → AreServed IsAccepted told [] (inputs r)
served_inputs told (of_run show names) h = h
served_inputs told (of_program ask name) h = h
served_inputs told (of_ring k) h = tt
served_inputs told (of_convert name) h = h
served_inputs told (of_check name other) h = h
served_inputs told (of_load file place plan) h = h

never_stopped : (p l s : Text) (i : Input) (f : Fault) → AreAccepted p l s → StopAt p l s i f → ⊥
never_stopped p l s I.Program f h w = w.1 h.0
never_stopped p l s I.Placement f h w = w.2 h.1
never_stopped p l s I.Schedule f h w = w.3 h.2
never_stopped p l s I.Record f h w = absurd w
never_stopped p l s I.Unit f h w = absurd w

pub never_unfit : (told : Told) (r : Request) → IsServable told r → (i : Input) (f : Fault) → IsUnfit r i f → ⊥
never_unfit told (of_run show names) h i f w = w
never_unfit told (of_program ask name) h i f w = w
never_unfit told (of_ring k) h i f w = never_stopped (ring_program k) ring_placement (ring_schedule k) i f h w
never_unfit told (of_convert name) h i f w = w
never_unfit told (of_check name other) h i f w = w
never_unfit told (of_load file place plan) h i f w = w
