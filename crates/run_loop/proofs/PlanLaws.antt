-- A schedule that was read from a text has a quantum in its bounds, and at most 2,000,000 events, each of the mesh.
use Rattle.std.proofs.Common.{◌≡◌, ◌≤◌, ℕ, Bool, true, false, nat_le, List, [], ◌∷◌, length, Option, Some, None, Result, Ok, Err, refl, subst, arith}
use Rattle.std.proofs.lemmas.Bool.Decides.{nat_tests}
use Rattle.text_scan.specs.Text.{Text}
use Rattle.run_types.specs.declared.types.Event.{Event}
use Rattle.run_types.specs.declared.types.Event.TheVariants as V
use Rattle.run_types.specs.declared.types.Placement.{Placement}
use Rattle.run_types.specs.declared.types.LinkId.{LinkId}
use Rattle.text_scan.specs.Lines.{lines}
use Rattle.text_scan.specs.ContentLines.{Kept, kept}
use Rattle.pool_machine.specs.Answers.{IsOfMesh, IsServed}
use Rattle.schedule_reader.specs.declared.entry.Entry.{Entry}
use Rattle.schedule_reader.specs.declared.fault.ScheduleFault.{ScheduleFault}
use Rattle.schedule_reader.specs.declared.fault.ScheduleFault.TheVariants as F
use Rattle.schedule_reader.specs.Entries.{quantum_of}
use Rattle.schedule_reader.specs.Events.{events_of, total}
use Rattle.schedule_reader.specs.Plans.{IsEventOn}
use Rattle.schedule_reader.specs.Schedules.{Plan, begins_lossy, entries_of, first_fault, planned, planned_or_fault, quantum_fault, schedule_of, schedule_of_lines, with_quantum, without_wires}
use Rattle.std.specs.Option.{option_or}
use Rattle.schedule_reader.proofs.Laws.{length_events, plan_is_for}
use Rattle.run_loop.specs.RunOutput.{IsPlanOn}

-- an event of a schedule is of the mesh, and is served by a machine that is lossy as the schedule is

pub of_mesh : (l : Placement) (lossy : Bool) (e : Event) → IsEventOn l lossy e → IsOfMesh l e
of_mesh l lossy (V.Turn n) h = h
of_mesh l lossy (V.Link a b) h = h
of_mesh l lossy (V.Wire w a b) h = h.1

pub is_served : (l : Placement) (lossy : Bool) (e : Event) → IsEventOn l lossy e → IsServed lossy e
is_served l lossy (V.Turn n) h = tt
is_served l lossy (V.Link a b) h = tt
is_served l lossy (V.Wire w a b) h = h.0

-- the number of events

module _ (w h : ℕ) (cuts : List LinkId) where
  abbrev IsFew : Plan → Type 0
  IsFew plan = length plan.events ≤ 2000000

  abbrev made : Bool → ℕ → List Entry → Plan
  made lossy q es = record { quantum = q; lossy = lossy; events = events_of w h cuts lossy es }

  few_planned : (lossy : Bool) (q : ℕ) (es : List Entry) (plan : Plan) → planned w h cuts lossy q es ≡ Ok plan → IsFew plan
  few_planned lossy q es plan is = by (nat_le (total w h cuts lossy es) 2000000) refl is
    where
      by : (b : Bool) → nat_le (total w h cuts lossy es) 2000000 ≡ b
          → elim b as (λ _. Result Plan ScheduleFault) [ true ↦ Ok (made lossy q es) | false ↦ Err (F.TooManyEvents (total w h cuts lossy es)) ] ≡ Ok plan → IsFew plan
      by true few e =
          let same : made lossy q es ≡ plan = cc in
          let n : length (events_of w h cuts lossy es) ≡ total w h cuts lossy es = length_events w h cuts lossy es in
          let m : total w h cuts lossy es ≤ 2000000 = grind (arith, nat_tests, few) in
          subst IsFew same (omega (arith, n, m))
      by false few e = absurd (cc)

  few_or_fault : (lossy : Bool) (q : ℕ) (f : Option ScheduleFault) (es : List Entry) (plan : Plan) → planned_or_fault w h cuts lossy q f es ≡ Ok plan → IsFew plan
  few_or_fault lossy q None es plan is = few_planned lossy q es plan is
  few_or_fault lossy q (Some f) es plan is = absurd (cc)

  few_behind : (line : ℕ) (o : Option ℕ) (ks : List Kept) (plan : Plan) → with_quantum w h cuts line o ks ≡ Ok plan → IsFew plan
  few_behind line None ks plan is = absurd (cc)
  few_behind line (Some q) ks plan is =
      let lossy = begins_lossy ks in
      let rest = without_wires ks in
      few_or_fault lossy q (option_or (quantum_fault line (Some q)) (first_fault w h cuts lossy rest)) (entries_of lossy rest) plan is

  few_lines : (count : ℕ) (ks : List Kept) (plan : Plan) → schedule_of_lines w h cuts count ks ≡ Ok plan → IsFew plan
  few_lines count [] plan is = absurd (cc)
  few_lines count (k ∷ ks) plan is = few_behind k.line (quantum_of k.words) ks plan is

pub plan_is_on : (l : Placement) (s : Text) (plan : Plan) → schedule_of l.width l.height l.cuts s ≡ Ok plan → IsPlanOn l plan
plan_is_on l s plan h =
    let of = plan_is_for l s plan h in
    record { quantum = of.quantum; events = of.events; count = few_lines l.width l.height l.cuts (length (lines s)) (kept s) plan h }
