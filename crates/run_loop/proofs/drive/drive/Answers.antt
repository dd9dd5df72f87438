use Rattle.std.proofs.Common.{◌≡◌, ◌≤◌, ℕ, Bool, length, refl, sym, subst, true, false, arith}
use Rattle.run_types.specs.declared.types.Placement.{Placement}
use Rattle.mesh_semantics.specs.Act.{act}
use Rattle.mesh_of_code.specs.Coded.{coded}
use Rattle.pool_machine.specs.Answers.{IsOfMesh, IsOutcome, IsServed}
use Rattle.pool_machine.specs.SentPackets.{nothing_sent}
use Rattle.run_types.specs.declared.types.Line.TheVariants as R
use Rattle.pool_machine.specs.declared.types.EventOutcome.{EventOutcome}
use Rattle.pool_machine.specs.AnswerOf.{answer_of}
use Rattle.pool_machine.specs.AnswerOf as O
use Rattle.run_loop.proofs.DriveLaws.{Keeps, begins, can_from_start, fills_up, first_cut, goes, in_table, named_cut, named_line, named_on, none_after, outcome_at, quiet_after, quiet_at}
use Rattle.run_loop.proofs.PlanLaws.{is_served, of_mesh}
use Rattle.run_loop.proofs.drive.drive.Goals as goal

-- behind the last event

at_end : (done last len all : ℕ) → done ≤ last → last ≤ done → last ≡ all → len ≡ all → done ≡ len
at_end done last len all h n a b = omega (arith, h, n, a, b)

all_done : (done len all : ℕ) → done ≡ len → len ≡ all → all ≤ done
all_done done len all a b = omega (arith, a, b)

pub loop-done-init : goal.loop-done-init
loop-done-init g c = λ c' d s.
    begins c.args.show c.args.machine.now.unit c.args.machine.now.placement c.args.schedule.now c' d c.args.machine.now c.args.asks.now _ refl refl c.requires.wired c.requires.fresh c.requires.unmoved c.requires.still s
    c.requires.posts c.in-Ok.ensures.whole

pub returns-then-is_quiet : goal.returns-then-is_quiet
returns-then-is_quiet g c = λ c' d s.
    let u = c.args.machine.now.unit in
    let l = c.args.machine.now.placement in
    let plan = c.args.schedule.now in
    let show = c.args.show in
    let m = c.loop-done.machine in
    let done = c.loop-done.done in
    let go = c.loop-done.invariant c' d s in
    let quiet = quiet_at show u l plan c' d m c.loop-done.asks done c.loop-done.faulted _ c.is_quiet.result true go (c.is_quiet.ensures go.config go.delay go.stands) c.if-is_quiet.true in
    quiet_after show u l plan c' d m c.loop-done.asks done done c.loop-done.faulted _ go quiet refl

pub event_into-requires-clause-mesh : goal.event_into-requires-clause-mesh
event_into-requires-clause-mesh g c =
    let under = c.requires.begun in
    let go = c.loop-done.invariant under.config (nothing_sent c.args.schedule.now.lossy) under.stands in
    let on = c.requires.loaded.planned.events c.loop-done.done c.event-event.result c.event-event.ensures in
    subst (λ (x : Placement). IsOfMesh x c.event-event.result) (sym go.placement) (of_mesh c.args.machine.now.placement c.args.schedule.now.lossy c.event-event.result on)

pub event_into-requires-clause-served : goal.event_into-requires-clause-served
event_into-requires-clause-served g c =
    let under = c.requires.begun in
    let go = c.loop-done.invariant under.config (nothing_sent c.args.schedule.now.lossy) under.stands in
    let on = c.requires.loaded.planned.events c.loop-done.done c.event-event.result c.event-event.ensures in
    subst (λ (b : Bool). IsServed b c.event-event.result) (sym go.wired) (is_served c.args.machine.now.placement c.args.schedule.now.lossy c.event-event.result on)

pub event_into-requires-clause-few : goal.event_into-requires-clause-few
event_into-requires-clause-few g c =
    let under = c.requires.begun in
    let made = (c.loop-done.invariant under.config (nothing_sent c.args.schedule.now.lossy) under.stands).made in
    let most = c.len-done-end.type_inv in
    let within = c.loop-done-test.true in
    omega (arith, made, most, within)

pub show_event-requires : goal.show_event-requires
show_event-requires g c =
    let u = c.args.machine.now.unit in
    let l = c.args.machine.now.placement in
    let plan = c.args.schedule.now in
    let show = c.args.show in
    let m = c.loop-done.machine in
    let done = c.loop-done.done in
    let under = c.requires.begun in
    let c' = under.config in
    let d = nothing_sent plan.lossy in
    let go = c.loop-done.invariant under.config (nothing_sent c.args.schedule.now.lossy) under.stands in
    let busy = quiet_at show u l plan c' d m c.loop-done.asks done c.loop-done.faulted _ c.is_quiet.result false go (c.is_quiet.ensures go.config go.delay go.stands) c.if-is_quiet.false in
    let e = c.event-event.result in
    let n = c.event_into.new.self in
    let out = outcome_at show u l plan c' d m n c.loop-done.asks done c.loop-done.faulted _ c.quantum.result e (O.Line (R.Event c.in-Line.number c.event-event.result c.event_into.new.room.what)) go c.quantum.ensures
    (subst (λ (r : EventOutcome). IsOutcome e m (answer_of r e c.event_into.new.room.what) n (act (coded m.unit) m.placement c.quantum.result go.config go.delay e)) c.in-Line.is (c.event_into.ensures go.config go.delay go.stands)) in
    let line = R.Event c.in-Line.number c.event-event.result c.event_into.new.room.what in
    let h = goes show u l plan c' d m n c.loop-done.asks done c.loop-done.faulted _ e line go c.event-event.ensures busy out in
    named_line show u l plan c' d c.args.names.now c.requires.table m n c.loop-done.asks done c.loop-done.faulted _ e line go h (can_from_start u l plan c' under.starts c.requires.loaded)

pub of_event-ask-requires : goal.of_event-ask-requires
of_event-ask-requires g c =
    let u = c.args.machine.now.unit in
    let l = c.args.machine.now.placement in
    let plan = c.args.schedule.now in
    let show = c.args.show in
    let m = c.loop-done.machine in
    let done = c.loop-done.done in
    let under = c.requires.begun in
    let c' = under.config in
    let d = nothing_sent plan.lossy in
    let go = c.loop-done.invariant under.config (nothing_sent c.args.schedule.now.lossy) under.stands in
    let busy = quiet_at show u l plan c' d m c.loop-done.asks done c.loop-done.faulted _ c.is_quiet.result false go (c.is_quiet.ensures go.config go.delay go.stands) c.if-is_quiet.false in
    let e = c.event-event.result in
    let n = c.event_into.new.self in
    let out = outcome_at show u l plan c' d m n c.loop-done.asks done c.loop-done.faulted _ c.quantum.result e (O.Line (R.Event c.in-Line.number c.event-event.result c.event_into.new.room.what)) go c.quantum.ensures
    (subst (λ (r : EventOutcome). IsOutcome e m (answer_of r e c.event_into.new.room.what) n (act (coded m.unit) m.placement c.quantum.result go.config go.delay e)) c.in-Line.is (c.event_into.ensures go.config go.delay go.stands)) in
    let line = R.Event c.in-Line.number c.event-event.result c.event_into.new.room.what in
    let h = goes show u l plan c' d m n c.loop-done.asks done c.loop-done.faulted _ e line go c.event-event.ensures busy out in
    in_table show u l plan c' d m n c.loop-done.asks done c.loop-done.faulted _ e line go h c.requires.loaded

pub returns-in-Err-show_event : goal.returns-in-Err-show_event
returns-in-Err-show_event g c = λ c' d s.
    let u = c.args.machine.now.unit in
    let l = c.args.machine.now.placement in
    let plan = c.args.schedule.now in
    let show = c.args.show in
    let m = c.loop-done.machine in
    let done = c.loop-done.done in
    let go = c.loop-done.invariant c' d s in
    let busy = quiet_at show u l plan c' d m c.loop-done.asks done c.loop-done.faulted _ c.is_quiet.result false go (c.is_quiet.ensures go.config go.delay go.stands) c.if-is_quiet.false in
    let e = c.event-event.result in
    let n = c.event_into.new.self in
    let out = outcome_at show u l plan c' d m n c.loop-done.asks done c.loop-done.faulted _ c.quantum.result e (O.Line (R.Event c.in-Line.number c.event-event.result c.event_into.new.room.what)) go c.quantum.ensures
    (subst (λ (r : EventOutcome). IsOutcome e m (answer_of r e c.event_into.new.room.what) n (act (coded m.unit) m.placement c.quantum.result go.config go.delay e)) c.in-Line.is (c.event_into.ensures go.config go.delay go.stands)) in
    let line = R.Event c.in-Line.number c.event-event.result c.event_into.new.room.what in
    let h = goes show u l plan c' d m n c.loop-done.asks done c.loop-done.faulted _ e line go c.event-event.ensures busy out in
    let kept : Keeps show u l plan c' d c.loop-done.asks c.of_event-ask.new.self line c.of_event-ask.result = record { number = c.of_event-ask.ensures.number; size = c.of_event-ask.ensures.size } in
    named_cut show u l plan c' d c.args.names.now c.requires.table m n c.loop-done.asks _ done c.loop-done.faulted _ _ e line c.of_event-ask.result c.in-Err-show_event.fault go h (refl, refl) kept c.in-Err-show_event.ensures.cut

pub returns-in-Full : goal.returns-in-Full
returns-in-Full g c = λ c' d s.
    let u = c.args.machine.now.unit in
    let l = c.args.machine.now.placement in
    let plan = c.args.schedule.now in
    let show = c.args.show in
    let m = c.loop-done.machine in
    let done = c.loop-done.done in
    let go = c.loop-done.invariant c' d s in
    let busy = quiet_at show u l plan c' d m c.loop-done.asks done c.loop-done.faulted _ c.is_quiet.result false go (c.is_quiet.ensures go.config go.delay go.stands) c.if-is_quiet.false in
    let e = c.event-event.result in
    let n = c.event_into.new.self in
    let out = outcome_at show u l plan c' d m n c.loop-done.asks done c.loop-done.faulted _ c.quantum.result e (O.Full c.in-Full.kind c.in-Full.node) go c.quantum.ensures
    (subst (λ (r : EventOutcome). IsOutcome e m (answer_of r e c.event_into.new.room.what) n (act (coded m.unit) m.placement c.quantum.result go.config go.delay e)) c.in-Full.is (c.event_into.ensures go.config go.delay go.stands)) in
    fills_up show u l plan c' d m n c.loop-done.asks done c.loop-done.faulted _ e c.in-Full.kind c.in-Full.node go c.event-event.ensures busy out

pub loop-done-preserved : goal.loop-done-preserved
loop-done-preserved g c = λ c' d s.
    let u = c.args.machine.now.unit in
    let l = c.args.machine.now.placement in
    let plan = c.args.schedule.now in
    let show = c.args.show in
    let m = c.loop-done.machine in
    let done = c.loop-done.done in
    let go = c.loop-done.invariant c' d s in
    let busy = quiet_at show u l plan c' d m c.loop-done.asks done c.loop-done.faulted _ c.is_quiet.result false go (c.is_quiet.ensures go.config go.delay go.stands) c.if-is_quiet.false in
    let e = c.event-event.result in
    let n = c.event_into.new.self in
    let out = outcome_at show u l plan c' d m n c.loop-done.asks done c.loop-done.faulted _ c.quantum.result e (O.Line (R.Event c.in-Line.number c.event-event.result c.event_into.new.room.what)) go c.quantum.ensures
    (subst (λ (r : EventOutcome). IsOutcome e m (answer_of r e c.event_into.new.room.what) n (act (coded m.unit) m.placement c.quantum.result go.config go.delay e)) c.in-Line.is (c.event_into.ensures go.config go.delay go.stands)) in
    let line = R.Event c.in-Line.number c.event-event.result c.event_into.new.room.what in
    let h = goes show u l plan c' d m n c.loop-done.asks done c.loop-done.faulted _ e line go c.event-event.ensures busy out in
    let kept : Keeps show u l plan c' d c.loop-done.asks c.of_event-ask.new.self line c.of_event-ask.result = record { number = c.of_event-ask.ensures.number; size = c.of_event-ask.ensures.size } in
    named_on show u l plan c' d c.args.names.now c.requires.table m n c.loop-done.asks _ done c.loop-done.faulted c.fault_so_far-faulted.result _ _ e line c.of_event-ask.result go h (refl, refl) kept c.in-Ok-show_event.ensures.whole (c.fault_so_far-faulted.ensures c.in-Line.number c.event-event.result)

pub returns-then-is_quiet-2 : goal.returns-then-is_quiet-2
returns-then-is_quiet-2 g c = λ c' d s.
    let u = c.args.machine.now.unit in
    let l = c.args.machine.now.placement in
    let plan = c.args.schedule.now in
    let show = c.args.show in
    let m = c.loop-done.machine in
    let done = c.loop-done.done in
    let go = c.loop-done.invariant c' d s in
    let quiet = quiet_at show u l plan c' d m c.loop-done.asks done c.loop-done.faulted _ c.is_quiet-2.result true go (c.is_quiet-2.ensures go.config go.delay go.stands) c.if-is_quiet-2.true in
    let same = at_end done c.len-done-end.result c.len-done.result (length plan.events) c.loop-done.auto.done-end c.loop-done-test.false c.len-done-end.ensures c.len-done.ensures in
    quiet_after show u l plan c' d m c.loop-done.asks done c.len-done.result c.loop-done.faulted _ go quiet same

pub returns : goal.returns
returns g c = λ c' d s.
    let u = c.args.machine.now.unit in
    let l = c.args.machine.now.placement in
    let plan = c.args.schedule.now in
    let show = c.args.show in
    let m = c.loop-done.machine in
    let done = c.loop-done.done in
    let go = c.loop-done.invariant c' d s in
    let busy = quiet_at show u l plan c' d m c.loop-done.asks done c.loop-done.faulted _ c.is_quiet-2.result false go (c.is_quiet-2.ensures go.config go.delay go.stands) c.if-is_quiet-2.false in
    let same = at_end done c.len-done-end.result c.len-done.result (length plan.events) c.loop-done.auto.done-end c.loop-done-test.false c.len-done-end.ensures c.len-done.ensures in
    let none = all_done done c.len-done.result (length plan.events) same c.len-done.ensures in
    none_after show u l plan c' d m c.loop-done.asks done c.len-done.result c.loop-done.faulted _ go none busy same

pub event-event-requires : goal.event-event-requires
event-event-requires g c = let a = c.len-done-end.ensures in let b = c.loop-done-test.true in omega (arith, a, b)

pub event_into-requires-clause-quantum : goal.event_into-requires-clause-quantum
event_into-requires-clause-quantum g c =
    subst (λ (q : ℕ). (1 ≤ q) × (q ≤ 10000)) (sym c.quantum.ensures) c.requires.loaded.planned.quantum

pub returns-in-Err : goal.returns-in-Err
returns-in-Err g c = λ c' d s.
    first_cut c.args.show c.args.machine.now.unit c.args.machine.now.placement c.args.schedule.now c' d c.args.machine.now _ c.in-Err.fault c.in-Err.ensures.cut
