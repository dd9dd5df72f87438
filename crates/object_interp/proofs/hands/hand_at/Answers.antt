use Rattle.std.proofs.Common.{◌≡◌, ◌⊎◌, inl, inr, ◌∙◌, ap, ◌<◌, length, Some, arith}
use Rattle.code_semantics.specs.declared.unit.Instr.TheVariants as I
use Rattle.run_types.specs.declared.frames.CodeObject.{CodeObject}
use Rattle.code_semantics.specs.declared.unit.Unit.{Unit as Code}
use Rattle.node_heap.specs.Heaps.{object_at, top_in}
use Rattle.object_interp.proofs.InstructionFacts.{instr_known}
use Rattle.object_interp.proofs.hands.hand_at.Goals as goal

pub operator_hand-requires-clause-enough : goal.operator_hand-requires-clause-enough
operator_hand-requires-clause-enough c =
    let x = object_at c.args.heap.now c.args.slot in
    let known = instr_known c.args.unit.now c.requires.proper x c.requires.top (I.Oper c.in-Oper.op) (c.requires.at ∙ ap Some c.in-Oper.is) in
    omega (arith, known.enough)

pub value_at-requires-clause-place : goal.value_at-requires-clause-place
value_at-requires-clause-place c =
    let x = object_at c.args.heap.now c.args.slot in
    let known = instr_known c.args.unit.now c.requires.proper x c.requires.top (I.Branch c.in-Branch.field-0) (c.requires.at ∙ ap Some c.in-Branch.is) in
    omega (arith, known.enough)

pub value_at-requires-in-Ret-clause-place : goal.value_at-requires-in-Ret-clause-place
value_at-requires-in-Ret-clause-place c = by c.in-Ret.is
  where
    u : Code
    u = c.args.unit.now

    x : CodeObject
    x = object_at c.args.heap.now c.args.slot

    by : (c.args.instr.now ≡ I.Ret) ⊎ (c.args.instr.now ≡ I.Post) → 0 < length (top_in x.frames).operands
    by (inl e) = let known = instr_known u c.requires.proper x c.requires.top I.Ret (c.requires.at ∙ ap Some e) in omega (arith, known.enough)
    by (inr e) = let known = instr_known u c.requires.proper x c.requires.top I.Post (c.requires.at ∙ ap Some e) in omega (arith, known.enough)

pub value_at-requires-in-Send-clause-place : goal.value_at-requires-in-Send-clause-place
value_at-requires-in-Send-clause-place c =
    let x = object_at c.args.heap.now c.args.slot in
    let known = instr_known c.args.unit.now c.requires.proper x c.requires.top (I.Send c.in-Send.method c.in-Send.count) (c.requires.at ∙ ap Some c.in-Send.is) in
    omega (arith, known.enough)

pub last_values-requires-clause-few : goal.last_values-requires-clause-few
last_values-requires-clause-few c =
    let x = object_at c.args.heap.now c.args.slot in
    let known = instr_known c.args.unit.now c.requires.proper x c.requires.top (I.Send c.in-Send.method c.in-Send.count) (c.requires.at ∙ ap Some c.in-Send.is) in
    known.exists.1

pub last_values-requires-clause-enough : goal.last_values-requires-clause-enough
last_values-requires-clause-enough c =
    let x = object_at c.args.heap.now c.args.slot in
    let known = instr_known c.args.unit.now c.requires.proper x c.requires.top (I.Send c.in-Send.method c.in-Send.count) (c.requires.at ∙ ap Some c.in-Send.is) in
    omega (arith, known.enough)

pub value_at-requires-in-Async-clause-place : goal.value_at-requires-in-Async-clause-place
value_at-requires-in-Async-clause-place c =
    let x = object_at c.args.heap.now c.args.slot in
    let known = instr_known c.args.unit.now c.requires.proper x c.requires.top (I.Async c.in-Async.method c.in-Async.count) (c.requires.at ∙ ap Some c.in-Async.is) in
    omega (arith, known.enough)

pub last_values-requires-in-Ref-value_at-clause-few : goal.last_values-requires-in-Ref-value_at-clause-few
last_values-requires-in-Ref-value_at-clause-few c =
    let x = object_at c.args.heap.now c.args.slot in
    let known = instr_known c.args.unit.now c.requires.proper x c.requires.top (I.Async c.in-Async.method c.in-Async.count) (c.requires.at ∙ ap Some c.in-Async.is) in
    known.exists.1

pub last_values-requires-in-Ref-value_at-clause-enough : goal.last_values-requires-in-Ref-value_at-clause-enough
last_values-requires-in-Ref-value_at-clause-enough c =
    let x = object_at c.args.heap.now c.args.slot in
    let known = instr_known c.args.unit.now c.requires.proper x c.requires.top (I.Async c.in-Async.method c.in-Async.count) (c.requires.at ∙ ap Some c.in-Async.is) in
    omega (arith, known.enough)

pub value_at-requires-in-Write-clause-place : goal.value_at-requires-in-Write-clause-place
value_at-requires-in-Write-clause-place c =
    let x = object_at c.args.heap.now c.args.slot in
    let known = instr_known c.args.unit.now c.requires.proper x c.requires.top (I.Write) (c.requires.at ∙ ap Some c.in-Write.is) in
    omega (arith, known.enough)

pub overflow_cast-items : goal.overflow_cast-items
overflow_cast-items c =
    let x = object_at c.args.heap.now c.args.slot in
    let known = instr_known c.args.unit.now c.requires.proper x c.requires.top (I.Select c.in-Select.alts) (c.requires.at ∙ ap Some c.in-Select.is) in
    omega (arith, known.enough, known.few, ap length c.items.ensures)

pub select_hand-requires-clause-enough : goal.select_hand-requires-clause-enough
select_hand-requires-clause-enough c =
    let x = object_at c.args.heap.now c.args.slot in
    let known = instr_known c.args.unit.now c.requires.proper x c.requires.top (I.Select c.in-Select.alts) (c.requires.at ∙ ap Some c.in-Select.is) in
    omega (arith, known.enough, ap length c.items.ensures)
