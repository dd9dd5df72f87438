use Rattle.std.proofs.Common.{◌∷◌, ◌∙◌, ap, Some, arith}
use Rattle.run_types.specs.declared.types.Value.TheVariants as V
use Rattle.code_semantics.specs.Frames.{next, silent}
use Rattle.node_heap.specs.Heaps.{top_at}
use Rattle.object_interp.proofs.moves.run_silent.Goals as goal

pub push_next-requires-clause-place : goal.push_next-requires-clause-place
push_next-requires-clause-place c =
    let f = top_at c.args.heap.now c.args.slot in
    (c.requires.next (next f (V.Int c.in-PushInt.value ∷ f.operands)) (ap (λ i. silent f (Some i)) c.in-PushInt.is)).0

pub push_next-requires-clause-room : goal.push_next-requires-clause-room
push_next-requires-clause-room c =
    let f = top_at c.args.heap.now c.args.slot in
    let few = (c.requires.next (next f (V.Int c.in-PushInt.value ∷ f.operands)) (ap (λ i. silent f (Some i)) c.in-PushInt.is)).1 in
    omega (arith, few)

pub push_next-requires-in-PushBool-clause-place : goal.push_next-requires-in-PushBool-clause-place
push_next-requires-in-PushBool-clause-place c =
    let f = top_at c.args.heap.now c.args.slot in
    (c.requires.next (next f (V.Bool c.in-PushBool.value ∷ f.operands)) (ap (λ i. silent f (Some i)) c.in-PushBool.is)).0

pub push_next-requires-in-PushBool-clause-room : goal.push_next-requires-in-PushBool-clause-room
push_next-requires-in-PushBool-clause-room c =
    let f = top_at c.args.heap.now c.args.slot in
    let few = (c.requires.next (next f (V.Bool c.in-PushBool.value ∷ f.operands)) (ap (λ i. silent f (Some i)) c.in-PushBool.is)).1 in
    omega (arith, few)

pub push_next-requires-in-PushNil-clause-place : goal.push_next-requires-in-PushNil-clause-place
push_next-requires-in-PushNil-clause-place c =
    let f = top_at c.args.heap.now c.args.slot in
    (c.requires.next (next f (V.Nil ∷ f.operands)) (ap (λ i. silent f (Some i)) c.in-PushNil.is)).0

pub push_next-requires-in-PushNil-clause-room : goal.push_next-requires-in-PushNil-clause-room
push_next-requires-in-PushNil-clause-room c =
    let f = top_at c.args.heap.now c.args.slot in
    let few = (c.requires.next (next f (V.Nil ∷ f.operands)) (ap (λ i. silent f (Some i)) c.in-PushNil.is)).1 in
    omega (arith, few)

pub pass_value-requires-clause-next : goal.pass_value-requires-clause-next
pass_value-requires-clause-next c g e =
    let f = top_at c.args.heap.now c.args.slot in
    (c.requires.next g (ap (λ i. silent f (Some i)) c.in-Post.is ∙ e)).0
