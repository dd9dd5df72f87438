use Rattle.std.proofs.Math.Logic.{∥∥₁_map}
use Rattle.pool_syntax.specs.TreeOf.{program_of}
use Rattle.pool_semantics.specs.Plains.{configuration}
use Rattle.pool_semantics.proofs.SoundSteps.{sound_after, typed_now}
use Rattle.pool_semantics.proofs.plain.Plain.apply.Goals as goal

pub invariant_of-self-in-Ok-1 : goal.invariant_of-self-in-Ok-1
invariant_of-self-in-Ok-1 c =
    let z = rw c.in-Ok.is at c.step.ensures.step in
    record { typed = ∥∥₁_map c.args.self.now.typed (λ f h. sound_after c.in-Ok.made c.args.label.now c.args.self.now.state c.step.new.self z (f h)) }

pub returns-then-made-clause-typed : goal.returns-then-made-clause-typed
returns-then-made-clause-typed c =
    let z = rw c.in-Ok.is at c.step.ensures.step in
    let t = c.step.new.self in
    typed_now c.args.self.now.spent (program_of t.program.now) (configuration t)
    (∥∥₁_map c.args.self.now.typed (λ f h. sound_after c.in-Ok.made c.args.label.now c.args.self.now.state t z (f h)))

pub returns-else-made-clause-typed : goal.returns-else-made-clause-typed
returns-else-made-clause-typed c =
    let z = rw c.in-Ok.is at c.step.ensures.step in
    let t = c.step.new.self in
    typed_now c.args.self.now.spent (program_of t.program.now) (configuration t)
    (∥∥₁_map c.args.self.now.typed (λ f h. sound_after c.in-Ok.made c.args.label.now c.args.self.now.state t z (f h)))
