use Rattle.std.proofs.Common.{◌∙◌, sym}
use Rattle.std.proofs.Math.Logic.{∥∥₁_elim}
use Rattle.pool_syntax.specs.TreeOf.{program_of}
use Rattle.pool_semantics.specs.Plains.{configuration}
use Rattle.pool_semantics.proofs.AlwaysShown.{always_shown}
use Rattle.pool_semantics.proofs.SoundSteps.{right_now}
use Rattle.pool_semantics.proofs.plain.Plain.redex.Goals as goal

pub returns-in-None-clause-shown : goal.returns-in-None-clause-shown
returns-in-None-clause-shown c = λ h.
    let s = c.args.self.now.state in
    absurd (∥∥₁_elim c.args.self.now.typed (λ x y. absurd x) (λ f. always_shown (program_of s.program.now) (configuration s) c.args.object (f h) (sym c.shown.ensures ∙ c.in-None.is)))

pub returns-in-None-clause-right : goal.returns-in-None-clause-right
returns-in-None-clause-right c = λ h x.
    let s = c.args.self.now.state in
    right_now c.args.self.now.spent (program_of s.program.now) (configuration s) c.args.object x c.args.self.now.typed h

pub returns-in-Some-clause-right : goal.returns-in-Some-clause-right
returns-in-Some-clause-right c = λ h x.
    let s = c.args.self.now.state in
    right_now c.args.self.now.spent (program_of s.program.now) (configuration s) c.args.object x c.args.self.now.typed h
