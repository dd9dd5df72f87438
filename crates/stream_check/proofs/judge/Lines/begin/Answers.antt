use Rattle.std.proofs.Common.{true, refl, sym, ap, ◌∙◌, ℕ, replicate}
use Rattle.pool_syntax.specs.TreeOf.{program_of}
use Rattle.pool_relation.specs.Transition.{start}
use Rattle.stream_check.specs.declared.judge.Lines.{Lines}
use Rattle.stream_check.proofs.FillingSteps.{to_fill_begun, to_fill_first, to_fill_none}
use Rattle.stream_check.proofs.NextLine.{no_steps, ready_begun, ready_first, ready_without, ready_zero, with_steps}
use Rattle.stream_check.proofs.judge.Lines.begin.Goals as goal

pub returns-then-self-clause-ready : goal.returns-then-self-clause-ready
returns-then-self-clause-ready c = λ ls a. ready_begun (program_of c.args.program.now.program.now) ls c.args.line.now c.args.self.now a c.if-self.true

pub returns-in_default-clause-ready : goal.returns-in_default-clause-ready
returns-in_default-clause-ready c =
    λ ls a. ready_without (program_of c.args.program.now.program.now) ls c.args.line.now c.args.self.now a c.if-self.false
    (sym c.label_of.ensures ∙ c.in_default.is)

pub returns-then-steps-eq0-clause-ready : goal.returns-then-steps-eq0-clause-ready
returns-then-steps-eq0-clause-ready c =
    λ ls a. ready_zero (program_of c.args.program.now.program.now) ls c.args.line.now c.args.self.now a c.in-Some.steps c.if-self.false (sym c.in-Some.ensures) c.if-steps-eq0.true

pub returns-clause-ready : goal.returns-clause-ready
returns-clause-ready c =
    let p = program_of c.args.program.now.program.now in
    let j = c.args.self.now in
    let made = c.in_ok-self in
    let i : Lines = record { filling = record { plain = made.field-0; lines = j.filling.lines; last = j.filling.last }; begun = true; last = j.last } in
    λ ls a. ready_first p ls c.args.line.now j a c.in-Some.steps i c.if-self.false (sym c.in-Some.ensures) c.if-steps-eq0.false made.ensures.program made.ensures.fresh
    (ap (start p) (sym c.agent.ensures) ∙ made.ensures.start) refl refl

pub returns-then-self-clause-ready_to_fill : goal.returns-then-self-clause-ready_to_fill
returns-then-self-clause-ready_to_fill c = λ ls a own. to_fill_begun (program_of c.args.program.now.program.now) ls c.args.line.now c.args.self.now a c.if-self.true

pub returns-in_default-clause-ready_to_fill : goal.returns-in_default-clause-ready_to_fill
returns-in_default-clause-ready_to_fill c =
    let l = c.args.line.now in
    λ ls a own. to_fill_none (program_of c.args.program.now.program.now) ls l c.args.self.now a c.if-self.false (no_steps l (sym c.label_of.ensures ∙ c.in_default.is))

pub returns-then-steps-eq0-clause-ready_to_fill : goal.returns-then-steps-eq0-clause-ready_to_fill
returns-then-steps-eq0-clause-ready_to_fill c =
    let l = c.args.line.now in
    let s = c.in-Some.steps in
    λ ls a own. to_fill_none (program_of c.args.program.now.program.now) ls l c.args.self.now a c.if-self.false
    (with_steps l s (sym c.in-Some.ensures) ∙ ap (λ (n : ℕ). replicate n s.label) c.if-steps-eq0.true)

pub returns-clause-ready_to_fill : goal.returns-clause-ready_to_fill
returns-clause-ready_to_fill c =
    let p = program_of c.args.program.now.program.now in
    let j = c.args.self.now in
    let made = c.in_ok-self in
    let i : Lines = record { filling = record { plain = made.field-0; lines = j.filling.lines; last = j.filling.last }; begun = true; last = j.last } in
    λ ls a own. to_fill_first p ls c.args.line.now j a c.in-Some.steps i own c.if-self.false (sym c.in-Some.ensures) c.if-steps-eq0.false made.ensures.program made.ensures.fresh
    (ap (start p) (sym c.agent.ensures) ∙ made.ensures.start) refl refl refl refl
