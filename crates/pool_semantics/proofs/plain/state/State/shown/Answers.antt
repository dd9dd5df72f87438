use Rattle.std.proofs.Common.{◌∙◌, sym}
use Rattle.pool_syntax.specs.TreeOf.{program_of}
use Rattle.stepper_objects.specs.ObjectStates.{thing_object}
use Rattle.pool_semantics.specs.Plains.{configuration}
use Rattle.pool_semantics.proofs.Labels.{shown_doing, shown_missing, shown_faulted}
use Rattle.pool_semantics.proofs.plain.state.State.shown.Goals as goal

pub returns-then-not-contains_key : goal.returns-then-not-contains_key
returns-then-not-contains_key c =
    let s = c.args.self.now in
    sym (shown_missing (program_of s.program.now) s.objects (configuration s).messages c.args.object (sym c.contains_key.ensures ∙ c.if-not-contains_key.true))

pub returns-in-None : goal.returns-in-None
returns-in-None c =
    let s = c.args.self.now in
    sym (shown_faulted (program_of s.program.now) s.objects (configuration s).messages c.args.object (sym c.contains_key.ensures ∙ c.if-not-contains_key.false) c.in-None.ensures.none)

pub returns-in-Some : goal.returns-in-Some
returns-in-Some c =
    let s = c.args.self.now in
    c.show.ensures (thing_object c.in-Some.thing.now) ∙ sym (shown_doing (program_of s.program.now) s.objects (configuration s).messages c.args.object c.in-Some.thing.now c.in-Some.act c.in-Some.ensures.some)
