use Rattle.std.proofs.Common.{◌≡◌, ◌⊎◌, ◌∙◌, Bool, List, None, ℕ, drop, get_or, subst, sym}
use Rattle.run_types.specs.declared.types.Label.TheVariants as L
use Rattle.pool_relation.specs.Transition.{transition}
use Rattle.pool_semantics.specs.PlainOf.{configuration_of, program_tree}
use Rattle.stream_check.specs.FillProgress.{Fills, IsAmong}
use Rattle.stream_check.proofs.LocalRuns.{among_all}
use Rattle.stream_check.proofs.LoopSteps.{settled_all, settled_full, settling_first, settling_more}
use Rattle.stream_check.proofs.filling.Filling.fill_all.Goals as goal

pub loop-object-init : goal.loop-object-init
loop-object-init c =
    let f = c.args.self.now in
    let p = program_tree f.plain in
    let d = configuration_of f.plain in
    settling_first c.deref-object-items.result.now f (λ q.
    subst (λ (os : List ℕ). (transition p d (L.Local q) ≡ None) ⊎ IsAmong q os) (sym (c.deref-object-items.ensures.value ∙ c.in_ok-objects.ensures))
    (among_all p d q))

pub returns-then-branch : goal.returns-then-branch
returns-then-branch c =
    let l = c.loop-object in
    let os = c.deref-object-items.result.now in
    let o = get_or os l.object-index 0 in
    settled_full (drop l.object-index os) o c.args.self.now l.self c.fill.new.self l.invariant (subst (λ (b : Bool). Fills l.self c.fill.new.self o b) c.if-branch.true c.in_ok-fill.ensures)

pub loop-object-preserved : goal.loop-object-preserved
loop-object-preserved c =
    let l = c.loop-object in
    let os = c.deref-object-items.result.now in
    settling_more os l.object-index c.args.self.now l.self c.fill.new.self c.loop-object-test.true l.invariant
    (subst (λ (b : Bool). Fills l.self c.fill.new.self (get_or os l.object-index 0) b) c.if-branch.false c.in_ok-fill.ensures)

pub returns : goal.returns
returns c =
    let l = c.loop-object in
    settled_all c.deref-object-items.result.now l.object-index c.args.self.now l.self c.loop-object-test.false l.invariant
