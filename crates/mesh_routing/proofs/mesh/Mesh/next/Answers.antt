use Rattle.std.proofs.Common.{rules, ◌≡◌, ◌+◌, ◌-◌}
use Rattle.run_types.specs.Paths.{toward}
use Rattle.mesh_routing.proofs.NeighbourSteps.{stepped}
use Rattle.mesh_routing.proofs.mesh.Mesh.next.Goals as goal

pub returns-then-at-to-2-clause-link : goal.returns-then-at-to-2-clause-link
returns-then-at-to-2-clause-link c =
    let e : c.args.at + c.args.self.now.width ≡ toward c.args.self.now.width c.args.at c.args.to = search rules in
    stepped c.args.self.now.width c.args.self.now.height c.args.at c.args.to (c.args.at + c.args.self.now.width) c.args.self.now.wide.0 c.requires.at c.requires.to c.if-at-to.false e

pub returns-else-at-to-2-clause-link : goal.returns-else-at-to-2-clause-link
returns-else-at-to-2-clause-link c =
    let e : c.args.at - c.args.self.now.width ≡ toward c.args.self.now.width c.args.at c.args.to = search rules in
    stepped c.args.self.now.width c.args.self.now.height c.args.at c.args.to (c.args.at - c.args.self.now.width) c.args.self.now.wide.0 c.requires.at c.requires.to c.if-at-to.false e

pub returns-then-column-goal-2-clause-link : goal.returns-then-column-goal-2-clause-link
returns-then-column-goal-2-clause-link c =
    let e : c.args.at + 1 ≡ toward c.args.self.now.width c.args.at c.args.to = search rules in
    stepped c.args.self.now.width c.args.self.now.height c.args.at c.args.to (c.args.at + 1) c.args.self.now.wide.0 c.requires.at c.requires.to c.if-at-to.false e

pub returns-else-column-goal-2-clause-link : goal.returns-else-column-goal-2-clause-link
returns-else-column-goal-2-clause-link c =
    let e : c.args.at - 1 ≡ toward c.args.self.now.width c.args.at c.args.to = search rules in
    stepped c.args.self.now.width c.args.self.now.height c.args.at c.args.to (c.args.at - 1) c.args.self.now.wide.0 c.requires.at c.requires.to c.if-at-to.false e
