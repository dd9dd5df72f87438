use Rattle.std.proofs.Common.{◌≡◌, ◌∙◌, ◌+◌, suc, rules, arith}
use Rattle.code_typing.specs.declared.cell.Cell.{Cell}
use Rattle.code_typing.specs.Chained.{depth_of}
use Rattle.code_typing.proofs.Cells.{chained_after, depth_is, kept_after, stack_after}
use Rattle.code_typing.proofs.Tops.{below_number}
use Rattle.code_typing.proofs.cell.Stacks.push.Goals as goal

pub overflow_add-depth : goal.overflow_add-depth
overflow_add-depth c =
    let d = c.depth-depth.ensures in
    let b = below_number c.args.self.now c.args.below in
    let h = c.requires in
    let small = c.args.self.now.cells.small in
    let ok = c.args.self.now.cells.ok in
    omega (arith, d, b, h, small, ok)

pub invariant_of-self : goal.invariant_of-self
invariant_of-self c =
    let s = c.args.self.now in
    let x : Cell = record { sort = c.args.sort; below = c.args.below; depth = c.depth-depth.result + 1 } in
    let deep : x.depth ≡ suc (depth_of s.cells.items x.below) = (let d = c.depth-depth.ensures ∙ depth_is s.cells.items s.chained c.args.below in omega (arith, d)) in
    record { chained = chained_after s.cells.items s.chained x c.requires deep c.push_cell.result c.push_cell.new.cells.items c.push_cell.ensures.ok c.push_cell.ensures.err }

pub returns-clause-stack : goal.returns-clause-stack
returns-clause-stack c =
    let s = c.args.self.now in
    let x : Cell = record { sort = c.args.sort; below = c.args.below; depth = c.depth-depth.result + 1 } in
    let deep : x.depth ≡ suc (depth_of s.cells.items x.below) = (let d = c.depth-depth.ensures ∙ depth_is s.cells.items s.chained c.args.below in omega (arith, d)) in
    stack_after s.cells.items s.chained x c.requires deep c.push_cell.new.cells.items c.len.result c.in_ok-push_cell.ensures.ok (search rules)

pub returns-clause-kept : goal.returns-clause-kept
returns-clause-kept c =
    let s = c.args.self.now in
    let x : Cell = record { sort = c.args.sort; below = c.args.below; depth = c.depth-depth.result + 1 } in
    let deep : x.depth ≡ suc (depth_of s.cells.items x.below) = (let d = c.depth-depth.ensures ∙ depth_is s.cells.items s.chained c.args.below in omega (arith, d)) in
    λ n h. kept_after s.cells.items s.chained x c.requires deep c.push_cell.new.cells.items c.in_ok-push_cell.ensures.ok n h
