use Rattle.std.proofs.Common.{[], is_ok, arith}
use Rattle.patterns.specs.Rows.{with_rows}
use Rattle.patterns.specs.declared.node.Row.{Row}
use Rattle.patterns.proofs.RowFacts.{kept_right, pushed_grows, pushed_has, right_row}
use Rattle.patterns.proofs.table.PatternTable.put.Goals as goal

pub invariant_of-self-2 : goal.invariant_of-self-2
invariant_of-self-2 c =
    let rs = c.args.self.now.rows.items in
    let row : Row = record { node = c.args.node; nullable = c.nullable.result; void = c.void.result } in
    record {
      right = kept_right rs c.push.new.self.items row (is_ok c.push.result) c.push.ensures.items c.args.self.now.right (right_row (with_rows [] rs) row c.requires c.nullable.ensures c.void.ensures);
    }

pub returns-clause-grown : goal.returns-clause-grown
returns-clause-grown c =
    let row : Row = record { node = c.args.node; nullable = c.nullable.result; void = c.void.result } in
    pushed_grows c.args.self.now.rows.items c.push.new.self.items row c.in-Ok-push.ensures.items

pub returns-clause-number : goal.returns-clause-number
returns-clause-number c =
    let row : Row = record { node = c.args.node; nullable = c.nullable.result; void = c.void.result } in
    pushed_has c.args.self.now.rows.items c.push.new.self.items row c.len-number.result (omega (arith, c.len-number.ensures)) c.in-Ok-push.ensures.items
