use Rattle.std.proofs.Common.{◌≡◌, true, false, rules}
use Rattle.std.specs.Prelude.{is_some}
use Rattle.object_code.proofs.ReadLoops.{table_again, table_grows, table_stays}
use Rattle.object_code.proofs.file_reader.add_name.Goals as goal

pub returns-then-is_some-clause-table : goal.returns-then-is_some-clause-table
returns-then-is_some-clause-table c =
    let e : is_some c.args.twice ≡ true = search rules in λ texts t. table_stays texts c.args.names.now c.args.text.now c.args.twice e t

pub returns-then-id-place-clause-table : goal.returns-then-id-place-clause-table
returns-then-id-place-clause-table c =
    let e : is_some c.args.twice ≡ false = search rules in
    λ texts t. table_again texts c.args.names.now c.add.new.self c.args.text.now c.args.twice c.count-place.result c.in_ok-id.id.0 e t c.count-place.ensures c.in_ok-id.ensures.place c.if-id-place.true

pub returns-else-id-place-clause-table : goal.returns-else-id-place-clause-table
returns-else-id-place-clause-table c =
    let e : is_some c.args.twice ≡ false = search rules in
    λ texts t. table_grows texts c.args.names.now c.add.new.self c.args.text.now c.args.twice c.count-place.result c.in_ok-id.id.0 e t c.count-place.ensures c.in_ok-id.ensures.place c.if-id-place.false
    c.in_ok-id.ensures.names
