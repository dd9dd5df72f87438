use Rattle.std.proofs.Common.{◌∷◌, [], arith}
use Rattle.std.proofs.lemmas.List.{length-append}
use Rattle.object_code.specs.Read.{read_list}
use Rattle.object_code.proofs.ReadLoops.{list_goes_on, list_is_done, list_stops}
use Rattle.object_code.proofs.file_reader.take_list.Goals as goal

pub returns-in-Err-take_item-clause-given : goal.returns-in-Err-take_item-clause-given
returns-in-Err-take_item-clause-given g c =
    list_stops g.T.Listed.reader c.in-Err-take_item.fault c.loop.items c.in-Ok.taken.0 c.loop.counter c.loop.rest.now (read_list g.T.Listed.reader c.args.bytes.now) c.loop-test.true
    c.in-Err-take_item.ensures c.loop.invariant.0

pub loop-preserved : goal.loop-preserved
loop-preserved g c =
    let x = c.in-Ok-take_item.taken.0 in
    let z = length-append c.loop.items (x ∷ []) in
    rw c.in-Ok-push.ensures.ok (
      list_goes_on g.T.Listed.reader c.loop.items c.in-Ok.taken.0 c.loop.counter c.loop.rest.now x c.in-Ok-take_item.taken.1.now (read_list g.T.Listed.reader c.args.bytes.now) c.loop-test.true
          c.in-Ok-take_item.ensures c.loop.invariant.0,
      omega (arith, z, c.loop.invariant.1),
      omega (arith, z, c.loop.invariant.1, c.loop-test.true),
    )

pub returns-clause-given : goal.returns-clause-given
returns-clause-given g c =
    list_is_done g.T.Listed.reader c.loop.items c.in-Ok.taken.0 c.loop.counter c.loop.rest.now (read_list g.T.Listed.reader c.args.bytes.now) c.loop-test.false c.loop.invariant.0

pub returns-clause-short : goal.returns-clause-short
returns-clause-short g c = omega (arith, c.loop.invariant.2)
