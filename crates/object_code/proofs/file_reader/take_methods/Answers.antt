use Rattle.std.proofs.Common.{◌≡◌, ap, ◌∙◌, ◌++◌, ◌∷◌, [], arith}
use Rattle.std.proofs.lemmas.List.{length-append}
use Rattle.object_code.specs.Read.{read_list}
use Rattle.code_semantics.specs.Pairs.{pairs}
use Rattle.object_code.specs.Decode.{read_method}
use Rattle.object_code.proofs.ReadLoops.{list_goes_on, list_is_done, list_stops, pairs_push}
use Rattle.object_code.proofs.file_reader.take_methods.Goals as goal

pub returns-in-Err-take_method-clause-given : goal.returns-in-Err-take_method-clause-given
returns-in-Err-take_method-clause-given c =
    list_stops read_method c.in-Err-take_method.fault (pairs c.loop.methods c.loop.kinds) c.in-Ok.taken.0 c.loop.counter c.loop.rest.now (read_list read_method c.args.bytes.now) c.loop-test.true
    c.in-Err-take_method.ensures c.loop.invariant.0

pub loop-preserved : goal.loop-preserved
loop-preserved c =
    let x = c.in-Ok-take_method.taken.0 in
    let y = c.in-Ok-take_method.taken.1 in
    let xs = c.loop.methods in
    let ys = c.loop.kinds in
    let both : pairs c.push_both.new.items c.push_both.new.others ≡ pairs xs ys ++ (x, y) ∷ [] =
    ap (λ zs. pairs zs c.push_both.new.others) c.in-Ok-push_both.ensures.item ∙ ap (pairs (xs ++ x ∷ [])) c.in-Ok-push_both.ensures.other ∙ pairs_push xs ys x y c.loop.invariant.1 in
    let z = length-append xs (x ∷ []) in
    let w = length-append ys (y ∷ []) in (
      rw both (
          list_goes_on read_method (pairs xs ys) c.in-Ok.taken.0 c.loop.counter c.loop.rest.now (x, y) c.in-Ok-take_method.taken.2.now (read_list read_method c.args.bytes.now) c.loop-test.true
          c.in-Ok-take_method.ensures c.loop.invariant.0
          ),
      rw (c.in-Ok-push_both.ensures.item, c.in-Ok-push_both.ensures.other) (omega (arith, z, w, c.loop.invariant.1)),
    )

pub returns-clause-given : goal.returns-clause-given
returns-clause-given c =
    list_is_done read_method (pairs c.loop.methods c.loop.kinds) c.in-Ok.taken.0 c.loop.counter c.loop.rest.now (read_list read_method c.args.bytes.now) c.loop-test.false c.loop.invariant.0
