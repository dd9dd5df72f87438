use Rattle.std.proofs.Common.{sym, ap, ◌++◌, drop, arith}
use Rattle.std.proofs.lemmas.List.{at_drop_all}
use Rattle.object_code.specs.FileBytes.{items_bytes, method_bytes, number_bytes}
use Rattle.code_semantics.specs.Shaped.{MethodIsShort, MethodKindsAreShort}
use Rattle.code_semantics.specs.Pairs.{pairs}
use Rattle.object_code.proofs.SequentialWrites.{as_many_pairs, each_holds, pair_at, rests_begin, rests_end, rests_step, same, then}
use Rattle.object_code.proofs.file_writer.put_methods.Goals as goal

pub put_method-requires-clause-method : goal.put_method-requires-clause-method
put_method-requires-clause-method g c = each_holds MethodIsShort c.args.methods.now c.loop-place.place c.index-methods-place.result (omega arith) c.index-methods-place.is c.requires.methods.1

pub put_method-requires-clause-kinds : goal.put_method-requires-clause-kinds
put_method-requires-clause-kinds g c = each_holds MethodKindsAreShort c.args.kinds.now c.loop-place.place c.index-kinds-place.result (omega (arith, c.requires.many)) c.index-kinds-place.is c.requires.kinds.1

pub loop-place-init : goal.loop-place-init
loop-place-init g c = rests_begin _ _

pub loop-place-preserved : goal.loop-place-preserved
loop-place-preserved g c =
    rests_step _ _ _ _ _ _ _ c.loop-place.invariant
    (pair_at method_bytes c.args.methods.now c.args.kinds.now c.loop-place.place c.index-methods-place.result c.index-kinds-place.result (omega arith) (omega (arith, c.requires.many)) c.index-methods-place.is c.index-kinds-place.is) c.put_method.ensures

pub returns : goal.returns
returns g c =
    same _ _ _ _ (ap (λ n. number_bytes n ++ items_bytes method_bytes (pairs c.args.methods.now c.args.kinds.now)) (sym (as_many_pairs c.args.methods.now c.args.kinds.now (c.requires.many))))
    (then _ _ _ _ _ c.put_four.ensures
    (rests_end _ _ _ _ c.loop-place.invariant
    (at_drop_all (λ zs. items_bytes method_bytes (pairs zs (drop c.loop-place.place c.args.kinds.now))) c.args.methods.now c.loop-place.place (omega arith))))
