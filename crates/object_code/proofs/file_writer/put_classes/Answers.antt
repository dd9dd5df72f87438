use Rattle.std.proofs.Common.{sym, ap, ◌++◌, drop, arith}
use Rattle.std.proofs.lemmas.List.{at_drop_all}
use Rattle.object_code.specs.FileBytes.{items_bytes, class_bytes, number_bytes}
use Rattle.code_semantics.specs.Shaped.{ClassIsShort, ClassKindsAreShort}
use Rattle.code_semantics.specs.Pairs.{pairs}
use Rattle.object_code.proofs.SequentialWrites.{as_many_pairs, each_holds, pair_at, rests_begin, rests_end, rests_step, same, shaped_many, shaped_there, then}
use Rattle.object_code.proofs.file_writer.put_classes.Goals as goal

pub bounds-kinds-place : goal.bounds-kinds-place
bounds-kinds-place g c = omega (arith, shaped_many c.args.classes.now c.args.kinds.now c.requires.shaped)

pub put_class-requires-clause-class : goal.put_class-requires-clause-class
put_class-requires-clause-class g c = each_holds ClassIsShort c.args.classes.now c.loop-place.place c.index-classes-place.result (omega arith) c.index-classes-place.is c.requires.classes.1

pub put_class-requires-clause-kinds : goal.put_class-requires-clause-kinds
put_class-requires-clause-kinds g c = each_holds ClassKindsAreShort c.args.kinds.now c.loop-place.place c.index-kinds-place.result (omega (arith, shaped_many c.args.classes.now c.args.kinds.now c.requires.shaped)) c.index-kinds-place.is c.requires.kinds.1

pub put_class-requires-clause-many : goal.put_class-requires-clause-many
put_class-requires-clause-many g c = shaped_there c.args.classes.now c.args.kinds.now c.loop-place.place c.index-classes-place.result c.index-kinds-place.result c.requires.shaped (omega arith) c.index-classes-place.is c.index-kinds-place.is

pub loop-place-init : goal.loop-place-init
loop-place-init g c = rests_begin _ _

pub loop-place-preserved : goal.loop-place-preserved
loop-place-preserved g c =
    rests_step _ _ _ _ _ _ _ c.loop-place.invariant
    (pair_at class_bytes c.args.classes.now c.args.kinds.now c.loop-place.place c.index-classes-place.result c.index-kinds-place.result (omega arith) (omega (arith, shaped_many c.args.classes.now c.args.kinds.now c.requires.shaped)) c.index-classes-place.is c.index-kinds-place.is) c.put_class.ensures

pub returns : goal.returns
returns g c =
    same _ _ _ _ (ap (λ n. number_bytes n ++ items_bytes class_bytes (pairs c.args.classes.now c.args.kinds.now)) (sym (as_many_pairs c.args.classes.now c.args.kinds.now (shaped_many c.args.classes.now c.args.kinds.now c.requires.shaped))))
    (then _ _ _ _ _ c.put_four.ensures
    (rests_end _ _ _ _ c.loop-place.invariant
    (at_drop_all (λ zs. items_bytes class_bytes (pairs zs (drop c.loop-place.place c.args.kinds.now))) c.args.classes.now c.loop-place.place (omega arith))))
