-- Facts that have at most one proof.
use Rattle.std.proofs.Common.{refl, List, [], ◌∷◌}
use denote.Struct.Props.{props}
use Rattle.code_semantics.specs.declared.unit.MethodCode.{MethodCode}
use Rattle.code_semantics.specs.declared.unit.ClassCode.{ClassCode}
use Rattle.code_semantics.specs.declared.file.UnitFile.{UnitFile}
use Rattle.code_semantics.specs.declared.file.ClassKinds.{ClassKinds}
use Rattle.code_semantics.specs.declared.file.MethodKinds.{MethodKinds}
use Rattle.code_semantics.specs.Shaped.{AreShapedMethods, AreShapedClasses, IsShaped}

methods_fact : (ms : List MethodCode) (ss : List MethodKinds) → IsProp (AreShapedMethods ms ss)
methods_fact [] [] = λ x y. refl
methods_fact [] (s ∷ ss) = λ x y. absurd x
methods_fact (m ∷ ms) [] = λ x y. absurd x
methods_fact (m ∷ ms) (s ∷ ss) = let rest = methods_fact ms ss in hlevel (rest, props)

classes_fact : (ks : List ClassCode) (qs : List ClassKinds) → IsProp (AreShapedClasses ks qs)
classes_fact [] [] = λ x y. refl
classes_fact [] (q ∷ qs) = λ x y. absurd x
classes_fact (k ∷ ks) [] = λ x y. absurd x
classes_fact (k ∷ ks) (q ∷ qs) =
    let rest = classes_fact ks qs in
    let methods = methods_fact k.methods q.methods in
    hlevel (rest, methods, props)

pub shaped_is_fact : (f : UnitFile) → IsProp (IsShaped f)
shaped_is_fact f = classes_fact f.unit.classes f.kinds.classes
