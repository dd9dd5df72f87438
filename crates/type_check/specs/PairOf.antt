-- The token and the number of a class fault of the checker.
use Rattle.pool_syntax.specs.FaultNumbers as N
use Rattle.pool_syntax.specs.Typing.{FaultAt}
use Rattle.type_check.specs.declared.fault.ClassFault.{ClassFault}
use Rattle.type_check.specs.declared.fault.ClassFault.TheVariants as F

-- the token and the number; out of memory is no fault of the program, and has the number after theirs, 13
abbrev pub pair_of : ClassFault → FaultAt
pair_of (F.ClassTwice t) = (t, N.class_twice)
pair_of (F.UnknownClass t) = (t, N.unknown_class)
pair_of (F.VariableTwice t) = (t, N.variable_twice)
pair_of (F.MethodTwice t) = (t, N.method_twice)
pair_of (F.LocalTwice t) = (t, N.local_twice)
pair_of (F.UnknownVariable t) = (t, N.unknown_variable)
pair_of (F.UnknownMethod t) = (t, N.unknown_method)
pair_of (F.ArgumentCount t) = (t, N.argument_count)
pair_of (F.TypeDiffers t) = (t, N.type_differs)
pair_of (F.NoResult t) = (t, N.no_result)
pair_of (F.AnswerName t) = (t, N.answer_name)
pair_of (F.Limit t) = (t, N.limit)
pair_of F.Memory = (0, 13)
