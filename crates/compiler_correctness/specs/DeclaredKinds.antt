-- The file of a program: its code, and the kinds that it declares.
use Rattle.std.specs.Prelude.{List, map, ◌++◌}
use Rattle.text_scan.specs.Text.{Text}
use Rattle.run_types.specs.declared.types.Kind.{Kind}
use Rattle.pool_syntax.specs.declared.tree.Var.{Var}
use Rattle.pool_syntax.specs.Terms.{MethodTree, ClassTree, ProgramTree}
use Rattle.code_semantics.specs.declared.file.UnitFile.{UnitFile}
use Rattle.code_semantics.specs.declared.file.ClassKinds.{ClassKinds}
use Rattle.code_semantics.specs.declared.file.MethodKinds.{MethodKinds}
use Rattle.pool_compile.specs.Code.{code}

abbrev pub kinds_of : List Var → List Kind
kinds_of vs = map (λ v. v.kind) vs

-- the kinds of the parameters and then the locals, and of the result
abbrev pub method_kinds : MethodTree → MethodKinds
method_kinds m = record { temps = kinds_of (m.params ++ m.locals); result = m.outcome }

abbrev pub class_kinds : ClassTree → ClassKinds
class_kinds k = record { vars = kinds_of k.vars; methods = map method_kinds k.methods }

-- the file of a program with the table of its names
abbrev pub file_of : List Text → ProgramTree → UnitFile
file_of names p = record { unit = record { names = names; classes = code p }; kinds = record { classes = map class_kinds p } }
