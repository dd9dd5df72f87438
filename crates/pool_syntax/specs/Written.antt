-- Programs as written: no method is being executed, each operator has its number of operands, and a method without a
-- result has the value nil.
use Rattle.std.specs.Prelude.{List, [], ◌∷◌, Bool, true, ◌&&◌}
use Rattle.pool_syntax.specs.Terms.{MethodTree, ProgramTree}
use Rattle.pool_syntax.specs.SourceParts.{is_source, are_source_statements, is_value_for}

-- whether methods may be those of a program text
abbrev pub are_written : List MethodTree → Bool
are_written [] = true
are_written (m ∷ ms) =
    are_source_statements m.body && is_source m.value && is_value_for m.outcome m.value && are_source_statements m.post && are_written ms

-- whether a program may be that of a text
abbrev pub is_written : ProgramTree → Bool
is_written [] = true
is_written (k ∷ ks) = are_source_statements k.body && are_written k.methods && is_written ks
