-- The rows of the report of `pool why`: the status of each object of a configuration.
use Rattle.std.specs.Prelude.{ℕ, List, map}
use Rattle.pool_syntax.specs.Terms.{ProgramTree}
use Rattle.run_types.specs.declared.types.Standing.{Standing}
use Rattle.run_types.specs.declared.types.Standing.TheVariants as Z
use Rattle.pool_relation.specs.Action.{Object}
use Rattle.mesh_semantics.specs.Act.{id}
use Rattle.mesh_semantics.specs.Config.{Config}
use Rattle.mesh_semantics.specs.Delay.{Delay}
use Rattle.mesh_semantics.specs.Language.{Language}
use Rattle.mesh_semantics.specs.Standing as T
use Rattle.mesh_semantics.specs.Standing.{standing}
use Rattle.mesh_of_terms.specs.Terms.{terms}
use Rattle.wait_report.specs.declared.rows.ObjectRow.{ObjectRow}

-- the status of an object, with numbers of names as name identifiers
abbrev pub standing_word : T.Standing → Standing
standing_word T.Ready = Z.Ready
standing_word T.Finished = Z.Finished
standing_word (T.Faulted e) = Z.Faulted e
standing_word (T.Calls b m) = Z.Calls b (id m)
standing_word (T.Creates k node) = Z.Creates (id k) node
standing_word T.Due = Z.Due
standing_word T.Awaits = Z.Awaits

-- the row of an object with its name, in any language of objects
abbrev pub row_in : {S : Type 0} → Language S → Delay → ℕ × S → ObjectRow
row_in g d e = record { name = e.0; class = id (g.class e.1); standing = standing_word (standing g d e.0 e.1) }

-- the row of an object of a program
abbrev pub row_of : ProgramTree → Delay → ℕ × Object → ObjectRow
row_of p d e = row_in (terms p) d e

-- the rows of all objects of a configuration, by rising names
abbrev pub rows_of : ProgramTree → Config Object → Delay → List ObjectRow
rows_of p c d = map (row_of p d) c.objects
