-- Renamings of programs and labels, beside those of configurations.
use Rattle.std.specs.Prelude.{◌≡◌, ℕ, map}
use Rattle.run_types.specs.declared.types.Label.{Label}
use Rattle.run_types.specs.declared.types.Label.TheVariants as L
use Rattle.pool_syntax.specs.Terms.{MethodTree, ClassTree, ProgramTree}
pub use Rattle.reachability.specs.Renaming.{Renaming, renamed_value, renamed_item}
pub use Rattle.search_laws.specs.RenamedConfigurations.{renamed_store, renamed_name, renamed_expression, renamed_expressions, renamed_statement, renamed_statements, renamed_alternatives, renamed_object, renamed_message, IsRenamed}

-- A program with each name mapped. A text names no object, so that it is then the program itself.
abbrev pub renamed_method : (ℕ → ℕ) → MethodTree → MethodTree
renamed_method f m = record m { body = renamed_statements f m.body; value = renamed_expression f m.value; post = renamed_statements f m.post }

abbrev pub renamed_class : (ℕ → ℕ) → ClassTree → ClassTree
renamed_class f k = record k { methods = map (renamed_method f) k.methods; body = renamed_statements f k.body }

abbrev pub renamed_program : (ℕ → ℕ) → ProgramTree → ProgramTree
renamed_program f p = map (renamed_class f) p

abbrev pub renamed_label : (ℕ → ℕ) → Label → Label
renamed_label f (L.Local o) = L.Local (f o)
renamed_label f (L.New o n k) = L.New (f o) (f n) k
renamed_label f (L.Answer b o m args) = L.Answer (f b) (f o) m (map (renamed_value f) args)
renamed_label f (L.Return b o v) = L.Return (f b) (f o) (renamed_value f v)
renamed_label f (L.Send o b m args) = L.Send (f o) (f b) m (map (renamed_value f) args)
renamed_label f (L.Take b s m args) = L.Take (f b) (f s) m (map (renamed_value f) args)
renamed_label f (L.Write o item) = L.Write (f o) (renamed_item f item)
renamed_label f (L.Pick o i) = L.Pick (f o) i
renamed_label f (L.Fault o e) = L.Fault (f o) e

-- the program names no object
abbrev pub IsNameless : ProgramTree → Type 0
IsNameless p = (f : ℕ → ℕ) → renamed_program f p ≡ p
