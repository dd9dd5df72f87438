-- The text of an object and of a pair in a configuration, and which of them a line of a record writes.
use Rattle.std.specs.Prelude.{◌≢◌, ℕ, List, [], ◌∷◌, Option, None, option_map}
use Rattle.text_scan.specs.Text.{Text}
use Rattle.run_types.specs.Tables.{Pair}
use Rattle.run_types.specs.declared.types.What.TheVariants as W
use Rattle.run_types.specs.declared.types.Line.{Line}
use Rattle.run_types.specs.declared.types.Line.TheVariants as R
use Rattle.pool_syntax.specs.Terms.{ProgramTree}
use Rattle.pool_relation.specs.Configuration.{Configuration, messages_of, object_of}
use Rattle.term_text.specs.StateText.{block, mail_line, objects_of, pair_of}

-- the name is none of these
abbrev pub IsOutside : ℕ → List ℕ → Type 0
IsOutside q [] = Unit {0}
IsOutside q (o ∷ os) = (q ≢ o) × IsOutside q os

-- the objects that are written after a line
abbrev pub objects_in : Line → List ℕ
objects_in (R.Event number event (W.Step lab times)) = objects_of lab
objects_in _ = []

-- the pair that is written after a line
abbrev pub pair_in : Line → Option Pair
pair_in (R.Event number event (W.Step lab times)) = pair_of lab
pair_in _ = None

-- the lines of an object in a configuration
abbrev pub seen : List Text → ProgramTree → Configuration → ℕ → Option Text
seen names p c o = option_map (block names p o) (object_of c o)

-- the line of the messages of a pair
abbrev pub seen_mail : List Text → Configuration → ℕ → ℕ → Text
seen_mail names c s r = mail_line names s r (messages_of c s r)
