-- The lines of an object, of the messages of a pair, of a configuration, and of what a transition changes.
use Rattle.std.specs.Prelude.{ℕ, List, [], ◌∷◌, ◌++◌, Option, Some, None, codes, map}
use Rattle.text_scan.specs.Text.{Text}
use Rattle.run_types.specs.Table.{text_at}
use Rattle.run_types.specs.Message.{Message}
use Rattle.run_types.specs.Tables.{Pair}
use Rattle.run_types.specs.declared.types.Error.{Error}
use Rattle.run_types.specs.declared.types.Label.{Label}
use Rattle.run_types.specs.declared.types.Label.TheVariants as L
use Rattle.pool_syntax.specs.declared.tree.Named.{Named}
use Rattle.pool_syntax.specs.Terms.{ProgramTree}
use Rattle.pool_relation.specs.Action as A
use Rattle.pool_relation.specs.Action.{Object, Action, action}
use Rattle.pool_relation.specs.Configuration.{Configuration, messages_of, object_of}
use Rattle.record_writer.specs.RecordText.{error_text, item_text, led, object_text, value_text}
use Rattle.term_text.specs.Words.{name_word}
use Rattle.term_text.specs.Levels.{bindings, term_lines}

-- names, each after a space
abbrev pub led_names : List Text → List Named → Text
led_names names [] = []
led_names names (n ∷ ns) = name_word names n.name.0 ++ led_names names ns

-- what an object does next
abbrev pub action_text : List Text → Action → Text
action_text names A.Finished = led (codes "finished" ∷ [])
action_text names (A.Local term vars) = led (codes "local" ∷ [])
action_text names (A.Fault e) = led (codes "fault" ∷ error_text e ∷ [])
action_text names (A.New c) = led (codes "new" ∷ text_at names c ∷ [])
action_text names (A.Send b m args) = led (codes "send" ∷ object_text b ∷ text_at names m ∷ map value_text args)
action_text names (A.Async b m args) = led (codes "async" ∷ object_text b ∷ text_at names m ∷ map value_text args)
action_text names (A.Write item) = led (codes "write" ∷ item_text names item ∷ [])
action_text names (A.Answer ns) = led (codes "answer" ∷ []) ++ led_names names ns
action_text names (A.Select choices) = led (codes "select" ∷ [])
action_text names (A.Return k v) = led (codes "return" ∷ object_text k ∷ value_text v ∷ [])
action_text names (A.Waits b m) = led (codes "waits" ∷ object_text b ∷ text_at names m ∷ [])
action_text names A.Stuck = led (codes "stuck" ∷ [])

-- the same, or the run-time error that the object has met
abbrev pub standing_text : List Text → Option Error → Action → Text
standing_text names (Some e) a = led (codes "faulted" ∷ error_text e ∷ [])
standing_text names None a = action_text names a

-- the line of an object with its class and its variables
abbrev pub object_line : List Text → ℕ → Object → Text
object_line names o x = codes "object" ++ (led (object_text o ∷ text_at names x.class ∷ []) ++ (bindings names x.vars ++ 10 ∷ []))

-- the line of what an object does next
abbrev pub at_line : List Text → ProgramTree → ℕ → Object → Text
at_line names p o x = codes "at" ++ (led (object_text o ∷ []) ++ (standing_text names x.fault (action p o x) ++ 10 ∷ []))

-- the lines of an object: its class and variables, what it does next, its body, and the methods under way
abbrev pub block : List Text → ProgramTree → ℕ → Object → Text
block names p o x = object_line names o x ++ (at_line names p o x ++ term_lines names o x.term)

-- messages, each after a colon
abbrev pub mail_text : List Text → List Message → Text
mail_text names [] = []
mail_text names (m ∷ ms) = led (codes ":" ∷ text_at names m.method ∷ map value_text m.args) ++ mail_text names ms

-- the line of the messages of a sender to a receiver, also if there are none
abbrev pub mail_line : List Text → ℕ → ℕ → List Message → Text
mail_line names s r ms = codes "mail" ++ (led (object_text s ∷ object_text r ∷ []) ++ (mail_text names ms ++ 10 ∷ []))

-- the lines of objects
abbrev pub blocks : List Text → ProgramTree → List (ℕ × Object) → Text
blocks names p [] = []
blocks names p (e ∷ es) = block names p e.0 e.1 ++ blocks names p es

-- the lines of pairs
abbrev pub mails : List Text → List (Pair × List Message) → Text
mails names [] = []
mails names (e ∷ es) = mail_line names e.0.0 e.0.1 e.1 ++ mails names es

-- a whole configuration
abbrev pub configuration_text : List Text → ProgramTree → Configuration → Text
configuration_text names p c = blocks names p c.objects ++ mails names c.messages

-- the objects that a transition changes
abbrev pub objects_of : Label → List ℕ
objects_of (L.Local o) = o ∷ []
objects_of (L.New o n c) = o ∷ n ∷ []
objects_of (L.Answer b o m args) = b ∷ o ∷ []
objects_of (L.Return b o v) = b ∷ o ∷ []
objects_of (L.Send o b m args) = o ∷ []
objects_of (L.Take b s m args) = b ∷ []
objects_of (L.Write o item) = o ∷ []
objects_of (L.Pick o i) = o ∷ []
objects_of (L.Fault o e) = o ∷ []

-- the sender and the receiver whose messages it changes
abbrev pub pair_of : Label → Option Pair
pair_of (L.Send o b m args) = Some (o, b)
pair_of (L.Take b s m args) = Some (s, b)
pair_of _ = None

-- the lines of an object that may not be there
abbrev pub block_of : List Text → ProgramTree → ℕ → Option Object → Text
block_of names p o None = []
block_of names p o (Some x) = block names p o x

-- the lines of the objects of these names in a configuration
abbrev pub blocks_at : List Text → ProgramTree → Configuration → List ℕ → Text
blocks_at names p d [] = []
blocks_at names p d (o ∷ os) = block_of names p o (object_of d o) ++ blocks_at names p d os

-- the line of a pair in a configuration
abbrev pub mail_at : List Text → Configuration → Option Pair → Text
mail_at names d None = []
mail_at names d (Some q) = mail_line names q.0 q.1 (messages_of d q.0 q.1)

-- what a transition with this label changed, as it is in the configuration d that follows
abbrev pub change_text : List Text → ProgramTree → Label → Configuration → Text
change_text names p lab d = blocks_at names p d (objects_of lab) ++ mail_at names d (pair_of lab)
