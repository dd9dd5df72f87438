-- The text of a record that is followed, part by part: the last block of each object and the last line of each pair.
use Rattle.std.specs.Prelude.{◌≡◌, ℕ, ◌==◌, List, [], ◌∷◌, ◌++◌, Option, Some, None, MatchOption, ◌&&◌, if◌then◌else◌, codes}
use Rattle.std.specs.Option.{option_or}
use Rattle.text_scan.specs.Text.{Text}
use Rattle.run_types.specs.Message.{Message}
use Rattle.run_types.specs.Tables.{Pair}
use Rattle.run_types.specs.declared.types.Line.{Line}
use Rattle.pool_syntax.specs.Terms.{ProgramTree}
use Rattle.pool_relation.specs.Action.{Object}
use Rattle.pool_relation.specs.Configuration.{Configuration, messages_of, object_of}
use Rattle.pool_relation.specs.Transition.{run}
use Rattle.mesh_semantics.specs.Record.{labels_of}
use Rattle.term_text.specs.StateText.{block, mail_line}
use Rattle.term_text.specs.Watched.{line, told_line}
use Rattle.watch_laws.specs.Views.{objects_in, pair_in, seen, seen_mail}

-- A part of the text: the lines of the object of this name, the line of this sender and receiver, or another line.
-- The lines of an object, and the line of a pair, begin with these names.
pub data Part : Type 0 where
  Block : ℕ → Text → Part
  Mail : ℕ → ℕ → Text → Part
  Other : Text → Part

abbrev pub text_of : Part → Text
text_of (Block o t) = t
text_of (Mail s r t) = t
text_of (Other t) = t

-- the text of parts, one after the other
abbrev pub written : List Part → Text
written [] = []
written (x ∷ xs) = text_of x ++ written xs

-- objects, and the messages of pairs
abbrev pub blocks_of : List Text → ProgramTree → List (ℕ × Object) → List Part
blocks_of names p [] = []
blocks_of names p (e ∷ es) = Block e.0 (block names p e.0 e.1) ∷ blocks_of names p es

abbrev pub mails_of : List Text → List (Pair × List Message) → List Part
mails_of names [] = []
mails_of names (e ∷ es) = Mail e.0.0 e.0.1 (mail_line names e.0.0 e.0.1 e.1) ∷ mails_of names es

-- the objects of these names in a configuration
abbrev pub block_if : List Text → ProgramTree → ℕ → Option Object → List Part
block_if names p o None = []
block_if names p o (Some x) = Block o (block names p o x) ∷ []

abbrev pub blocks_in : List Text → ProgramTree → Configuration → List ℕ → List Part
blocks_in names p d [] = []
blocks_in names p d (o ∷ os) = block_if names p o (object_of d o) ++ blocks_in names p d os

-- the messages of a pair in a configuration
abbrev pub mail_in : List Text → Configuration → Option Pair → List Part
mail_in names d None = []
mail_in names d (Some q) = Mail q.0 q.1 (mail_line names q.0 q.1 (messages_of d q.0 q.1)) ∷ []

-- what a line changed that leads to the configuration d
abbrev pub changed : List Text → ProgramTree → Line → Configuration → List Part
changed names p l d = blocks_in names p d (objects_in l) ++ mail_in names d (pair_in l)

-- each line with what it changed, from the configuration c on, up to the first impossible line
abbrev pub followed_parts : List Text → ProgramTree → Configuration → List Line → List Part
followed_parts names p c [] = []
followed_parts names p c (l ∷ ls) = Other (told_line names l) ∷ elim (run p c (labels_of l)) as (λ o. List Part) [
  | None ↦ []
  | Some d ↦ changed names p l d ++ followed_parts names p d ls
]

-- the parts of the whole text, from the configuration c on
abbrev pub watched_parts : List Text → ProgramTree → Configuration → List Line → List Part
watched_parts names p c ls =
    Other (line (codes "watch" ∷ [])) ∷ ((blocks_of names p c.objects ++ mails_of names c.messages) ++ followed_parts names p c ls)

-- the text of the part, if it is the block of the object o, or the line of the messages from s to r
abbrev pub if_block : ℕ → Part → Option Text
if_block o (Block q t) = if o == q then Some t else None
if_block o _ = None

abbrev pub if_mail : ℕ → ℕ → Part → Option Text
if_mail s r (Mail a b t) = if s == a && r == b then Some t else None
if_mail s r _ = None

-- the text that is found in the last of the parts in which one is found
abbrev pub last_of : (Part → Option Text) → List Part → Option Text
last_of found [] = None
last_of found (x ∷ xs) = option_or (last_of found xs) (found x)

abbrev pub last_block : ℕ → List Part → Option Text
last_block o xs = last_of (if_block o) xs

abbrev pub last_mail : ℕ → ℕ → List Part → Option Text
last_mail s r xs = last_of (if_mail s r) xs

-- The last parts show the configuration d. The last block of each name is that of its object in d; a name without an
-- object has no block. The last line of each pair shows its messages in d; a pair without a line has no messages.
pub record ShowsLast (names : List Text) (p : ProgramTree) (d : Configuration) (xs : List Part) : Type 0 where
  pub objects : (o : ℕ) → last_block o xs ≡ seen names p d o
  pub messages : (s r : ℕ) → MatchOption (last_mail s r xs) (messages_of d s r ≡ []) (λ t. t ≡ seen_mail names d s r)
