-- The transition relation over objects of any language, and its runs: a label that is possible determines the
-- configuration after it. It knows no node, packet or delay.
use Rattle.std.specs.Prelude.{ℕ, zero, suc, ◌+◌, ◌==◌, List, [], ◌∷◌, ◌++◌, Option, Some, None, is_some, is_none, Bool, false, not, ◌&&◌, ◌||◌, if◌then◌else◌, slice_get}
use Rattle.run_types.specs.declared.types.Value.TheVariants as V
use Rattle.run_types.specs.declared.types.Error.{Error}
use Rattle.run_types.specs.declared.types.Label.{Label}
use Rattle.run_types.specs.declared.types.Label.TheVariants as L
use Rattle.run_types.specs.Partial.{◌>>=◌, ◌>>◌, require}
use Rattle.run_types.specs.Same.{are_same}
use Rattle.run_types.specs.Message.{Message}
use Rattle.mesh_semantics.specs.Kind.{Alternative, is_local, makes, calls, posts, returns, waits_on, writes, fails, has_name, answered, answers, is_plain, alternatives}
use Rattle.mesh_semantics.specs.Language.{Language}
use Rattle.mesh_semantics.specs.Config.{Config, object_of, put_object, messages_of, put_messages}

-- the object, if this error is None
abbrev pub without_fault : {S : Type 0} → S → Option Error → Option S
without_fault x None = Some x
without_fault x (Some e) = None

-- the object of this name, if it exists and has met no error
abbrev pub running : {S : Type 0} → Language S → Config S → ℕ → Option S
running g c o = object_of c o >>= (λ x. without_fault x (g.fault x))

-- the first open alternative that answers the method, by its number and methods, if the first of the list has the
-- number i
abbrev pub offered : ℕ → List Alternative → ℕ → Option (ℕ × List ℕ)
offered i [] m = None
offered i (a ∷ alts) m = if answers a m then Some (i, answered a.names) else offered (i + 1) alts m

-- the alternative with this number, from 1
abbrev pub numbered : List Alternative → ℕ → Option Alternative
numbered alts zero = None
numbered alts (suc i) = slice_get alts i

-- whether the alternative exists and is open and plain
abbrev pub can_pick : Option Alternative → Bool
can_pick None = false
can_pick (Some a) = is_plain a

-- whether one of the messages is for one of these methods
abbrev pub has_message : List ℕ → List Message → Bool
has_message names [] = false
has_message names (m ∷ ms) = has_name names m.method || has_message names ms

-- the earliest message for one of these methods
abbrev pub first_message : List ℕ → List Message → Option Message
first_message names [] = None
first_message names (m ∷ ms) = if has_name names m.method then Some m else first_message names ms

-- the messages without the earliest one for these methods
abbrev pub without_message : List ℕ → List Message → List Message
without_message names [] = []
without_message names (m ∷ ms) = if has_name names m.method then ms else m ∷ without_message names ms

-- the configuration after the label, or None if the label is not possible
abbrev pub move : {S : Type 0} → Language S → Config S → Label → Option (Config S)
move g c (L.Local o) = do
  x ← running g c o
  require (is_local (g.kind o x))
  Some (put_object c o (g.stepped o x))
move g c (L.New o n k) = do
  x ← running g c o
  require (makes (g.kind o x) k.0 && is_none (object_of c n))
  y ← g.made k.0
  Some (put_object (put_object c o (g.given x (V.Ref n))) n y)
move g c (L.Answer b o m args) = do
  x ← running g c o
  y ← running g c b
  require (calls (g.kind o x) b m.0 args)
  v ← offered 1 (alternatives (g.kind b y)) m.0
  require (not (has_message v.1 (messages_of c o b)))
  z ← g.serving b y v.0 m.0 (Some o) args
  Some (put_object (put_object c o (g.waiting x b m.0)) b z)
move g c (L.Return b o v) = do
  y ← running g c b
  x ← running g c o
  require (returns (g.kind b y) o v && waits_on (g.kind o x) b)
  Some (put_object (put_object c b (g.returned y)) o (g.given x v))
move g c (L.Send o b m args) = do
  x ← running g c o
  require (posts (g.kind o x) b m.0 args && is_some (object_of c b))
  Some (put_messages (put_object c o (g.done x)) o b (messages_of c o b ++ record { method = m.0; args = args } ∷ []))
move g c (L.Take b s m args) = do
  y ← running g c b
  v ← offered 1 (alternatives (g.kind b y)) m.0
  first ← first_message v.1 (messages_of c s b)
  require (first.method == m.0 && are_same first.args args)
  z ← g.serving b y v.0 m.0 None args
  Some (put_messages (put_object c b z) s b (without_message v.1 (messages_of c s b)))
move g c (L.Write o item) = do
  x ← running g c o
  require (writes (g.kind o x) item)
  Some (put_object c o (g.done x))
move g c (L.Pick o i) = do
  x ← running g c o
  require (can_pick (numbered (alternatives (g.kind o x)) i))
  Some (put_object c o (g.picked o x i))
move g c (L.Fault o e) = do
  x ← running g c o
  require (fails (g.kind o x) e)
  Some (put_object c o (g.faulted x e))

-- the configuration after these labels, or None if one of them is not possible where it is due
abbrev pub moves : {S : Type 0} → Language S → Config S → List Label → Option (Config S)
moves g c [] = Some c
moves g c (l ∷ ls) = move g c l >>= λ d. moves g d ls
