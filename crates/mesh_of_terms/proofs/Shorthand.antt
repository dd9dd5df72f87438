-- Short names for the programs, placements, schedules and lines of worked runs. Positions are 0, since no run reads
-- them.
use Rattle.std.proofs.Common.{ℕ, zero, suc, pos, List, [], ◌∷◌, ◌+◌, ◌*◌, Option, true, false}
use Rattle.run_types.specs.declared.types.Op.{Op}
use Rattle.run_types.specs.declared.types.Value.{Value}
use Rattle.run_types.specs.declared.types.Value.TheVariants as V
use Rattle.run_types.specs.declared.types.Item.TheVariants as I
use Rattle.run_types.specs.declared.types.Label.{Label}
use Rattle.run_types.specs.declared.types.Label.TheVariants as L
use Rattle.run_types.specs.declared.types.What.{What}
use Rattle.run_types.specs.declared.types.What.TheVariants as W
use Rattle.run_types.specs.declared.types.Event.{Event}
use Rattle.run_types.specs.declared.types.Event.TheVariants as Ev
use Rattle.run_types.specs.declared.types.End.{End}
use Rattle.run_types.specs.declared.types.Line.{Line}
use Rattle.run_types.specs.declared.types.Line.TheVariants as R
use Rattle.run_types.specs.declared.types.Place.{Place}
use Rattle.run_types.specs.declared.types.Placement.{Placement}
use Rattle.run_types.specs.declared.types.Kind.{Kind}
use Rattle.run_types.specs.declared.types.Kind.TheVariants as K
use Rattle.pool_syntax.specs.declared.tree.Named.{Named}
use Rattle.pool_syntax.specs.declared.tree.Var.{Var}
use Rattle.pool_syntax.specs.Terms as T
use Rattle.pool_syntax.specs.Terms.{Expression, Expressions, Statement, Statements, MethodTree, ClassTree}
use Rattle.mesh_semantics.specs.Act.{id}

-- programs

abbrev pub named : ℕ → Named
named n = record { name = id n; pos = 0 }

abbrev pub names : List ℕ → List Named
names [] = []
names (n ∷ ns) = named n ∷ names ns

abbrev pub var : ℕ → Kind → Var
var n k = record { name = id n; kind = k; pos = 0; kind_pos = 0 }

abbrev pub object_of_class : ℕ → Kind
object_of_class n = K.Class (id n)

abbrev pub method : ℕ → List Var → List Var → Option Kind → Statements → Expression → MethodTree
method n params locals outcome body value =
    record { name = named n; params = params; locals = locals; outcome = outcome; outcome_pos = 0; body = body; value = value; post = T.Done }

abbrev pub class : ℕ → List Var → List MethodTree → Statements → ClassTree
class n vars methods body = record { name = named n; vars = vars; methods = methods; body = body }

abbrev pub block : List Statement → Statements
block [] = T.Done
block (s ∷ ss) = T.Then s (block ss)

abbrev pub args : List Expression → Expressions
args [] = T.NoArgs
args (e ∷ es) = T.Arg e (args es)

abbrev pub it : ℕ → Expression
it n = T.Variable n 0

abbrev pub number : ℕ → Expression
number n = T.Literal (V.Int (pos n)) 0

abbrev pub nothing : Expression
nothing = T.Literal V.Nil 0

abbrev pub yes : Expression
yes = T.Literal (V.Bool true) 0

abbrev pub no : Expression
no = T.Literal (V.Bool false) 0

abbrev pub me : Expression
me = T.Me 0

abbrev pub new : ℕ → Expression
new k = T.Create k 0

abbrev pub prefix_of : Op → Expression → Expression
prefix_of op a = T.Prefix op a 0

abbrev pub infix_of : Op → Expression → Expression → Expression
infix_of op a b = T.Infix op a b 0

abbrev pub set : ℕ → Expression → Statement
set x e = T.Assign x 0 e

abbrev pub call : Expression → ℕ → List Expression → Expression
call e m es = T.Send e m (args es) 0

abbrev pub own : ℕ → List Expression → Expression
own m es = T.Call m (args es) 0

abbrev pub send : Expression → ℕ → List Expression → Statement
send e m es = T.Async e m 0 (args es)

-- placements and schedules

-- with the limits that stand where a text gives none
abbrev pub mesh : ℕ → ℕ → List Place → Placement
mesh w h places = record { width = w; height = h; objects = 256; frames = 1024; cells = 1024; places = places; cuts = []; routes = [] }

abbrev pub turns : ℕ → ℕ → List Event
turns n zero = []
turns n (suc k) = Ev.Turn n ∷ turns n k

abbrev pub moves : ℕ → ℕ → ℕ → List Event
moves a b zero = []
moves a b (suc k) = Ev.Link a b ∷ moves a b k

-- lines

abbrev pub int : ℕ → Value
int n = V.Int (pos n)

-- the name of a node and a slot
abbrev pub at : ℕ → ℕ → ℕ
at node slot = node * 65536 + slot

abbrev pub step : Label → What
step l = W.Step l 1

abbrev pub local : ℕ → ℕ → What
local o k = W.Step (L.Local o) k

abbrev pub written : ℕ → ℕ → What
written o n = W.Step (L.Write o (I.Value (V.Int (pos n)))) 1

-- the events of lines
abbrev pub events : List (Event × What) → List Event
events [] = []
events (x ∷ xs) = x.0 ∷ events xs

-- event lines numbered from a number on, and an end line
abbrev pub numbered : ℕ → List (Event × What) → End → List Line
numbered n [] e = R.End e ∷ []
numbered n (x ∷ xs) e = R.Event n x.0 x.1 ∷ numbered (n + 1) xs e

abbrev pub lines : List (Event × What) → End → List Line
lines xs e = numbered 1 xs e
