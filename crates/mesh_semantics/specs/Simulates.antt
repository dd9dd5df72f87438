-- Simulation between two languages of objects: objects that correspond take the same steps, and then correspond again.
-- The file also defines when configurations, acts and records agree.
use Rattle.std.specs.Prelude.{◌≡◌, ◌⊎◌, ℕ, ◌==◌, ◌&&◌, ◌||◌, List, [], ◌∷◌, Option, Some, None, true}
use Rattle.run_types.specs.declared.types.Value.{Value}
use Rattle.run_types.specs.declared.types.Error.{Error}
use Rattle.run_types.specs.declared.types.Value.TheVariants as V
use Rattle.run_types.specs.declared.types.Item.{Item}
use Rattle.run_types.specs.Message.{Message}
use Rattle.run_types.specs.Same.{are_same}
use Rattle.mesh_semantics.specs.Kind.{is_local, makes, calls, posts, returns, waits_on, writes, fails, alternatives}
use Rattle.mesh_semantics.specs.Language.{Language}
use Rattle.mesh_semantics.specs.Config.{Config, object_of, messages_of}
use Rattle.mesh_semantics.specs.Moves.{running, offered, numbered, can_pick, first_message}
use Rattle.mesh_semantics.specs.Act.{Acted, Acts, Full, Nothing}
use Rattle.mesh_semantics.specs.Record.{Record}

-- both exist and correspond, or neither exists
abbrev pub Both : {A B : Type 0} → (A → B → Type 0) → Option A → Option B → Type 0
Both R None None = Unit {0}
Both R (Some a) (Some b) = R a b
Both R _ _ = ⊥

-- an object is at a call or an asynchronous send of this method of b with these arguments, or b can take such a
-- message
abbrev pub IsCalled : {S : Type 0} → Language S → Config S → ℕ → ℕ → List Value → Type 0
IsCalled {S} g c b m args =
    ((o : ℕ) × (x : S) × (object_of c o ≡ Some x) × ((calls (g.kind o x) b m args || posts (g.kind o x) b m args) ≡ true))
    ⊎ ((s : ℕ) × (names : List ℕ) × (f : Message) × (first_message names (messages_of c s b) ≡ Some f) × ((f.method == m && are_same f.args args) ≡ true))

-- The second language h does what g does. R relates the objects of one name that correspond, and W is the property of
-- configurations of g that is kept.
pub record Simulates {S T : Type 0} (g : Language S) (h : Language T) (W : Config S → Type 0) (R : ℕ → S → T → Type 0) : Type 0 where
  pub classes : g.classes ≡ h.classes
  pub class : (o : ℕ) (x : S) (y : T) → R o x y → g.class x ≡ h.class y
  -- new objects correspond
  pub root : (o : ℕ) → Both (R o) g.root h.root
  -- objects that correspond have the same next action and the same fault, and as many methods under way; new objects
  -- of a class correspond
  pub kinds : (o : ℕ) (x : S) (y : T) → R o x y → g.kind o x ≡ h.kind o y
  pub faults : (o : ℕ) (x : S) (y : T) → R o x y → g.fault x ≡ h.fault y
  pub frames : (o : ℕ) (x : S) (y : T) → R o x y → g.frames x ≡ h.frames y
  pub made : (o k : ℕ) → Both (R o) (g.made k) (h.made k)
  -- they correspond again after a local transition
  pub stepped : (c : Config S) (o : ℕ) (x : S) (y : T) → W c → running g c o ≡ Some x → R o x y → is_local (g.kind o x) ≡ true → R o (g.stepped o x) (h.stepped o y)
  -- with the name of a new object
  pub named : (c : Config S) (o : ℕ) (x : S) (y : T) (k n : ℕ) → W c → running g c o ≡ Some x → object_of c n ≡ None → R o x y → makes (g.kind o x) k ≡ true
      → R o (g.given x (V.Ref n)) (h.given y (V.Ref n))
  -- with the value of a call, if d is the configuration after the return
  pub given : (c d : Config S) (b o : ℕ) (u x : S) (y : T) (v : Value) → W c → W d → running g c b ≡ Some u → running g c o ≡ Some x → object_of d o ≡ Some (g.given x v)
      → R o x y → returns (g.kind b u) o v ≡ true → waits_on (g.kind o x) b ≡ true → R o (g.given x v) (h.given y v)
  -- while the call is served
  pub waiting : (c : Config S) (o : ℕ) (x : S) (y : T) (b m : ℕ) (args : List Value) → W c → running g c o ≡ Some x → R o x y → calls (g.kind o x) b m args ≡ true
      → R o (g.waiting x b m) (h.waiting y b m)
  -- after a send, a write, a return
  pub sent : (c : Config S) (o : ℕ) (x : S) (y : T) (b m : ℕ) (args : List Value) → W c → running g c o ≡ Some x → R o x y → posts (g.kind o x) b m args ≡ true → R o (g.done x) (h.done y)
  pub wrote : (c : Config S) (o : ℕ) (x : S) (y : T) (item : Item) → W c → running g c o ≡ Some x → R o x y → writes (g.kind o x) item ≡ true → R o (g.done x) (h.done y)
  pub returned : (c : Config S) (o : ℕ) (x : S) (y : T) (k : ℕ) (v : Value) → W c → running g c o ≡ Some x → R o x y → returns (g.kind o x) k v ≡ true → R o (g.returned x) (h.returned y)
  -- after the choice of an alternative, at the start of a served method, and after an error
  pub picked : (c : Config S) (o : ℕ) (x : S) (y : T) (i : ℕ) → W c → running g c o ≡ Some x → R o x y → can_pick (numbered (alternatives (g.kind o x)) i) ≡ true
      → R o (g.picked o x i) (h.picked o y i)
  pub serving : (c : Config S) (o : ℕ) (x : S) (y : T) (i m : ℕ) (names : List ℕ) (caller : Option ℕ) (args : List Value) → W c → running g c o ≡ Some x → R o x y
      → offered 1 (alternatives (g.kind o x)) m ≡ Some (i, names) → IsCalled g c o m args → Both (R o) (g.serving o x i m caller args) (h.serving o y i m caller args)
  pub faulted : (c : Config S) (o : ℕ) (x : S) (y : T) (e : Error) → W c → running g c o ≡ Some x → R o x y → fails (g.kind o x) e ≡ true → R o (g.faulted x e) (h.faulted y e)

-- both lists have the same names, and the objects under a name correspond
abbrev pub Zipped : {S T : Type 0} → (ℕ → S → T → Type 0) → List (ℕ × S) → List (ℕ × T) → Type 0
Zipped R [] [] = Unit {0}
Zipped R (e ∷ es) (f ∷ fs) = (e.0 ≡ f.0) × R e.0 e.1 f.1 × Zipped R es fs
Zipped R _ _ = ⊥

pub record Related {S T : Type 0} (R : ℕ → S → T → Type 0) (c : Config S) (e : Config T) : Type 0 where
  pub objects : Zipped R c.objects e.objects
  pub messages : c.messages ≡ e.messages

-- a configuration of the second language that corresponds to a kept one of the first
abbrev pub Corresponds : {S T : Type 0} → (Config S → Type 0) → (ℕ → S → T → Type 0) → Config T → Type 0
Corresponds {S} W R e = (c : Config S) × W c × Related R c e

-- the same line or the same limit; after the same line the configurations correspond and the delays are equal
abbrev pub SameAct : {S T : Type 0} → (ℕ → S → T → Type 0) → Acted S → Acted T → Type 0
SameAct R (Acts w c d) (Acts v e f) = (w ≡ v) × Related R c e × (d ≡ f)
SameAct R (Full k n) (Full j m) = (k ≡ j) × (n ≡ m)
SameAct R Nothing Nothing = Unit {0}
SameAct R _ _ = ⊥

-- the same lines, the same delay at the end, and last configurations that correspond
pub record SameRecord {S T : Type 0} (R : ℕ → S → T → Type 0) (a : Record S) (b : Record T) : Type 0 where
  pub lines : a.lines ≡ b.lines
  pub last : Related R a.last b.last
  pub delay : a.delay ≡ b.delay
