-- Lawful languages: the conditions on a language under which the theorems about placed machines hold. W is the
-- property of configurations that is kept, for example that they are typed.
use Rattle.std.specs.Prelude.{◌≡◌, ℕ, List, Option, Some, None, false, IsTrue}
use Rattle.std.specs.Ordering.{nat_cmp}
use Rattle.std.specs.FinMap.{is_sorted}
use Rattle.run_types.specs.declared.types.Value.{Value}
use Rattle.run_types.specs.declared.types.Value.TheVariants as V
use Rattle.run_types.specs.declared.types.Error.{Error}
use Rattle.run_types.specs.declared.types.Label.{Label}
use Rattle.run_types.specs.Message.{Message}
use Rattle.mesh_semantics.specs.Kind as K
use Rattle.mesh_semantics.specs.Kind.{Kind, alternatives}
use Rattle.mesh_semantics.specs.Language.{Language}
use Rattle.mesh_semantics.specs.Config.{Config, object_of, messages_of}
use Rattle.mesh_semantics.specs.Moves.{move, offered, first_message}
use Rattle.mesh_semantics.specs.Sound.{is_wait}

-- the object b exists, and at each offer of the method it can serve it with these arguments
abbrev pub CanServe : {S : Type 0} → Language S → Config S → ℕ → ℕ → List Value → Type 0
CanServe {S} g c b m args = (y : S) × (object_of c b ≡ Some y)
    × ((i : ℕ) (names : List ℕ) (caller : Option ℕ) → offered 1 (alternatives (g.kind b y)) m ≡ Some (i, names) → (z : S) × (g.serving b y i m caller args ≡ Some z))

pub record Lawful {S : Type 0} (g : Language S) (W : Config S → Type 0) : Type 0 where
  -- the names of the objects rise
  pub sorted : (c : Config S) → W c → IsTrue (is_sorted nat_cmp c.objects)
  -- each transition keeps W
  pub kept : (c d : Config S) (lab : Label) → W c → move g c lab ≡ Some d → W d
  -- an object that has met an error is still at it
  pub fault_kind : (c : Config S) (o : ℕ) (x : S) (e : Error) → W c → object_of c o ≡ Some x → g.fault x ≡ Some e → g.kind o x ≡ K.Fault e
  -- the class of an object that is about to be made exists
  pub can_make : (c : Config S) (o : ℕ) (x : S) (k : ℕ) → W c → object_of c o ≡ Some x → g.kind o x ≡ K.New k → (y : S) × (g.made k ≡ Some y)
  -- the receiver of a call, of a send or of a message can serve it
  pub can_call : (c : Config S) (o : ℕ) (x : S) (b m : ℕ) (args : List Value) → W c → object_of c o ≡ Some x → g.kind o x ≡ K.Send b m args → CanServe g c b m args
  pub can_send : (c : Config S) (o : ℕ) (x : S) (b m : ℕ) (args : List Value) → W c → object_of c o ≡ Some x → g.kind o x ≡ K.Async b m args → CanServe g c b m args
  pub can_take : (c : Config S) (names : List ℕ) (s r : ℕ) (f : Message) → W c → first_message names (messages_of c s r) ≡ Some f → CanServe g c r f.method f.args
  -- the object to which a value is returned waits for it
  pub has_wait : (c : Config S) (b : ℕ) (y : S) (k : ℕ) (v : Value) → W c → object_of c b ≡ Some y → g.kind b y ≡ K.Return k v
      → (x : S) × (m : ℕ) × (object_of c k ≡ Some x) × (g.kind k x ≡ K.Waits b m)
  -- an object that gets the name of its new object, or the value of its call, is then at no wait; its frames and its
  -- fault stay
  pub given_name : (c : Config S) (o : ℕ) (x : S) (k n : ℕ) → W c → object_of c o ≡ Some x → g.kind o x ≡ K.New k → object_of c n ≡ None
      → (g.frames (g.given x (V.Ref n)) ≡ g.frames x) × (g.fault (g.given x (V.Ref n)) ≡ g.fault x) × (is_wait (g.kind o (g.given x (V.Ref n))) ≡ false)
  pub given_back : (c : Config S) (b o m : ℕ) (y x : S) (v : Value) → W c → object_of c b ≡ Some y → g.kind b y ≡ K.Return o v → object_of c o ≡ Some x → g.kind o x ≡ K.Waits b m
      → (g.frames (g.given x v) ≡ g.frames x) × (g.fault (g.given x v) ≡ g.fault x) × (is_wait (g.kind o (g.given x v)) ≡ false)
  -- an object whose call is served keeps its frames
  pub waiting : (c : Config S) (o : ℕ) (x : S) (b m : ℕ) (args : List Value) → W c → object_of c o ≡ Some x → g.kind o x ≡ K.Send b m args
      → g.frames (g.waiting x b m) ≡ g.frames x
