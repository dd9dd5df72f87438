-- Conditions on a language under which a node can store request numbers: that of a request with the object that posted
-- it, and those of callers with the object that serves them. W is the property of configurations that is kept.
use Rattle.std.specs.Prelude.{◌≡◌, ℕ, List, [], ◌∷◌, Option, Some, None, Bool, true, false}
use Rattle.run_types.specs.declared.types.Value.{Value}
use Rattle.run_types.specs.declared.types.Error.{Error}
use Rattle.mesh_semantics.specs.Kind as K
use Rattle.mesh_semantics.specs.Kind.{Kind, Alternative}
use Rattle.mesh_semantics.specs.Language.{Language}
use Rattle.mesh_semantics.specs.Config.{Config, object_of, messages_of}
use Rattle.run_types.specs.PathFacts.{In}
use Rattle.run_types.specs.declared.types.Value.TheVariants as V
use Rattle.run_types.specs.Tables.{Each}
use Rattle.mesh_semantics.specs.Sound.{IsThere}

-- the action posts a request: a new object, or a call
abbrev pub posts_request : Kind → Bool
posts_request (K.New class) = true
posts_request (K.Send b m args) = true
posts_request _ = false

-- the action ends its statement at once: an asynchronous send, or a write
abbrev pub is_at_once : Kind → Bool
is_at_once (K.Async b m args) = true
is_at_once (K.Write item) = true
is_at_once _ = false

-- the callers with one more, if there is one
abbrev pub with_caller : Option ℕ → List ℕ → List ℕ
with_caller None ks = ks
with_caller (Some k) ks = k ∷ ks

pub record Requests {S : Type 0} (g : Language S) (W : Config S → Type 0) : Type 0 where
  -- an object at its call, while the call is served
  pub waiting_kind : (o : ℕ) (s : S) (b m : ℕ) (args : List Value) → g.kind o s ≡ K.Send b m args → g.kind o (g.waiting s b m) ≡ K.Waits b m
  pub waiting_frames : (o : ℕ) (s : S) (b m : ℕ) (args : List Value) → g.kind o s ≡ K.Send b m args → g.frames (g.waiting s b m) ≡ g.frames s
  pub waiting_callers : (o : ℕ) (s : S) (b m : ℕ) (args : List Value) → g.kind o s ≡ K.Send b m args → g.callers (g.waiting s b m) ≡ g.callers s
  pub waiting_given : (o : ℕ) (s : S) (b m : ℕ) (args : List Value) (v : Value) → g.kind o s ≡ K.Send b m args → g.given (g.waiting s b m) v ≡ g.given s v
  -- an object at its request, after its value has come
  pub given_frames : (o : ℕ) (s : S) (v : Value) → posts_request (g.kind o s) ≡ true → g.frames (g.given s v) ≡ g.frames s
  pub given_callers : (o : ℕ) (s : S) (v : Value) → posts_request (g.kind o s) ≡ true → g.callers (g.given s v) ≡ g.callers s
  -- the callers that an object serves
  pub stepped_callers : (c : Config S) (o : ℕ) (x : S) → W c → object_of c o ≡ Some x → g.kind o x ≡ K.Local → g.callers (g.stepped o x) ≡ g.callers x
  pub done_callers : (c : Config S) (o : ℕ) (x : S) → W c → object_of c o ≡ Some x → is_at_once (g.kind o x) ≡ true → g.callers (g.done x) ≡ g.callers x
  pub returned_callers : (c : Config S) (o : ℕ) (x : S) (k : ℕ) (v : Value) → W c → object_of c o ≡ Some x → g.kind o x ≡ K.Return k v
      → g.callers x ≡ k ∷ g.callers (g.returned x)
  pub picked_callers : (c : Config S) (o : ℕ) (x : S) (alts : List Alternative) (i : ℕ) → W c → object_of c o ≡ Some x → g.kind o x ≡ K.Select alts
      → g.callers (g.picked o x i) ≡ g.callers x
  pub serving_callers : (c : Config S) (o : ℕ) (x : S) (alts : List Alternative) (i m : ℕ) (caller : Option ℕ) (args : List Value) (z : S)
      → W c → object_of c o ≡ Some x → g.kind o x ≡ K.Select alts → g.serving o x i m caller args ≡ Some z → g.callers z ≡ with_caller caller (g.callers x)
  pub faulted_callers : (c : Config S) (o : ℕ) (x : S) (e : Error) → W c → object_of c o ≡ Some x → g.kind o x ≡ K.Fault e → g.callers (g.faulted x e) ≡ g.callers x
  pub root_callers : (y : S) → g.root ≡ Some y → g.callers y ≡ []
  -- a class of which an object can be made is in the list of classes
  pub made_class : (k : ℕ) (y : S) → g.made k ≡ Some y → In k g.classes
  pub made_callers : (k : ℕ) (y : S) → g.made k ≡ Some y → g.callers y ≡ []
  -- a caller that is served is at the wait
  pub served_waits : (c : Config S) (b : ℕ) (y : S) (k : ℕ) → W c → object_of c b ≡ Some y → In k (g.callers y)
      → (x : S) × (m : ℕ) × (object_of c k ≡ Some x) × (g.kind k x ≡ K.Waits b m)

-- an object that posted a request keeps its class and its fault while its call is served and after its value has come
pub record KeepsClassAndFault {S : Type 0} (g : Language S) : Type 0 where
  pub waiting_class : (o : ℕ) (s : S) (b m : ℕ) (args : List Value) → g.kind o s ≡ K.Send b m args → g.class (g.waiting s b m) ≡ g.class s
  pub waiting_fault : (o : ℕ) (s : S) (b m : ℕ) (args : List Value) → g.kind o s ≡ K.Send b m args → g.fault (g.waiting s b m) ≡ g.fault s
  pub given_class : (o : ℕ) (s : S) (v : Value) → posts_request (g.kind o s) ≡ true → g.class (g.given s v) ≡ g.class s
  pub given_fault : (o : ℕ) (s : S) (v : Value) → posts_request (g.kind o s) ≡ true → g.fault (g.given s v) ≡ g.fault s

-- the object for which another waits serves that one; W is the property of configurations that is kept
abbrev pub AreServed : {S : Type 0} → Language S → (Config S → Type 0) → Type 0
AreServed {S} g W = (c : Config S) (o : ℕ) (x : S) (b m : ℕ) → W c → object_of c o ≡ Some x → g.kind o x ≡ K.Waits b m
    → (y : S) × (object_of c b ≡ Some y) × In o (g.callers y)

-- the names of objects in values
abbrev pub names_in : List Value → List ℕ
names_in [] = []
names_in (V.Ref n ∷ vs) = n ∷ names_in vs
names_in (_ ∷ vs) = names_in vs

-- The condition on a language under which each name in a packet is the name of an object. W is the property of
-- configurations that is kept.
pub record KnownNames {S : Type 0} (g : Language S) (W : Config S → Type 0) : Type 0 where
  -- the arguments of a call
  pub call_names : (c : Config S) (o : ℕ) (x : S) (b m : ℕ) (args : List Value) → W c → object_of c o ≡ Some x → g.kind o x ≡ K.Send b m args → Each (IsThere c) (names_in args)
  -- the name or value that an object got for its request
  pub given_names : (c : Config S) (o : ℕ) (x s : S) (v : Value) → W c → object_of c o ≡ Some x → posts_request (g.kind o s) ≡ true → g.given s v ≡ x → Each (IsThere c) (names_in (v ∷ []))
  -- the arguments of a message
  pub message_names : (c : Config S) (s r : ℕ) → W c → Each (λ f. Each (IsThere c) (names_in f.args)) (messages_of c s r)
