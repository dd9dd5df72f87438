-- The object code of a unit as a language of objects: the next action of an object, and its state after each step.
use Rattle.std.specs.Prelude.{ℕ, List, [], ◌∷◌, length, Option, Some, None, true, slice_get}
use Rattle.run_types.specs.declared.types.NameId.{NameId}
use Rattle.run_types.specs.declared.types.Error.{Error}
use Rattle.run_types.specs.Partial.{◌>>=◌}
use Rattle.run_types.specs.declared.frames.CodeObject.{CodeObject}
use Rattle.run_types.specs.declared.frames.Frame.{Frame}
use Rattle.code_semantics.specs.declared.unit.ClassCode.{ClassCode}
use Rattle.run_types.specs.declared.types.Serves.{Serves}
use Rattle.run_types.specs.declared.types.Serves.TheVariants as S
use Rattle.code_semantics.specs.declared.unit.Unit.{Unit as Code}
use Rattle.code_semantics.specs.Kinds as C
use Rattle.code_semantics.specs.Kinds.{Offered, code_kind}
use Rattle.code_semantics.specs.Step.{code_stepped, code_given, code_gone_on, code_picked, code_serving, code_made}
use Rattle.mesh_semantics.specs.Act.{id}
use Rattle.mesh_semantics.specs.Kind as K
use Rattle.mesh_semantics.specs.Kind.{Kind, Alternative}
use Rattle.mesh_semantics.specs.Language.{Language}

-- an object of code in a configuration, with the error that it has met, and the receiver and the method of its call that is being served
pub record Placed : Type 0 where
  pub object : CodeObject
  pub fault : Option Error
  pub served : Option (ℕ × ℕ)

abbrev pub numbers : List NameId → List ℕ
numbers [] = []
numbers (n ∷ ns) = n.0 ∷ numbers ns

abbrev pub answered : Option (List NameId) → Option (List ℕ)
answered None = None
answered (Some ns) = Some (numbers ns)

abbrev pub alternatives_of : List Offered → List Alternative
alternatives_of [] = []
alternatives_of (a ∷ alts) = record { is_open = a.is_open; names = answered a.answer } ∷ alternatives_of alts

-- the next action of code as an action of the machine
abbrev pub kind_of : C.Kind → Kind
kind_of C.Finished = K.Finished
kind_of C.Local = K.Local
kind_of (C.Fault e) = K.Fault e
kind_of (C.New c) = K.New c.0
kind_of (C.Send b m args) = K.Send b m.0 args
kind_of (C.Async b m args) = K.Async b m.0 args
kind_of (C.Write item) = K.Write item
kind_of (C.Answer names) = K.Select (record { is_open = true; names = Some (numbers names) } ∷ [])
kind_of (C.Select alts) = K.Select (alternatives_of alts)
kind_of (C.Return k number v) = K.Return k v

-- an object whose call is being served waits
abbrev pub unless_served : Option (ℕ × ℕ) → Kind → Kind
unless_served None k = k
unless_served (Some w) k = K.Waits w.0 w.1

-- the number of frames without the body's
abbrev pub under_way : List Frame → ℕ
under_way [] = 0
under_way (f ∷ fs) = length fs

-- the caller that a frame serves, if any, in front of the callers
abbrev pub served_by : Serves → List ℕ → List ℕ
served_by (S.Caller k n) ks = k ∷ ks
served_by _ ks = ks

-- the callers that frames serve, the innermost first
abbrev pub callers_of : List Frame → List ℕ
callers_of [] = []
callers_of (f ∷ fs) = served_by f.serves (callers_of fs)

abbrev pub class_numbers : List ClassCode → List ℕ
class_numbers [] = []
class_numbers (k ∷ ks) = k.name.0 ∷ class_numbers ks

abbrev pub class_number : Option ClassCode → ℕ
class_number None = 0
class_number (Some k) = k.name.0

abbrev pub last_code : List ClassCode → Option ClassCode
last_code [] = None
last_code (k ∷ []) = Some k
last_code (k ∷ l ∷ ks) = last_code (l ∷ ks)

abbrev pub serves_for : Option ℕ → Serves
serves_for None = S.Sender
serves_for (Some k) = S.Caller k 0

-- an object that has met no error and waits for no call
abbrev pub placed : CodeObject → Placed
placed y = record { object = y; fault = None; served = None }

abbrev pub coded : Code → Language Placed
coded u = record {
  classes = class_numbers u.classes;
  root = last_code u.classes >>= λ k. code_made u k.name >>= λ y. Some (placed y);
  made = λ k. code_made u (id k) >>= λ y. Some (placed y);
  class = λ x. class_number (slice_get u.classes x.object.class);
  fault = λ x. x.fault;
  frames = λ x. under_way x.object.frames;
  callers = λ x. callers_of x.object.frames;
  kind = λ o x. unless_served x.served (kind_of (code_kind u x.object));
  stepped = λ o x. record x { object = code_stepped u o x.object };
  given = λ x v. record x { object = code_given u x.object v; served = None };
  waiting = λ x b m. record x { served = Some (b, m) };
  done = λ x. record x { object = code_gone_on u x.object };
  returned = λ x. record x { object = code_gone_on u x.object };
  picked = λ o x i. record x { object = code_picked u x.object i };
  serving = λ o x i m caller args. code_serving u x.object i (id m) args (serves_for caller) >>= λ z. Some (record x { object = z });
  faulted = λ x e. record x { fault = Some e };
}
