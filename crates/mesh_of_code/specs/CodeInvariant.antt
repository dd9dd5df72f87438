-- The invariant of a configuration of objects of code: each object is of the unit, and each value and each message names objects that exist.
-- The method of each message is in the unit's table of names, and an object that has met an error is still at that error.
-- An object waits for a call if and only if the receiver has exactly that call under way for it.
use Rattle.std.specs.Prelude.{◌≡◌, ℕ, ◌<◌, ◌==◌, List, [], ◌∷◌, length, Option, Some, None, Bool, false, if◌then◌else◌, IsTrue, slice_get}
use Rattle.std.specs.Ordering.{nat_cmp}
use Rattle.std.specs.FinMap.{is_sorted}
use Rattle.run_types.specs.declared.types.Value.{Value}
use Rattle.run_types.specs.declared.types.Value.TheVariants as V
use Rattle.run_types.specs.declared.types.Error.{Error}
use Rattle.run_types.specs.declared.types.Serves.{Serves}
use Rattle.run_types.specs.declared.types.Serves.TheVariants as S
use Rattle.code_semantics.specs.declared.unit.MethodCode.{MethodCode}
use Rattle.code_semantics.specs.declared.unit.ClassCode.{ClassCode}
use Rattle.code_semantics.specs.declared.unit.Unit.{Unit as Code}
use Rattle.run_types.specs.declared.frames.Frame.{Frame}
use Rattle.code_semantics.specs.Kinds as C
use Rattle.code_semantics.specs.Kinds.{code_kind}
use Rattle.code_semantics.specs.OfUnit.{IsObjectOf}
use Rattle.run_types.specs.Message.{Message}
use Rattle.mesh_semantics.specs.Act.{id}
use Rattle.mesh_semantics.specs.Kind as K
use Rattle.mesh_semantics.specs.Config.{Config, object_of, messages_of}
use Rattle.run_types.specs.Tables.{Each}
use Rattle.mesh_semantics.specs.Sound.{IsThere}
use Rattle.mesh_of_code.specs.Coded.{Placed, coded}

-- the name of a method of the class
abbrev pub method_number : Option MethodCode → ℕ
method_number None = 0
method_number (Some m) = m.name.0

abbrev pub number_in : Option ClassCode → Option ℕ → ℕ
number_in None j = 0
number_in (Some k) None = 0
number_in (Some k) (Some j) = method_number (slice_get k.methods j)

abbrev pub is_for : ℕ → Serves → Bool
is_for o (S.Caller k n) = k == o
is_for o S.Own = false
is_for o S.Sender = false

-- the methods under way for o, the innermost first
abbrev pub methods_for : Option ClassCode → ℕ → List Frame → List ℕ
methods_for k o [] = []
methods_for k o (f ∷ fs) = if is_for o f.serves then number_in k f.method ∷ methods_for k o fs else methods_for k o fs

-- the methods of an object that are under way for o
abbrev pub serving_for : Code → ℕ → Placed → List ℕ
serving_for u o y = methods_for (slice_get u.classes y.object.class) o y.object.frames

-- if the value names an object, that object exists
abbrev pub Names : Config Placed → Value → Type 0
Names c v = (b : ℕ) → v ≡ V.Ref b → IsThere c b

pub record IsOfCode (u : Code) (c : Config Placed) : Type 0 where
  pub in_order : IsTrue (is_sorted nat_cmp c.objects)
  pub of_unit : (o : ℕ) (x : Placed) → object_of c o ≡ Some x → IsObjectOf u (Names c) x.object
  pub messages : (s r : ℕ) → Each (λ (m : Message). IsThere c r × (m.method < length u.names) × Each (Names c) m.args) (messages_of c s r)
  pub fault : (o : ℕ) (x : Placed) (e : Error) → object_of c o ≡ Some x → x.fault ≡ Some e → (coded u).kind o x ≡ K.Fault e
  -- an object that waits for b to serve m is at its call, and b has that call under way for it, and no other
  pub waits : (o b m : ℕ) (x : Placed) → object_of c o ≡ Some x → x.served ≡ Some (b, m)
      → (y : Placed) × (args : List Value) × (object_of c b ≡ Some y) × (serving_for u o y ≡ m ∷ []) × (code_kind u x.object ≡ C.Send b (id m) args)
  -- an object for which b has a method under way waits for it
  pub served : (o b m : ℕ) (ms : List ℕ) (y : Placed) → object_of c b ≡ Some y → serving_for u o y ≡ m ∷ ms
      → (x : Placed) × (object_of c o ≡ Some x) × (x.served ≡ Some (b, m))
