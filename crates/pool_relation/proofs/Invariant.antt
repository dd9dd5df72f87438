-- A typed configuration, stated by the single test of typed terms.
use Rattle.std.proofs.Common.{◌≡◌, refl, IsTrue, ℕ, List, [], ◌∷◌, Option, Some, is_some, All}
use Rattle.std.specs.Ordering.{nat_cmp}
use Rattle.std.specs.FinMap.{is_sorted}
use Rattle.run_types.specs.declared.types.Error.{Error}
use Rattle.pool_syntax.specs.Terms.{Store, ProgramTree}
use Rattle.pool_syntax.specs.Classes.{class_of}
use Rattle.pool_relation.specs.Reducible.{At, Waiting, statements_redex}
use Rattle.pool_relation.specs.Action as A
use Rattle.pool_relation.specs.Action.{Object, action}
use Rattle.run_types.specs.Tables.{pair_cmp, no_entry_empty}
use Rattle.run_types.specs.Message.{Message}
use Rattle.pool_relation.specs.Configuration.{Configuration, object_of, messages_of}
use Rattle.pool_relation.specs.UnderWay.{serves}
use Rattle.pool_relation.specs.Typed.{class_at, scope, IsMessageFor, Typed}
use Rattle.pool_relation.proofs.typing.TypedTerm.{Waits}
use Rattle.pool_relation.proofs.typing.FromTyped.{statements_from}
use Rattle.pool_relation.proofs.typing.ToTyped.{statements_to}
use Rattle.pool_relation.proofs.action.TypedAction.{TypedObject}

-- the classes of the objects that are there
abbrev pub classes : Configuration → ℕ → Option ℕ
classes c n = class_at (object_of c n)

-- each message has its receiver, whose method it fits
abbrev pub FitsAt : ProgramTree → Configuration → ℕ → Message → Type 0
FitsAt p c r m = (y : Object) × (object_of c r ≡ Some y) × IsMessageFor p c y m

abbrev pub MessagesFit : ProgramTree → Configuration → ℕ → ℕ → List Message → Type 0
MessagesFit p c s r ms = All (FitsAt p c r) ms

-- each wait is served once, and what is served has its wait
pub record Served (p : ProgramTree) (c : Configuration) : Type 0 where
  pub waits : (o b m : ℕ) (x : Object) → object_of c o ≡ Some x → action p o x ≡ A.Waits b m
      → (y : Object) × (object_of c b ≡ Some y) × (serves o y.term ≡ m ∷ [])
  pub served : (o b m : ℕ) (ms : List ℕ) (y : Object) → object_of c b ≡ Some y → serves o y.term ≡ m ∷ ms
      → (x : Object) × (object_of c o ≡ Some x) × (action p o x ≡ A.Waits b m)

-- the objects, one by one
pub record Objects (p : ProgramTree) (c : Configuration) : Type 0 where
  pub class : (o : ℕ) (x : Object) → object_of c o ≡ Some x → IsTrue (is_some (class_of p x.class))
  pub typed : (o : ℕ) (x : Object) → object_of c o ≡ Some x → TypedObject p (classes c) x
  pub fault : (o : ℕ) (x : Object) (e : Error) → object_of c o ≡ Some x → x.fault ≡ Some e → action p o x ≡ A.Fault e

-- the two maps are in order
pub record InOrder (c : Configuration) : Type 0 where
  pub objects : IsTrue (is_sorted nat_cmp c.objects)
  pub messages : IsTrue (is_sorted pair_cmp c.messages)
  pub no_empty : IsTrue (no_entry_empty c.messages)

pub record Invariant (p : ProgramTree) (c : Configuration) : Type 0 where
  pub order : InOrder c
  pub objects : Objects p c
  pub messages : (s r : ℕ) → MessagesFit p c s r (messages_of c s r)
  pub serving : Served p c

pub invariant_of : (p : ProgramTree) (c : Configuration) → Typed p c → Invariant p c
invariant_of p c t = record {
  order = record { objects = t.in_order.0; messages = t.in_order.1; no_empty = t.no_empty };
  objects = record { class = t.class; typed = object; fault = t.fault };
  messages = t.messages;
  serving = record { waits = t.waits; served = t.served };
}
  where
    known : (o : ℕ) (x : Object) → object_of c o ≡ Some x → (b m : ℕ) (u : Store)
        → statements_redex [] x.term ≡ At (Waiting b m) u → IsTrue (is_some (classes c b))
    known o x e b m u q = let a : action p o x ≡ A.Waits b m = rw q refl in let y = t.waits o b m x e a in rw y.1 refl

    object : (o : ℕ) (x : Object) → object_of c o ≡ Some x → TypedObject p (classes c) x
    object o x e = record {
      vars = t.vars o x e;
      term = statements_from (scope p c x.class) [] x.term (t.term o x e) (t.sound o x e) (known o x e);
    }

pub typed_of : (p : ProgramTree) (c : Configuration) → Invariant p c → Typed p c
typed_of p c w = record {
  in_order = (w.order.objects, w.order.messages);
  no_empty = w.order.no_empty;
  class = w.objects.class;
  vars = λ o x e. (w.objects.typed o x e).vars;
  term = λ o x e. (statements_to Waits (scope p c x.class) x.term (w.objects.typed o x e).term).0;
  sound = λ o x e. (statements_to Waits (scope p c x.class) x.term (w.objects.typed o x e).term).1;
  fault = w.objects.fault;
  messages = w.messages;
  waits = w.serving.waits;
  served = w.serving.served;
}
