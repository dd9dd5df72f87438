-- Objects that are in a call, that have met an error, or that are left over, from the stepper's maps.
use Rattle.std.proofs.Common.{◌≡◌, ◌≢◌, refl, sym, ap, ◌∙◌, subst, ℕ, ◌≤◌, ◌<◌, List, [], ◌∷◌, Option, Some, None, is_some, Bool, true, false, IsTrue, not, ◌↔◌, length, cond, arith}
use Rattle.std.specs.Bool.{then_some}
use Rattle.std.specs.Ordering.{nat_cmp, is_eq}
use Rattle.std.specs.Cmp.{tied_itself}
use Rattle.std.specs.Option.{unwrap_or}
use Rattle.std.specs.FinMap.Entries.{find}
use Rattle.std.specs.Map.{lookup}
use Rattle.std.specs.BTreeMap.{BTreeMap, is_at}
use Rattle.run_types.specs.declared.types.Error.{Error}
use Rattle.run_types.specs.declared.types.NameId.{NameId}
use Rattle.pool_syntax.specs.Terms.{ProgramTree}
use Rattle.run_types.specs.Message.{Message}
use Rattle.run_types.specs.Tables.{Pair, pair_cmp, list_at, has_some, no_entry_empty}
use Rattle.run_types.proofs.Laws.{first, same_some}
use Rattle.pool_relation.specs.Action as A
use Rattle.pool_relation.specs.Action.{Object, Action, action}
use Rattle.pool_relation.specs.Configuration.{Configuration, object_of}
use Rattle.pool_relation.specs.Transition.{running}
use Rattle.pool_relation.proofs.Laws.{running_is}
use Rattle.reachability.specs.Search.{is_in_call, is_left_over, WaitsAt, StaysAt, HasLeftOver, AnObject, AMessage, IsFaulty}
use Rattle.stepper_objects.specs.declared.object_state.ObjectState.{ObjectState}
use Rattle.message_queue.specs.declared.Mail.{Mail}
use Rattle.pool_semantics.specs.Mails.{posts}
use Rattle.pool_semantics.specs.Moving.{IsTheOne, IsLeast}
use Rattle.pool_semantics.specs.SearchQueries.{call_of, called, WaitsFrom}
use Rattle.pool_semantics.proofs.ChoiceFreeSteps.{is_there}
use Rattle.pool_semantics.proofs.Labels.{with_objects}
use Rattle.pool_semantics.proofs.PairMessages.{pair_total}

running_of : (c : Configuration) (o : ℕ) (x : Object) → object_of c o ≡ Some x → x.fault ≡ None → running c o ≡ Some x
running_of c o x e n = rw (e, n) refl

pub called_some : (r : Option (ℕ × NameId)) → is_some (called r) ≡ is_some r
called_some None = refl
called_some (Some r) = refl

in_call_is : (a : Action) → is_in_call a ≡ is_some (call_of a)
in_call_is (A.Send b m args) = refl
in_call_is (A.Waits b m) = refl
in_call_is _ = refl

-- an object that waits

pub waits_below : (p : ProgramTree) (c : Configuration) (from o : ℕ) → o < from → IsTheOne (WaitsFrom p c from o) None
waits_below p c from o h = record { holds = tt; only = λ b t. absurd (let k : from ≤ b = t.1 in let e : b ≡ o = t.0 in omega (arith, h, k, e)) }

pub waits_nobody : (p : ProgramTree) (c : Configuration) (from o : ℕ) → running c o ≡ None → IsTheOne (WaitsFrom p c from o) None
waits_nobody p c from o r = record { holds = tt; only = λ b t. absurd (other b t.0 t.2) }
  where
    other : (b : ℕ) → b ≡ o → WaitsAt p c b → ⊥
    other b e w = let z : None ≡ Some w.object = sym r ∙ (ap (running c) (sym e) ∙ running_of c b w.object w.there w.sound) in cc

pub waits_told : (p : ProgramTree) (c : Configuration) (from o : ℕ) (x : Object) → running c o ≡ Some x → from ≤ o → (w : Bool) → is_some (call_of (action p o x)) ≡ w → IsTheOne (WaitsFrom p c from o) (then_some w o)
waits_told p c from o x r h true e =
    let k = running_is c o x r in
    record { holds = (refl, h, record { object = x; there = k.0; sound = k.1; waits = in_call_is (action p o x) ∙ e }); only = λ b t. ap Some (sym t.0) }
waits_told p c from o x r h false e = record { holds = tt; only = λ b t. absurd (other b t.0 t.2) }
  where
    other : (b : ℕ) → b ≡ o → WaitsAt p c b → ⊥
    other b i w =
        let same : w.object ≡ x = same_some (sym (running_of c b w.object w.there w.sound) ∙ (ap (running c) i ∙ r)) in
        let z : is_in_call (action p o x) ≡ true = ap (λ q. is_in_call (action p q x)) (sym i) ∙ (ap (λ y. is_in_call (action p b y)) (sym same) ∙ w.waits) in
        let f : false ≡ true = sym e ∙ (sym (in_call_is (action p o x)) ∙ z) in cc

pub waits_there : (p : ProgramTree) (m : BTreeMap ℕ ObjectState) (ms : List (Pair × List Message)) (from o b : ℕ) → WaitsFrom p (with_objects m ms) from o b → is_some (lookup (is_at (nat_cmp o)) m.entries) ≡ true
waits_there p m ms from o b t = is_there m ms o t.2.object (ap (object_of (with_objects m ms)) (sym t.0) ∙ t.2.there)

-- the least that waits
abbrev pub LeastWaits : ProgramTree → Configuration → ℕ → Option ℕ → Type 0
LeastWaits p c from r = IsLeast (λ b. (o : ℕ) × WaitsFrom p c from o b) r

pub none_waits : (p : ProgramTree) (c : Configuration) (from : ℕ) → LeastWaits p c from None → (o : ℕ) → from ≤ o → ¬ (WaitsAt p c o)
none_waits p c from l o h w = l.least o (o, (refl, h, w))

pub one_waits : (p : ProgramTree) (c : Configuration) (from a : ℕ) → LeastWaits p c from (Some a) → WaitsAt p c a
one_waits p c from a l = l.holds.1.2

pub least_waits : (p : ProgramTree) (c : Configuration) (from a : ℕ) → LeastWaits p c from (Some a) → (from ≤ a) × ((o : ℕ) → from ≤ o → WaitsAt p c o → a ≤ o)
least_waits p c from a l = (l.holds.1.1, λ o h w. l.least o (o, (refl, h, w)))

-- one that waits is in a call
pub waits_calls : (p : ProgramTree) (c : Configuration) (a : ℕ) (x : Object) → WaitsAt p c a → running c a ≡ Some x → call_of (action p a x) ≡ None → ⊥
waits_calls p c a x w r n =
    let same : w.object ≡ x = same_some (sym (running_of c a w.object w.there w.sound) ∙ r) in
    let z : is_some (call_of (action p a x)) ≡ true = sym (in_call_is (action p a x)) ∙ (ap (λ y. is_in_call (action p a y)) (sym same) ∙ w.waits) in
    let f : false ≡ true = sym (ap is_some n) ∙ z in cc

pub same_call : (p : ProgramTree) (c : Configuration) (a : ℕ) (x y : Object) (k : Option (ℕ × ℕ)) → running c a ≡ Some x → call_of (action p a x) ≡ k → object_of c a ≡ Some y → call_of (action p a y) ≡ k
same_call p c a x y k r e h = let same : x ≡ y = same_some (sym (running_is c a x r).0 ∙ h) in ap (λ z. call_of (action p a z)) (sym same) ∙ e

-- an object that is left over

pub stays : (p : ProgramTree) (c : Configuration) (o : ℕ) (x : Object) → running c o ≡ Some x → is_left_over (action p o x) ≡ true → StaysAt p c o
stays p c o x r e = let k = running_is c o x r in record { object = x; there = k.0; sound = k.1; stays = e }

pub goes : (p : ProgramTree) (c : Configuration) (o : ℕ) (x : Object) → running c o ≡ Some x → is_left_over (action p o x) ≡ false → ¬ (StaysAt p c o)
goes p c o x r e s =
    let same : s.object ≡ x = same_some (sym (running_of c o s.object s.there s.sound) ∙ r) in
    let z : false ≡ true = sym e ∙ (ap (λ y. is_left_over (action p o y)) (sym same) ∙ s.stays) in cc

pub goes_away : (p : ProgramTree) (c : Configuration) (o : ℕ) → running c o ≡ None → ¬ (StaysAt p c o)
goes_away p c o r s = let z : None ≡ Some s.object = sym r ∙ running_of c o s.object s.there s.sound in cc

-- by the name of the object, and by that of its entry
abbrev pub StaysBy : ProgramTree → Configuration → ℕ → ℕ → Type 0
StaysBy p c o b = (b ≡ o) × StaysAt p c o

pub stays_there : (p : ProgramTree) (m : BTreeMap ℕ ObjectState) (ms : List (Pair × List Message)) (o b : ℕ) → StaysBy p (with_objects m ms) o b → is_some (lookup (is_at (nat_cmp o)) m.entries) ≡ true
stays_there p m ms o b t = is_there m ms o t.1.object t.1.there

pub not_staying : (p : ProgramTree) (c : Configuration) (o : ℕ) → ¬ (StaysAt p c o) → IsTheOne (StaysBy p c o) None
not_staying p c o n = record { holds = tt; only = λ b t. absurd (n t.1) }

-- an object that met an error
abbrev pub FailedAt : Configuration → ℕ → Type 0
FailedAt c o = (x : Object) × (object_of c o ≡ Some x) × (x.fault ≢ None)

abbrev pub FailedBy : Configuration → ℕ → ℕ → Type 0
FailedBy c o b = (b ≡ o) × FailedAt c o

pub failed_there : (m : BTreeMap ℕ ObjectState) (ms : List (Pair × List Message)) (o b : ℕ) → FailedBy (with_objects m ms) o b → is_some (lookup (is_at (nat_cmp o)) m.entries) ≡ true
failed_there m ms o b t = is_there m ms o t.1.0 t.1.1

pub failed : (c : Configuration) (o : ℕ) (x : Object) → object_of c o ≡ Some x → is_some x.fault ≡ true → FailedAt c o
failed c o x e h = (x, e, λ n. let z : false ≡ true = sym (ap is_some n) ∙ h in absurd (cc))

pub not_failed : (c : Configuration) (o : ℕ) (x : Object) → object_of c o ≡ Some x → is_some x.fault ≡ false → IsTheOne (FailedBy c o) None
not_failed c o x e h = record { holds = tt; only = λ b t. absurd (other t.1) }
  where
    none_of : (f : Option Error) → is_some f ≡ false → f ≡ None
    none_of None i = refl
    none_of (Some r) i = absurd (let z : true ≡ false = i in cc)

    other : FailedAt c o → ⊥
    other t = let same : t.0 ≡ x = same_some (sym t.1 ∙ e) in t.2 (ap (λ (y : Object). y.fault) same ∙ none_of x.fault h)

pub no_fault_at_all : (c : Configuration) → ((o b : ℕ) → ¬ (FailedBy c o b)) → ¬ (IsFaulty c)
no_fault_at_all c n f = n f.name f.name (refl, (f.object, f.there, f.met))

-- what is left over

pub nothing_left : (p : ProgramTree) (c : Configuration) → ((o : ℕ) → ¬ (StaysAt p c o)) → c.messages ≡ [] → ¬ (HasLeftOver p c)
nothing_left p c n e (AnObject o s) = n o s
nothing_left p c n e (AMessage s r h) =
    let z : false ≡ true = sym (ap (λ ms. has_some (list_at pair_cmp (s, r) ms)) e) ∙ h in cc

-- the first pair has a message, since no entry is empty
pub message_left : (p : ProgramTree) (c : Configuration) → IsTrue (no_entry_empty c.messages) → (c.messages ≢ []) → HasLeftOver p c
message_left p c h n = by c.messages refl
  where
    by : (ms : List (Pair × List Message)) → c.messages ≡ ms → HasLeftOver p c
    by [] e = absurd (n e)
    by (f ∷ ms) e = AMessage f.0.0 f.0.1 (ap (λ l. has_some (list_at pair_cmp f.0 l)) e ∙ at_head f ms (subst (λ l. IsTrue (no_entry_empty l)) e h))
      where
        at_head : (f : Pair × List Message) (ms : List (Pair × List Message)) → IsTrue (no_entry_empty (f ∷ ms)) → has_some (list_at pair_cmp f.0 (f ∷ ms)) ≡ true
        at_head f ms k = subst (λ o. has_some (unwrap_or (cond (is_eq o) (Some f.1) (find pair_cmp f.0 ms)) []) ≡ true) (sym (tied_itself pair_total f.0)) (first (has_some f.1) (no_entry_empty ms) k)

-- the map of messages is empty where no pair has one
pub nothing_posted : (es : List (Pair × List Mail)) (b : Bool) → (IsTrue b ↔ (length es ≡ 0)) → not b ≡ false → posts es ≡ []
nothing_posted [] b h e = refl
nothing_posted (f ∷ es) true h e = absurd (let z : length (f ∷ es) ≡ 0 = h.0 refl in omega (arith, z))
nothing_posted (f ∷ es) false h e = absurd (let z : true ≡ false = e in cc)

pub some_posted : (es : List (Pair × List Mail)) (b : Bool) → (IsTrue b ↔ (length es ≡ 0)) → not b ≡ true → (posts es ≢ [])
some_posted [] true h e n = let z : false ≡ true = e in cc
some_posted [] false h e n = let z : false ≡ true = h.1 refl in cc
some_posted (f ∷ es) b h e n = absurd (cc)
