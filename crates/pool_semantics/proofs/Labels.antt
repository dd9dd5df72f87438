-- The transitions of each label, from the next actions of objects.
use Rattle.std.proofs.Common.{◌≡◌, refl, ap, ap₂, sym, ◌∙◌, ℕ, List, [], ◌∷◌, ◌++◌, Option, Some, None, is_none, is_some, not, length, Bool, true, false, ◌==◌, ◌&&◌, arith}
use Rattle.std.specs.Ordering.{nat_cmp}
use Rattle.std.specs.FinMap.{find}
use Rattle.std.specs.BTreeMap.{BTreeMap, get}
use Rattle.std.specs.Option.{option_map}
use Rattle.run_types.specs.declared.types.Error.{Error}
use Rattle.run_types.specs.declared.types.Label.TheVariants as L
use Rattle.run_types.specs.declared.types.NameId.{NameId}
use Rattle.run_types.specs.declared.types.Item.{Item}
use Rattle.run_types.specs.declared.types.Value.{Value}
use Rattle.run_types.specs.declared.types.Value.TheVariants as V
use Rattle.pool_syntax.specs.Classes.{class_of}
use Rattle.pool_syntax.specs.Terms.{Statements, MethodTree, ClassTree, ProgramTree}
use Rattle.pool_relation.specs.Reducible.{Choice, AsStatements, AsExpression}
use Rattle.pool_relation.specs.Action as A
use Rattle.stepper_objects.specs.declared.object_state.ObjectState.{ObjectState}
use Rattle.object_acts.specs.declared.change.Change.{Change}
use Rattle.object_acts.specs.declared.act.Act.{Act}
use Rattle.object_acts.specs.declared.act.Act.TheVariants as C
use Rattle.object_acts.specs.declared.change.Change.TheVariants as H
use Rattle.pool_relation.specs.Action.{Object, action, method_of}
use Rattle.run_types.specs.Tables.{Pair}
use Rattle.run_types.specs.Message.{Message}
use Rattle.pool_relation.specs.Configuration.{Configuration, object_of, put_object, messages_of, put_messages}
use Rattle.run_types.specs.Partial.{◌>>=◌, ◌>>◌, require}
use Rattle.pool_relation.specs.Transition.{transition, running, without_fault, local_step, makes, writes, fails, returns, waits_on, calls, posts, offer, has_message, first_message, without_first, serving, picked, refilled, new_object}
use Rattle.run_types.specs.Same.{are_same, is_same_item, error_number}
use Rattle.object_acts.specs.Acts.{acted, changed, is_local, returns_act, waits_act, calls_act, posts_act}
use Rattle.stepper_terms.specs.Arguments.{now_args, now_names, now_choices}
use Rattle.stepper_objects.specs.ObjectStates.{thing_object, things}
use Rattle.pool_syntax.specs.Terms as T
use Rattle.pool_syntax.specs.declared.tree.Named.{Named}
use Rattle.pool_relation.specs.Transition as X
use Rattle.stepper_objects.specs.Offers.{offer_act}
use Rattle.run_types.specs.declared.verdicts.Redex.TheVariants as R
use Rattle.pool_semantics.specs.Shown.{shown, shown_of, shown_if, shown_at}
use Rattle.pool_semantics.specs.Plains.{Doing}
use Rattle.pool_semantics.proofs.MapAbstraction.{things_lookup}

-- the objects of this map, and these messages
abbrev pub with_objects : BTreeMap ℕ ObjectState → List (Pair × List Message) → Configuration
with_objects m ms = record { objects = things m.entries; messages = ms }

pub running_none : (m : BTreeMap ℕ ObjectState) (ms : List (Pair × List Message)) (o : ℕ) → get nat_cmp m o ≡ None → running (with_objects m ms) o ≡ None
running_none m ms o h = let e = things_lookup o m.entries in rw (e, h) refl

pub running_faulted : (m : BTreeMap ℕ ObjectState) (ms : List (Pair × List Message)) (o : ℕ) (t : ObjectState) (e : Error) → get nat_cmp m o ≡ Some t → t.fault ≡ Some e → running (with_objects m ms) o ≡ None
running_faulted m ms o t e h f = let k = things_lookup o m.entries in rw (k, h, f) refl

pub running_doing : (p : ProgramTree) (m : BTreeMap ℕ ObjectState) (ms : List (Pair × List Message)) (o : ℕ) (t : ObjectState) (a : Act) → Doing p m o t a → running (with_objects m ms) o ≡ Some (thing_object t)
running_doing p m ms o t a d = let k = things_lookup o m.entries in rw (k, d.found, d.sound) refl

-- local transitions
changed_keeps : (x : Object) (vs : _) (h : Change) → is_local h ≡ true → record x { term = (changed x vs h).term; vars = (changed x vs h).vars } ≡ changed x vs h
changed_keeps x vs H.Returned e = absurd (grind arith)
changed_keeps x vs (H.Wait b m) e = absurd (grind arith)
changed_keeps x vs (H.Serve m k args after) e = absurd (grind arith)
changed_keeps x vs (H.Fault f) e = absurd (grind arith)
changed_keeps x vs (H.Becomes v) e = refl
changed_keeps x vs H.Done e = refl
changed_keeps x vs (H.SetTemp n v) e = refl
changed_keeps x vs (H.SetVariable n v) e = refl
changed_keeps x vs (H.Branch ss) e = refl
changed_keeps x vs (H.Repeat k ss) e = refl
changed_keeps x vs (H.Unfold k ss) e = refl
changed_keeps x vs (H.Call m) e = refl
changed_keeps x vs (H.Leave v) e = refl
changed_keeps x vs H.End e = refl

pub local_made : (p : ProgramTree) (m : BTreeMap ℕ ObjectState) (ms : List (Pair × List Message)) (o : ℕ) (t : ObjectState) (h : Change) → Doing p m o t (C.Local h)
    → transition p (with_objects m ms) (L.Local o) ≡ Some (put_object (with_objects m ms) o (changed (thing_object t) (now_args t.work.next) h))
local_made p m ms o t h d =
    rw (running_doing p m ms o t (C.Local h) d, d.gives) (ap (λ y. Some (put_object (with_objects m ms) o y)) (changed_keeps (thing_object t) (now_args t.work.next) h d.suits.1))

pub local_refused : (p : ProgramTree) (m : BTreeMap ℕ ObjectState) (ms : List (Pair × List Message)) (o : ℕ) (t : ObjectState) (a : Act) → Doing p m o t a → ((h : Change) → a ≡ C.Local h → ⊥) → transition p (with_objects m ms) (L.Local o) ≡ None
local_refused p m ms o t (C.Local h) d n = absurd (n h refl)
local_refused p m ms o t C.Finished d n = rw (running_doing p m ms o t C.Finished d, d.gives) refl
local_refused p m ms o t (C.Fault e) d n = rw (running_doing p m ms o t (C.Fault e) d, d.gives) refl
local_refused p m ms o t (C.New k) d n = rw (running_doing p m ms o t (C.New k) d, d.gives) refl
local_refused p m ms o t (C.Send b k) d n = rw (running_doing p m ms o t (C.Send b k) d, d.gives) refl
local_refused p m ms o t (C.Async b k) d n = rw (running_doing p m ms o t (C.Async b k) d, d.gives) refl
local_refused p m ms o t (C.Write i) d n = rw (running_doing p m ms o t (C.Write i) d, d.gives) refl
local_refused p m ms o t C.Answer d n = rw (running_doing p m ms o t C.Answer d, d.gives) refl
local_refused p m ms o t C.Select d n = rw (running_doing p m ms o t C.Select d, d.gives) refl
local_refused p m ms o t (C.Return k v) d n = rw (running_doing p m ms o t (C.Return k v) d, d.gives) refl
local_refused p m ms o t (C.Waits b k) d n = rw (running_doing p m ms o t (C.Waits b k) d, d.gives) refl
local_refused p m ms o t C.Stuck d n = rw (running_doing p m ms o t C.Stuck d, d.gives) refl

-- a write
abbrev pub writes_act : Act → Item → Bool
writes_act (C.Write i) j = is_same_item i j
writes_act _ j = false

writes_acted : (x : Object) (vs : _) (ns : _) (cs : _) (a : Act) (j : Item) → writes (acted x vs ns cs a) j ≡ writes_act a j
writes_acted x vs ns cs (C.Write i) j = refl
writes_acted x vs ns cs _ j = refl

write_is : (p : ProgramTree) (m : BTreeMap ℕ ObjectState) (ms : List (Pair × List Message)) (o : ℕ) (t : ObjectState) (a : Act) (j : Item) → Doing p m o t a
    → transition p (with_objects m ms) (L.Write o j) ≡ (require (writes_act a j) >> Some (put_object (with_objects m ms) o (changed (thing_object t) (now_args t.work.next) H.Done)))
write_is p m ms o t a j d = rw (running_doing p m ms o t a d, d.gives, writes_acted (thing_object t) (now_args t.work.next) (now_names t.work.next) (now_choices t.work.next) a j) refl

pub write_made : (p : ProgramTree) (m : BTreeMap ℕ ObjectState) (ms : List (Pair × List Message)) (o : ℕ) (t : ObjectState) (i j : Item) → Doing p m o t (C.Write i) → is_same_item i j ≡ true
    → transition p (with_objects m ms) (L.Write o j) ≡ Some (put_object (with_objects m ms) o (changed (thing_object t) (now_args t.work.next) H.Done))
write_made p m ms o t i j d h = write_is p m ms o t (C.Write i) j d ∙ rw h refl

pub write_other : (p : ProgramTree) (m : BTreeMap ℕ ObjectState) (ms : List (Pair × List Message)) (o : ℕ) (t : ObjectState) (i j : Item) → Doing p m o t (C.Write i) → is_same_item i j ≡ false
    → transition p (with_objects m ms) (L.Write o j) ≡ None
write_other p m ms o t i j d h = write_is p m ms o t (C.Write i) j d ∙ rw h refl

no_write : (a : Act) (j : Item) → ((i : Item) → a ≡ C.Write i → ⊥) → writes_act a j ≡ false
no_write (C.Write i) j n = absurd (n i refl)
no_write _ j n = refl

pub write_refused : (p : ProgramTree) (m : BTreeMap ℕ ObjectState) (ms : List (Pair × List Message)) (o : ℕ) (t : ObjectState) (a : Act) (j : Item) → Doing p m o t a → ((i : Item) → a ≡ C.Write i → ⊥)
    → transition p (with_objects m ms) (L.Write o j) ≡ None
write_refused p m ms o t a j d n = write_is p m ms o t a j d ∙ rw (no_write a j n) refl

-- a fault
abbrev pub fails_act : Act → Error → Bool
fails_act (C.Fault e) f = error_number e == error_number f
fails_act _ f = false

fails_acted : (x : Object) (vs : _) (ns : _) (cs : _) (a : Act) (f : Error) → fails (acted x vs ns cs a) f ≡ fails_act a f
fails_acted x vs ns cs (C.Fault e) f = refl
fails_acted x vs ns cs _ f = refl

fault_is : (p : ProgramTree) (m : BTreeMap ℕ ObjectState) (ms : List (Pair × List Message)) (o : ℕ) (t : ObjectState) (a : Act) (f : Error) → Doing p m o t a
    → transition p (with_objects m ms) (L.Fault o f) ≡ (require (fails_act a f) >> Some (put_object (with_objects m ms) o (changed (thing_object t) (now_args t.work.next) (H.Fault f))))
fault_is p m ms o t a f d = rw (running_doing p m ms o t a d, d.gives, fails_acted (thing_object t) (now_args t.work.next) (now_names t.work.next) (now_choices t.work.next) a f) refl

pub fault_made : (p : ProgramTree) (m : BTreeMap ℕ ObjectState) (ms : List (Pair × List Message)) (o : ℕ) (t : ObjectState) (e f : Error) → Doing p m o t (C.Fault e) → (error_number e == error_number f) ≡ true
    → transition p (with_objects m ms) (L.Fault o f) ≡ Some (put_object (with_objects m ms) o (changed (thing_object t) (now_args t.work.next) (H.Fault f)))
fault_made p m ms o t e f d h = fault_is p m ms o t (C.Fault e) f d ∙ rw h refl

pub fault_other : (p : ProgramTree) (m : BTreeMap ℕ ObjectState) (ms : List (Pair × List Message)) (o : ℕ) (t : ObjectState) (e f : Error) → Doing p m o t (C.Fault e) → (error_number e == error_number f) ≡ false
    → transition p (with_objects m ms) (L.Fault o f) ≡ None
fault_other p m ms o t e f d h = fault_is p m ms o t (C.Fault e) f d ∙ rw h refl

no_fault : (a : Act) (f : Error) → ((e : Error) → a ≡ C.Fault e → ⊥) → fails_act a f ≡ false
no_fault (C.Fault e) f n = absurd (n e refl)
no_fault _ f n = refl

pub fault_refused : (p : ProgramTree) (m : BTreeMap ℕ ObjectState) (ms : List (Pair × List Message)) (o : ℕ) (t : ObjectState) (a : Act) (f : Error) → Doing p m o t a → ((e : Error) → a ≡ C.Fault e → ⊥)
    → transition p (with_objects m ms) (L.Fault o f) ≡ None
fault_refused p m ms o t a f d n = fault_is p m ms o t a f d ∙ rw (no_fault a f n) refl

-- a pick
abbrev pub picked_act : Act → List Choice → ℕ → Option Statements
picked_act C.Select cs i = picked (A.Select cs) i
picked_act _ cs i = None

picked_acted : (x : Object) (vs : _) (ns : _) (cs : _) (a : Act) (i : ℕ) → picked (acted x vs ns cs a) i ≡ picked_act a cs i
picked_acted x vs ns cs C.Select i = refl
picked_acted x vs ns cs _ i = refl

pub pick_is : (p : ProgramTree) (m : BTreeMap ℕ ObjectState) (ms : List (Pair × List Message)) (o : ℕ) (t : ObjectState) (a : Act) (i : ℕ) → Doing p m o t a
    → transition p (with_objects m ms) (L.Pick o i) ≡ (picked_act a (now_choices t.work.next) i >>= λ work. Some (put_object (with_objects m ms) o (refilled (thing_object t) (AsStatements work))))
pick_is p m ms o t a i d = rw (running_doing p m ms o t a d, d.gives, picked_acted (thing_object t) (now_args t.work.next) (now_names t.work.next) (now_choices t.work.next) a i) refl

no_pick : (a : Act) (cs : List Choice) (i : ℕ) → (a ≡ C.Select → ⊥) → picked_act a cs i ≡ None
no_pick C.Select cs i n = absurd (n refl)
no_pick _ cs i n = refl

pub pick_refused : (p : ProgramTree) (m : BTreeMap ℕ ObjectState) (ms : List (Pair × List Message)) (o : ℕ) (t : ObjectState) (a : Act) (i : ℕ) → Doing p m o t a → (a ≡ C.Select → ⊥)
    → transition p (with_objects m ms) (L.Pick o i) ≡ None
pick_refused p m ms o t a i d n = pick_is p m ms o t a i d ∙ rw (no_pick a (now_choices t.work.next) i n) refl

pub pick_other : (p : ProgramTree) (m : BTreeMap ℕ ObjectState) (ms : List (Pair × List Message)) (o : ℕ) (t : ObjectState) (i : ℕ) → Doing p m o t C.Select → picked (A.Select (now_choices t.work.next)) i ≡ None
    → transition p (with_objects m ms) (L.Pick o i) ≡ None
pick_other p m ms o t i d h = pick_is p m ms o t C.Select i d ∙ rw h refl

pub pick_made : (p : ProgramTree) (m : BTreeMap ℕ ObjectState) (ms : List (Pair × List Message)) (o : ℕ) (t : ObjectState) (i : ℕ) (work : Statements) → Doing p m o t C.Select → picked (A.Select (now_choices t.work.next)) i ≡ Some work
    → transition p (with_objects m ms) (L.Pick o i) ≡ Some (put_object (with_objects m ms) o (refilled (thing_object t) (AsStatements work)))
pick_made p m ms o t i work d h = pick_is p m ms o t C.Select i d ∙ rw h refl

-- a new object
abbrev pub makes_act : Act → ℕ → Bool
makes_act (C.New k) c = k.0 == c
makes_act _ c = false

makes_acted : (x : Object) (vs : _) (ns : _) (cs : _) (a : Act) (k : ℕ) → makes (acted x vs ns cs a) k ≡ makes_act a k
makes_acted x vs ns cs (C.New c) k = refl
makes_acted x vs ns cs _ k = refl

pub new_is : (p : ProgramTree) (m : BTreeMap ℕ ObjectState) (ms : List (Pair × List Message)) (o n : ℕ) (k : NameId) (t : ObjectState) (a : Act) → Doing p m o t a
    → transition p (with_objects m ms) (L.New o n k)
    ≡ (require (makes_act a k.0 && is_none (object_of (with_objects m ms) n)) >> (class_of p k.0 >>= λ class. Some (put_object (put_object (with_objects m ms) o (changed (thing_object t) (now_args t.work.next) (H.Becomes (V.Ref n)))) n (new_object class))))
new_is p m ms o n k t a d = rw (running_doing p m ms o t a d, d.gives, makes_acted (thing_object t) (now_args t.work.next) (now_names t.work.next) (now_choices t.work.next) a k.0) refl

no_new : (a : Act) (k : ℕ) → ((c : NameId) → a ≡ C.New c → ⊥) → makes_act a k ≡ false
no_new (C.New c) k n = absurd (n c refl)
no_new _ k n = refl

pub new_refused : (p : ProgramTree) (m : BTreeMap ℕ ObjectState) (ms : List (Pair × List Message)) (o n : ℕ) (k : NameId) (t : ObjectState) (a : Act) → Doing p m o t a → ((c : NameId) → a ≡ C.New c → ⊥)
    → transition p (with_objects m ms) (L.New o n k) ≡ None
new_refused p m ms o n k t a d h = new_is p m ms o n k t a d ∙ rw (no_new a k.0 h) refl

pub new_other : (p : ProgramTree) (m : BTreeMap ℕ ObjectState) (ms : List (Pair × List Message)) (o n : ℕ) (k c : NameId) (t : ObjectState) → Doing p m o t (C.New c) → (c.0 == k.0) ≡ false
    → transition p (with_objects m ms) (L.New o n k) ≡ None
new_other p m ms o n k c t d h = new_is p m ms o n k t (C.New c) d ∙ rw h refl

taken : (r : Option ObjectState) → is_some r ≡ true → is_none (option_map thing_object r) ≡ false
taken None h = absurd (grind arith)
taken (Some t) h = refl

untaken : (r : Option ObjectState) → is_some r ≡ false → is_none (option_map thing_object r) ≡ true
untaken None h = refl
untaken (Some t) h = absurd (grind arith)

and_false : (b : Bool) → (b && false) ≡ false
and_false true = refl
and_false false = refl

pub new_used : (p : ProgramTree) (m : BTreeMap ℕ ObjectState) (ms : List (Pair × List Message)) (o n : ℕ) (k c : NameId) (t : ObjectState) → Doing p m o t (C.New c) → is_some (get nat_cmp m n) ≡ true
    → transition p (with_objects m ms) (L.New o n k) ≡ None
new_used p m ms o n k c t d h =
    let e : is_none (find nat_cmp n (things m.entries)) ≡ false = ap is_none (things_lookup n m.entries) ∙ taken (get nat_cmp m n) h in
    new_is p m ms o n k t (C.New c) d ∙ rw (e, and_false (c.0 == k.0)) refl

nothing : (r : Option (Unit {0})) (o : Option Configuration) → o ≡ None → (r >> o) ≡ None
nothing None o h = refl
nothing (Some u) o h = h

pub new_made : (p : ProgramTree) (m : BTreeMap ℕ ObjectState) (ms : List (Pair × List Message)) (o n : ℕ) (k c : NameId) (t : ObjectState) (class : ClassTree) → Doing p m o t (C.New c) → (c.0 == k.0) ≡ true → is_some (get nat_cmp m n) ≡ false → class_of p k.0 ≡ Some class
    → transition p (with_objects m ms) (L.New o n k) ≡ Some (put_object (put_object (with_objects m ms) o (changed (thing_object t) (now_args t.work.next) (H.Becomes (V.Ref n)))) n (new_object class))
new_made p m ms o n k c t class d h g f =
    let e : is_none (find nat_cmp n (things m.entries)) ≡ true = ap is_none (things_lookup n m.entries) ∙ untaken (get nat_cmp m n) g in
    new_is p m ms o n k t (C.New c) d ∙ rw (h, e, f) refl

-- a return
returns_acted : (x : Object) (vs : _) (ns : _) (cs : _) (a : Act) (o : ℕ) (w : Value) → returns (acted x vs ns cs a) o w ≡ returns_act a o w
returns_acted x vs ns cs (C.Return k v) o w = refl
returns_acted x vs ns cs _ o w = refl

waits_acted : (x : Object) (vs : _) (ns : _) (cs : _) (a : Act) (r : ℕ) → waits_on (acted x vs ns cs a) r ≡ waits_act a r
waits_acted x vs ns cs (C.Waits b k) r = refl
waits_acted x vs ns cs _ r = refl

bind_none : (r : Option Object) (f : Object → Option Configuration) → ((x : Object) → f x ≡ None) → (r >>= f) ≡ None
bind_none None f h = refl
bind_none (Some x) f h = h x

pub return_is : (p : ProgramTree) (m : BTreeMap ℕ ObjectState) (ms : List (Pair × List Message)) (b o : ℕ) (v : Value) (y x : ObjectState) (a1 a2 : Act) → Doing p m b y a1 → Doing p m o x a2
    → transition p (with_objects m ms) (L.Return b o v)
    ≡ (require (returns_act a1 o v && waits_act a2 b) >> Some (put_object (put_object (with_objects m ms) b (changed (thing_object y) (now_args y.work.next) H.Returned)) o (changed (thing_object x) (now_args x.work.next) (H.Becomes v))))
return_is p m ms b o v y x a1 a2 d g =
    rw (running_doing p m ms b y a1 d, running_doing p m ms o x a2 g, d.gives, g.gives, returns_acted (thing_object y) (now_args y.work.next) (now_names y.work.next) (now_choices y.work.next) a1 o v, waits_acted (thing_object x) (now_args x.work.next) (now_names x.work.next) (now_choices x.work.next) a2 b) refl

-- the receiver is at no such return
pub return_refused : (p : ProgramTree) (m : BTreeMap ℕ ObjectState) (ms : List (Pair × List Message)) (b o : ℕ) (v : Value) (y : ObjectState) (a : Act) → Doing p m b y a → returns_act a o v ≡ false
    → transition p (with_objects m ms) (L.Return b o v) ≡ None
return_refused p m ms b o v y a d h =
    rw (running_doing p m ms b y a d, d.gives, returns_acted (thing_object y) (now_args y.work.next) (now_names y.work.next) (now_choices y.work.next) a o v, h)
    (bind_none (running (with_objects m ms) o) _ (λ x. refl))

both_false : (a b : Bool) → b ≡ false → (a && b) ≡ false
both_false true b h = h
both_false false b h = refl

pub return_unawaited : (p : ProgramTree) (m : BTreeMap ℕ ObjectState) (ms : List (Pair × List Message)) (b o : ℕ) (v : Value) (y x : ObjectState) (a1 a2 : Act) → Doing p m b y a1 → Doing p m o x a2 → waits_act a2 b ≡ false
    → transition p (with_objects m ms) (L.Return b o v) ≡ None
return_unawaited p m ms b o v y x a1 a2 d g h = let k = both_false (returns_act a1 o v) (waits_act a2 b) h in return_is p m ms b o v y x a1 a2 d g ∙ rw k refl

pub return_made : (p : ProgramTree) (m : BTreeMap ℕ ObjectState) (ms : List (Pair × List Message)) (b o : ℕ) (v : Value) (y x : ObjectState) (a1 a2 : Act) → Doing p m b y a1 → Doing p m o x a2 → returns_act a1 o v ≡ true → waits_act a2 b ≡ true
    → transition p (with_objects m ms) (L.Return b o v) ≡ Some (put_object (put_object (with_objects m ms) b (changed (thing_object y) (now_args y.work.next) H.Returned)) o (changed (thing_object x) (now_args x.work.next) (H.Becomes v)))
return_made p m ms b o v y x a1 a2 d g h k = return_is p m ms b o v y x a1 a2 d g ∙ rw (h, k) refl

-- who returns does not wait
pub return_apart : (p : ProgramTree) (m : BTreeMap ℕ ObjectState) (b o k q : ℕ) (v : Value) (n : NameId) (y x : ObjectState) → Doing p m b y (C.Return k v) → Doing p m o x (C.Waits q n) → o ≡ b → ⊥
return_apart p m b o k q v n y x d g e =
    let f : Some y ≡ Some x = sym d.found ∙ ap (get nat_cmp m) (sym e) ∙ g.found in
    let same : y ≡ x = cc in
    let z : A.Return k v ≡ A.Waits q n.0 = sym d.gives ∙ ap₂ (λ w u. action p w (thing_object u)) (sym e) same ∙ g.gives in
    cc

pub return_by_two : (p : ProgramTree) (m : BTreeMap ℕ ObjectState) (b o : ℕ) (v : Value) (y x : ObjectState) (a1 a2 : Act) → Doing p m b y a1 → Doing p m o x a2 → returns_act a1 o v ≡ true → waits_act a2 b ≡ true → o ≡ b → ⊥
return_by_two p m b o v y x (C.Return k w) (C.Waits q n) d g h i e = return_apart p m b o k q w n y x d g e
return_by_two p m b o v y x (C.Return k w) _ d g h i e = grind arith
return_by_two p m b o v y x _ a2 d g h i e = grind arith

-- an answer
calls_acted : (x : Object) (vs : List Value) (ns : _) (cs : _) (a : Act) (b n : ℕ) (args : List Value) → calls (acted x vs ns cs a) b n args ≡ calls_act a b n (are_same vs args)
calls_acted x vs ns cs (C.Send b k) r n args = refl
calls_acted x vs ns cs _ r n args = refl

offer_acted : (x : Object) (vs : List Value) (ns : List Named) (cs : List Choice) (a : Act) (n : ℕ) → offer (acted x vs ns cs a) n ≡ offer_act a ns cs n
offer_acted x vs ns cs C.Answer n = refl
offer_acted x vs ns cs C.Select n = refl
offer_acted x vs ns cs _ n = refl

-- what an answer does, from the offer on
abbrev pub answered_by : ProgramTree → Configuration → ℕ → ℕ → NameId → List Value → Object → Object → Option X.Offer → Option Configuration
answered_by p c b o n args x y w =
    w >>= λ v. require (not (has_message v.names (messages_of c o b))) >> (method_of p y.class n.0 (length args) >>= λ k. Some (put_object (put_object c o (refilled x (AsExpression (T.Wait b n.0)))) b (serving y k (Some o) args v.work)))

pub answer_is : (p : ProgramTree) (m : BTreeMap ℕ ObjectState) (ms : List (Pair × List Message)) (b o : ℕ) (n : NameId) (args : List Value) (x y : ObjectState) (a1 a2 : Act) → Doing p m o x a1 → Doing p m b y a2
    → transition p (with_objects m ms) (L.Answer b o n args)
    ≡ (require (calls_act a1 b n.0 (are_same (now_args x.work.next) args)) >> answered_by p (with_objects m ms) b o n args (thing_object x) (thing_object y) (offer_act a2 (now_names y.work.next) (now_choices y.work.next) n.0))
answer_is p m ms b o n args x y a1 a2 d g =
    rw (running_doing p m ms o x a1 d, running_doing p m ms b y a2 g, d.gives, g.gives, calls_acted (thing_object x) (now_args x.work.next) (now_names x.work.next) (now_choices x.work.next) a1 b n.0 args, offer_acted (thing_object y) (now_args y.work.next) (now_names y.work.next) (now_choices y.work.next) a2 n.0) refl

pub answer_refused : (p : ProgramTree) (m : BTreeMap ℕ ObjectState) (ms : List (Pair × List Message)) (b o : ℕ) (n : NameId) (args : List Value) (x : ObjectState) (a : Act) → Doing p m o x a → calls_act a b n.0 (are_same (now_args x.work.next) args) ≡ false
    → transition p (with_objects m ms) (L.Answer b o n args) ≡ None
answer_refused p m ms b o n args x a d h =
    rw (running_doing p m ms o x a d, d.gives, calls_acted (thing_object x) (now_args x.work.next) (now_names x.work.next) (now_choices x.work.next) a b n.0 args, h)
    (bind_none (running (with_objects m ms) b) _ (λ y. refl))

pub answer_without : (p : ProgramTree) (m : BTreeMap ℕ ObjectState) (ms : List (Pair × List Message)) (b o : ℕ) (n : NameId) (args : List Value) (x y : ObjectState) (a1 a2 : Act) → Doing p m o x a1 → Doing p m b y a2
    → answered_by p (with_objects m ms) b o n args (thing_object x) (thing_object y) (offer_act a2 (now_names y.work.next) (now_choices y.work.next) n.0) ≡ None
    → transition p (with_objects m ms) (L.Answer b o n args) ≡ None
answer_without p m ms b o n args x y a1 a2 d g h =
    answer_is p m ms b o n args x y a1 a2 d g ∙ nothing (require (calls_act a1 b n.0 (are_same (now_args x.work.next) args))) _ h

pub answer_made : (p : ProgramTree) (m : BTreeMap ℕ ObjectState) (ms : List (Pair × List Message)) (b o : ℕ) (n : NameId) (args : List Value) (x y : ObjectState) (a1 a2 : Act) → Doing p m o x a1 → Doing p m b y a2 → calls_act a1 b n.0 (are_same (now_args x.work.next) args) ≡ true
    → transition p (with_objects m ms) (L.Answer b o n args) ≡ answered_by p (with_objects m ms) b o n args (thing_object x) (thing_object y) (offer_act a2 (now_names y.work.next) (now_choices y.work.next) n.0)
answer_made p m ms b o n args x y a1 a2 d g h = answer_is p m ms b o n args x y a1 a2 d g ∙ rw h refl

-- who calls offers nothing
pub answer_by_two : (p : ProgramTree) (m : BTreeMap ℕ ObjectState) (b o : ℕ) (n : NameId) (t : Bool) (x y : ObjectState) (a1 a2 : Act) (v : X.Offer) → Doing p m o x a1 → Doing p m b y a2 → calls_act a1 b n.0 t ≡ true → offer_act a2 (now_names y.work.next) (now_choices y.work.next) n.0 ≡ Some v → b ≡ o → ⊥
answer_by_two p m b o n t x y (C.Send q k) C.Answer v d g h i e =
    let f : Some x ≡ Some y = sym d.found ∙ ap (get nat_cmp m) (sym e) ∙ g.found in
    let same : x ≡ y = cc in
    let z : A.Send q k.0 (now_args x.work.next) ≡ A.Answer (now_names y.work.next) = sym d.gives ∙ ap₂ (λ w u. action p w (thing_object u)) (sym e) same ∙ g.gives in
    cc
answer_by_two p m b o n t x y (C.Send q k) C.Select v d g h i e =
    let f : Some x ≡ Some y = sym d.found ∙ ap (get nat_cmp m) (sym e) ∙ g.found in
    let same : x ≡ y = cc in
    let z : A.Send q k.0 (now_args x.work.next) ≡ A.Select (now_choices y.work.next) = sym d.gives ∙ ap₂ (λ w u. action p w (thing_object u)) (sym e) same ∙ g.gives in
    cc
answer_by_two p m b o n t x y (C.Send q k) _ v d g h i e = grind arith
answer_by_two p m b o n t x y _ a2 v d g h i e = grind arith

pub answered_none : (p : ProgramTree) (c : Configuration) (b o : ℕ) (n : NameId) (args : List Value) (x y : Object) (w : Option X.Offer) → w ≡ None → answered_by p c b o n args x y w ≡ None
answered_none p c b o n args x y w h = rw h refl

pub answered_barred : (p : ProgramTree) (c : Configuration) (b o : ℕ) (n : NameId) (args : List Value) (x y : Object) (w : Option X.Offer) (v : X.Offer) → w ≡ Some v → has_message v.names (messages_of c o b) ≡ true → answered_by p c b o n args x y w ≡ None
answered_barred p c b o n args x y w v h k = rw (h, k) refl

pub answered_unknown : (p : ProgramTree) (c : Configuration) (b o : ℕ) (n : NameId) (args : List Value) (x y : Object) (w : Option X.Offer) (v : X.Offer) → w ≡ Some v → method_of p y.class n.0 (length args) ≡ None → answered_by p c b o n args x y w ≡ None
answered_unknown p c b o n args x y w v h k = rw (h, k) (nothing (require (not (has_message v.names (messages_of c o b)))) None refl)

pub answered_some : (p : ProgramTree) (c : Configuration) (b o : ℕ) (n : NameId) (args : List Value) (x y : Object) (w : Option X.Offer) (v : X.Offer) (k : MethodTree) → w ≡ Some v → has_message v.names (messages_of c o b) ≡ false → method_of p y.class n.0 (length args) ≡ Some k
    → answered_by p c b o n args x y w ≡ Some (put_object (put_object c o (refilled x (AsExpression (T.Wait b n.0)))) b (serving y k (Some o) args v.work))
answered_some p c b o n args x y w v k h i j = rw (h, i, j) refl

-- an asynchronous send
posts_acted : (x : Object) (vs : List Value) (ns : _) (cs : _) (a : Act) (b n : ℕ) (args : List Value) → posts (acted x vs ns cs a) b n args ≡ posts_act a b n (are_same vs args)
posts_acted x vs ns cs (C.Async b k) r n args = refl
posts_acted x vs ns cs _ r n args = refl

send_is : (p : ProgramTree) (m : BTreeMap ℕ ObjectState) (ms : List (Pair × List Message)) (o b : ℕ) (n : NameId) (args : List Value) (x : ObjectState) (a : Act) → Doing p m o x a
    → transition p (with_objects m ms) (L.Send o b n args)
    ≡ (require (posts_act a b n.0 (are_same (now_args x.work.next) args) && is_some (object_of (with_objects m ms) b)) >> Some (put_messages (put_object (with_objects m ms) o (changed (thing_object x) (now_args x.work.next) H.Done)) o b (messages_of (with_objects m ms) o b ++ record { method = n.0; args = args } ∷ [])))
send_is p m ms o b n args x a d =
    rw (running_doing p m ms o x a d, d.gives, posts_acted (thing_object x) (now_args x.work.next) (now_names x.work.next) (now_choices x.work.next) a b n.0 args) refl

pub send_refused : (p : ProgramTree) (m : BTreeMap ℕ ObjectState) (ms : List (Pair × List Message)) (o b : ℕ) (n : NameId) (args : List Value) (x : ObjectState) (a : Act) → Doing p m o x a → posts_act a b n.0 (are_same (now_args x.work.next) args) ≡ false
    → transition p (with_objects m ms) (L.Send o b n args) ≡ None
send_refused p m ms o b n args x a d h = send_is p m ms o b n args x a d ∙ rw h refl

present : (r : Option ObjectState) → is_some (option_map thing_object r) ≡ is_some r
present None = refl
present (Some t) = refl

there : (m : BTreeMap ℕ ObjectState) (ms : List (Pair × List Message)) (b : ℕ) → is_some (object_of (with_objects m ms) b) ≡ is_some (get nat_cmp m b)
there m ms b = ap is_some (things_lookup b m.entries) ∙ present (get nat_cmp m b)

pub send_nowhere : (p : ProgramTree) (m : BTreeMap ℕ ObjectState) (ms : List (Pair × List Message)) (o b : ℕ) (n : NameId) (args : List Value) (x : ObjectState) (a : Act) → Doing p m o x a → is_some (get nat_cmp m b) ≡ false
    → transition p (with_objects m ms) (L.Send o b n args) ≡ None
send_nowhere p m ms o b n args x a d h =
    let k = both_false (posts_act a b n.0 (are_same (now_args x.work.next) args)) (is_some (object_of (with_objects m ms) b)) (there m ms b ∙ h) in
    send_is p m ms o b n args x a d ∙ rw k refl

pub send_made : (p : ProgramTree) (m : BTreeMap ℕ ObjectState) (ms : List (Pair × List Message)) (o b : ℕ) (n : NameId) (args : List Value) (x : ObjectState) (a : Act) → Doing p m o x a → posts_act a b n.0 (are_same (now_args x.work.next) args) ≡ true → is_some (get nat_cmp m b) ≡ true
    → transition p (with_objects m ms) (L.Send o b n args) ≡ Some (put_messages (put_object (with_objects m ms) o (changed (thing_object x) (now_args x.work.next) H.Done)) o b (messages_of (with_objects m ms) o b ++ record { method = n.0; args = args } ∷ []))
send_made p m ms o b n args x a d h k = let j = there m ms b ∙ k in send_is p m ms o b n args x a d ∙ rw (h, j) refl

-- a message that is taken
abbrev pub taken_by : ProgramTree → Configuration → ℕ → ℕ → NameId → List Value → Object → Option X.Offer → Option Configuration
taken_by p c b s n args y w =
    w >>= λ v. first_message v.names (messages_of c s b) >>= λ first. require (first.method == n.0 && are_same first.args args) >> (method_of p y.class n.0 (length args) >>= λ k. Some (put_messages (put_object c b (serving y k None args v.work)) s b (without_first v.names (messages_of c s b))))

pub take_is : (p : ProgramTree) (m : BTreeMap ℕ ObjectState) (ms : List (Pair × List Message)) (b s : ℕ) (n : NameId) (args : List Value) (y : ObjectState) (a : Act) → Doing p m b y a
    → transition p (with_objects m ms) (L.Take b s n args) ≡ taken_by p (with_objects m ms) b s n args (thing_object y) (offer_act a (now_names y.work.next) (now_choices y.work.next) n.0)
take_is p m ms b s n args y a d =
    rw (running_doing p m ms b y a d, d.gives, offer_acted (thing_object y) (now_args y.work.next) (now_names y.work.next) (now_choices y.work.next) a n.0) refl

pub taken_none : (p : ProgramTree) (c : Configuration) (b s : ℕ) (n : NameId) (args : List Value) (y : Object) (w : Option X.Offer) → w ≡ None → taken_by p c b s n args y w ≡ None
taken_none p c b s n args y w h = rw h refl

pub taken_no_first : (p : ProgramTree) (c : Configuration) (b s : ℕ) (n : NameId) (args : List Value) (y : Object) (w : Option X.Offer) (v : X.Offer) → w ≡ Some v → first_message v.names (messages_of c s b) ≡ None → taken_by p c b s n args y w ≡ None
taken_no_first p c b s n args y w v h i = rw (h, i) refl

pub taken_other : (p : ProgramTree) (c : Configuration) (b s : ℕ) (n : NameId) (args : List Value) (y : Object) (w : Option X.Offer) (v : X.Offer) (f : Message) → w ≡ Some v → first_message v.names (messages_of c s b) ≡ Some f → (f.method == n.0 && are_same f.args args) ≡ false → taken_by p c b s n args y w ≡ None
taken_other p c b s n args y w v f h i j = rw (h, i, j) refl

pub taken_unknown : (p : ProgramTree) (c : Configuration) (b s : ℕ) (n : NameId) (args : List Value) (y : Object) (w : Option X.Offer) (v : X.Offer) (f : Message) → w ≡ Some v → first_message v.names (messages_of c s b) ≡ Some f → method_of p y.class n.0 (length args) ≡ None → taken_by p c b s n args y w ≡ None
taken_unknown p c b s n args y w v f h i j = rw (h, i, j) (nothing (require (f.method == n.0 && are_same f.args args)) None refl)

pub taken_some : (p : ProgramTree) (c : Configuration) (b s : ℕ) (n : NameId) (args : List Value) (y : Object) (w : Option X.Offer) (v : X.Offer) (f : Message) (k : MethodTree) → w ≡ Some v → first_message v.names (messages_of c s b) ≡ Some f → (f.method == n.0 && are_same f.args args) ≡ true → method_of p y.class n.0 (length args) ≡ Some k
    → taken_by p c b s n args y w ≡ Some (put_messages (put_object c b (serving y k None args v.work)) s b (without_first v.names (messages_of c s b)))
taken_some p c b s n args y w v f k h i j l = rw (h, i, j, l) refl

-- what is shown
pub shown_doing : (p : ProgramTree) (m : BTreeMap ℕ ObjectState) (ms : List (Pair × List Message)) (o : ℕ) (t : ObjectState) (a : Act) → Doing p m o t a
    → shown_at p (with_objects m ms) o ≡ shown (acted (thing_object t) (now_args t.work.next) (now_names t.work.next) (now_choices t.work.next) a)
shown_doing p m ms o t a d =
    ap (shown_if p o) (things_lookup o m.entries ∙ ap (option_map thing_object) d.found) ∙ ap (shown_of p o (thing_object t)) d.sound ∙ ap shown d.gives

pub shown_missing : (p : ProgramTree) (m : BTreeMap ℕ ObjectState) (ms : List (Pair × List Message)) (o : ℕ) → is_some (get nat_cmp m o) ≡ false → shown_at p (with_objects m ms) o ≡ Some R.NoObject
shown_missing p m ms o h = ap (shown_if p o) (things_lookup o m.entries) ∙ by (get nat_cmp m o) h
  where
    by : (r : Option ObjectState) → is_some r ≡ false → shown_if p o (option_map thing_object r) ≡ Some R.NoObject
    by None j = refl
    by (Some t) j = absurd (grind arith)

pub shown_faulted : (p : ProgramTree) (m : BTreeMap ℕ ObjectState) (ms : List (Pair × List Message)) (o : ℕ) → is_some (get nat_cmp m o) ≡ true → running (with_objects m ms) o ≡ None → shown_at p (with_objects m ms) o ≡ Some R.Faulted
shown_faulted p m ms o h g = by (object_of (with_objects m ms) o) (there m ms o ∙ h) g
  where
    of_fault : (x : Object) (f : Option Error) → without_fault x f ≡ None → shown_of p o x f ≡ Some R.Faulted
    of_fault x None j = absurd (grind arith)
    of_fault x (Some e) j = refl

    by : (r : Option Object) → is_some r ≡ true → (r >>= (λ x. without_fault x x.fault)) ≡ None → shown_if p o r ≡ Some R.Faulted
    by None j k = absurd (grind arith)
    by (Some x) j k = of_fault x x.fault k
