-- Each run is a renaming of a run that names new objects in order.
use Rattle.std.proofs.Common.{◌≡◌, refl, sym, ap, ◌∙◌, ℕ, List, [], ◌∷◌, length, map, Option, Some, None, is_some, is_none, Bool, true, false, not, ◌&&◌, ◌||◌, ◌==◌}
use Rattle.run_types.specs.declared.types.Value.TheVariants as V
use Rattle.run_types.specs.declared.types.NameId.{NameId}
use Rattle.run_types.specs.declared.types.Label.{Label}
use Rattle.run_types.specs.declared.types.Label.TheVariants as L
use Rattle.pool_syntax.specs.Terms.{ProgramTree}
use Rattle.run_types.specs.Partial.{◌>>=◌, ◌>>◌, require}
use Rattle.run_types.proofs.Laws.{equal, equals, second}
use Rattle.pool_relation.specs.Action.{Object, method_of, action}
use Rattle.pool_relation.specs.Reducible.{AsExpression, AsStatements}
use Rattle.pool_syntax.specs.Terms as T
use Rattle.pool_syntax.specs.Classes.{class_of}
use Rattle.run_types.specs.Same.{are_same}
use Rattle.pool_relation.specs.Configuration.{Configuration, object_of, put_object, messages_of}
use Rattle.pool_relation.specs.Transition.{without_fault, running, local_step, makes, calls, posts, returns, waits_on, writes, fails, picked, offer, has_message, first_message, refilled, done, returned, given, serving, new_object, transition, run}
use Rattle.search_laws.specs.Renamed.{Renaming, renamed_program, renamed_label, IsRenamed}
use Rattle.pool_relation.proofs.Laws.{Put, New, Old, put_cases}
use Rattle.search_laws.proofs.RenamedTransition.{Alike, Neither, Both, transition_renamed}

-- a run under other names
pub run_renamed : (f : Renaming) (p : ProgramTree) (c d : Configuration) (ls : List Label) → IsRenamed f.to c d
    → Alike f.to (run p c ls) (run (renamed_program f.to p) d (map (renamed_label f.to) ls))
run_renamed f p c d [] h = Both h
run_renamed f p c d (l ∷ ls) h = by (transition p c l) (transition (renamed_program f.to p) d (renamed_label f.to l)) (transition_renamed f p c d l h) (λ a b r. run_renamed f p a b ls r)
  where
    by : (a b : Option Configuration) → Alike f.to a b
        → ((u v : Configuration) → IsRenamed f.to u v → Alike f.to (run p u ls) (run (renamed_program f.to p) v (map (renamed_label f.to) ls)))
        → Alike f.to (a >>= λ e. run p e ls) (b >>= λ e. run (renamed_program f.to p) e (map (renamed_label f.to) ls))
    by None None Neither rest = Neither
    by (Some a) (Some b) (Both r) rest = rest a b r
    by None (Some b) x rest = elim x [ ]
    by (Some a) None x rest = elim x [ ]

-- a property of what a chain of steps gives
each : {X : Type 0} (P : Option Configuration → Type 0) (o : Option X) (k : X → Option Configuration) → P None → ((x : X) → o ≡ Some x → P (k x)) → P (o >>= k)
each P None k n s = n
each P (Some x) k n s = s x refl

wanting : (P : Option Configuration → Type 0) (b : Bool) (k : Option Configuration) → P None → (b ≡ true → P k) → P (require b >> k)
wanting P true k n s = s refl
wanting P false k n s = n

-- the same objects are there
pub data Keeps (c : Configuration) : Option Configuration → Type 0 where
  KeepsNone : Keeps c None
  KeepsAll : {d : Configuration} → ((q : ℕ) → is_some (object_of d q) ≡ is_some (object_of c q)) → Keeps c (Some d)

is_there : (c : Configuration) (o : ℕ) (x : Object) → running c o ≡ Some x → is_some (object_of c o) ≡ true
is_there c o x e = by (object_of c o) refl e
  where
    by : (q : Option Object) → object_of c o ≡ q → (q >>= (λ y. without_fault y y.fault)) ≡ Some x → is_some (object_of c o) ≡ true
    by None i h = absurd (cc)
    by (Some y) i h = ap is_some i

put_keeps : (c : Configuration) (o : ℕ) (y : Object) → is_some (object_of c o) ≡ true → (q : ℕ) → is_some (object_of (put_object c o y) q) ≡ is_some (object_of c q)
put_keeps c o y t q = by (put_cases c o y q)
  where
    by : Put c o y q → is_some (object_of (put_object c o y) q) ≡ is_some (object_of c q)
    by (New e i) = ap is_some i ∙ sym (ap (λ r. is_some (object_of c r)) e ∙ t)
    by (Old n i) = ap is_some i

-- whether a label makes an object
abbrev pub makes_none : Label → Bool
makes_none (L.New o n k) = false
makes_none _ = true

two_keep : (c : Configuration) (o b : ℕ) (y z : Object) → is_some (object_of c o) ≡ true → is_some (object_of c b) ≡ true
    → (q : ℕ) → is_some (object_of (put_object (put_object c o y) b z) q) ≡ is_some (object_of c q)
two_keep c o b y z t u q = put_keeps (put_object c o y) b z (put_keeps c o y t b ∙ u) q ∙ put_keeps c o y t q

pub others_keep : (p : ProgramTree) (c : Configuration) (l : Label) → makes_none l ≡ true → Keeps c (transition p c l)
others_keep p c (L.Local o) t =
    each (Keeps c) (running c o) _ KeepsNone (λ x e. each (Keeps c) (local_step x (action p o x)) _ KeepsNone (λ y i. KeepsAll (put_keeps c o y (is_there c o x e))))
others_keep p c (L.New o n k) t = absurd (cc)
others_keep p c (L.Answer b o m args) t =
    each (Keeps c) (running c o) _ KeepsNone (λ x e. each (Keeps c) (running c b) _ KeepsNone
    (λ y i. wanting (Keeps c) (calls (action p o x) b m.0 args) _ KeepsNone (λ j. each (Keeps c) (offer (action p b y) m.0) _ KeepsNone
    (λ v g. wanting (Keeps c) (not (has_message v.names (messages_of c o b))) _ KeepsNone (λ h. each (Keeps c) (method_of p y.class m.0 (length args)) _ KeepsNone
    (λ method r. KeepsAll (two_keep c o b (refilled x (AsExpression (T.Wait b m.0))) (serving y method (Some o) args v.work) (is_there c o x e) (is_there c b y i))))))))
others_keep p c (L.Return b o v) t =
    each (Keeps c) (running c b) _ KeepsNone (λ y i. each (Keeps c) (running c o) _ KeepsNone
    (λ x e. wanting (Keeps c) (returns (action p b y) o v && waits_on (action p o x) b) _ KeepsNone
    (λ j. KeepsAll (two_keep c b o (returned y) (given x v) (is_there c b y i) (is_there c o x e)))))
others_keep p c (L.Send o b m args) t =
    each (Keeps c) (running c o) _ KeepsNone (λ x e. wanting (Keeps c) (posts (action p o x) b m.0 args && is_some (object_of c b)) _ KeepsNone
    (λ j. KeepsAll (put_keeps c o (done x) (is_there c o x e))))
others_keep p c (L.Take b s m args) t =
    each (Keeps c) (running c b) _ KeepsNone (λ y i. each (Keeps c) (offer (action p b y) m.0) _ KeepsNone
    (λ v g. each (Keeps c) (first_message v.names (messages_of c s b)) _ KeepsNone
    (λ first h. wanting (Keeps c) (first.method == m.0 && are_same first.args args) _ KeepsNone
    (λ j. each (Keeps c) (method_of p y.class m.0 (length args)) _ KeepsNone
    (λ method r. KeepsAll (put_keeps c b (serving y method None args v.work) (is_there c b y i)))))))
others_keep p c (L.Write o item) t =
    each (Keeps c) (running c o) _ KeepsNone (λ x e. wanting (Keeps c) (writes (action p o x) item) _ KeepsNone (λ j. KeepsAll (put_keeps c o (done x) (is_there c o x e))))
others_keep p c (L.Pick o i) t =
    each (Keeps c) (running c o) _ KeepsNone (λ x e. each (Keeps c) (picked (action p o x) i) _ KeepsNone
    (λ work j. KeepsAll (put_keeps c o (refilled x (AsStatements work)) (is_there c o x e))))
others_keep p c (L.Fault o r) t =
    each (Keeps c) (running c o) _ KeepsNone (λ x e. wanting (Keeps c) (fails (action p o x) r) _ KeepsNone
    (λ j. KeepsAll (put_keeps c o (record x { fault = Some r }) (is_there c o x e))))

-- one object more is there
pub data Adds (n : ℕ) (c : Configuration) : Option Configuration → Type 0 where
  AddsNone : Adds n c None
  AddsOne : {d : Configuration} → is_some (object_of c n) ≡ false → ((q : ℕ) → is_some (object_of d q) ≡ ((q == n) || is_some (object_of c q))) → Adds n c (Some d)

put_adds : (c : Configuration) (n : ℕ) (y : Object) (q : ℕ) → is_some (object_of (put_object c n y) q) ≡ ((q == n) || is_some (object_of c q))
put_adds c n y q = by (put_cases c n y q) (q == n) refl
  where
    by : Put c n y q → (b : Bool) → (q == n) ≡ b → is_some (object_of (put_object c n y) q) ≡ ((q == n) || is_some (object_of c q))
    by (New e i) b j = ap is_some i ∙ sym (ap (λ t. t || is_some (object_of c q)) (ap (λ r. r == n) e ∙ equals n))
    by (Old m i) true j = absurd (m (equal q n j))
    by (Old m i) false j = ap is_some i ∙ sym (ap (λ t. t || is_some (object_of c q)) j)

pub new_adds : (p : ProgramTree) (c : Configuration) (o n : ℕ) (k : NameId) → Adds n c (transition p c (L.New o n k))
new_adds p c o n k =
    each (Adds n c) (running c o) _ AddsNone (λ x e. wanting (Adds n c) (makes (action p o x) k.0 && is_none (object_of c n)) _ AddsNone
    (λ j. each (Adds n c) (class_of p k.0) _ AddsNone (λ class i.
    AddsOne (unused (object_of c n) (second _ (is_none (object_of c n)) j))
    (λ q. put_adds (put_object c o (given x (V.Ref n))) n (new_object class) q ∙ ap (λ t. (q == n) || t) (put_keeps c o (given x (V.Ref n)) (is_there c o x e) q)))))
  where
    unused : (a : Option Object) → is_none a ≡ true → is_some a ≡ false
    unused None h = refl
    unused (Some a) h = absurd (cc)
