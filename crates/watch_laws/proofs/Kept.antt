-- A transition changes no object but those that are written after it, and no messages but those of its pair.
use Rattle.std.proofs.Common.{◌≡◌, ◌≢◌, sym, ap, ◌∙◌, ℕ, zero, suc, List, [], ◌∷◌, ◌++◌, length, Option, Some, None, is_none, is_some, not, ◌&&◌, ◌==◌, replicate}
use Rattle.run_types.specs.Message.{Message}
use Rattle.run_types.specs.Tables.{Pair}
use Rattle.run_types.specs.declared.types.Label.{Label}
use Rattle.run_types.specs.declared.types.Label.TheVariants as L
use Rattle.run_types.specs.declared.types.What.TheVariants as W
use Rattle.run_types.specs.declared.types.Line.{Line}
use Rattle.run_types.specs.declared.types.Line.TheVariants as R
use Rattle.run_types.specs.declared.types.Value.TheVariants as V
use Rattle.pool_syntax.specs.Terms as T
use Rattle.pool_syntax.specs.Terms.{ProgramTree}
use Rattle.pool_syntax.specs.Classes.{class_of}
use Rattle.pool_relation.specs.Reducible.{AsExpression, AsStatements}
use Rattle.pool_relation.specs.Action.{Object, action, method_of}
use Rattle.pool_relation.specs.Configuration.{Configuration, messages_of, object_of, put_messages, put_object}
use Rattle.pool_relation.specs.Transition.{calls, done, fails, first_message, given, has_message, local_step, makes, new_object, offer, picked, posts, refilled, returned, returns, run, running, serving, transition, waits_on, without_first, writes}
use Rattle.run_types.specs.Same.{are_same}
use Rattle.pool_relation.proofs.Laws.{Put, New, Old, put_cases, PutMessages, NewMessages, OldMessages, put_messages_cases}
use Rattle.run_types.proofs.Laws.{given_by, required, same_some}
use Rattle.term_text.specs.StateText.{objects_of, pair_of}
use Rattle.mesh_semantics.specs.Record.{labels_of}
use Rattle.watch_laws.specs.Views.{IsOutside, objects_in, pair_in}

-- another object is as before
other : (c : Configuration) (o : ℕ) (y : Object) (q : ℕ) → q ≢ o → object_of (put_object c o y) q ≡ object_of c q
other c o y q n = by (put_cases c o y q)
  where
    by : Put c o y q → object_of (put_object c o y) q ≡ object_of c q
    by (New i e) = absurd (n i)
    by (Old m e) = e

-- two other objects were changed
others : (c : Configuration) (o : ℕ) (x : Object) (b : ℕ) (y : Object) (q : ℕ) → q ≢ o → q ≢ b → object_of (put_object (put_object c o x) b y) q ≡ object_of c q
others c o x b y q n m = other (put_object c o x) b y q m ∙ other c o x q n

pub objects_kept : (p : ProgramTree) (c d : Configuration) (lab : Label) (q : ℕ) → transition p c lab ≡ Some d → IsOutside q (objects_of lab) → object_of d q ≡ object_of c q
objects_kept p c d (L.Local o) q e n =
    let a = given_by (running c o) _ d e in
    let b = given_by (local_step a.0 (action p o a.0)) _ d a.2 in
    ap (λ z. object_of z q) (sym (same_some b.2)) ∙ other c o b.0 q n.0
objects_kept p c d (L.New o k class) q e n =
    let a = given_by (running c o) _ d e in
    let r = required (makes (action p o a.0) class.0 && is_none (object_of c k)) _ d a.2 in
    let b = given_by (class_of p class.0) _ d r.1 in
    ap (λ z. object_of z q) (sym (same_some b.2)) ∙ others c o (given a.0 (V.Ref k)) k (new_object b.0) q n.0 n.1.0
objects_kept p c d (L.Answer b o m args) q e n =
    let x = given_by (running c o) _ d e in
    let y = given_by (running c b) _ d x.2 in
    let r = required (calls (action p o x.0) b m.0 args) _ d y.2 in
    let v = given_by (offer (action p b y.0) m.0) _ d r.1 in
    let s = required (not (has_message v.0.names (messages_of c o b))) _ d v.2 in
    let k = given_by (method_of p y.0.class m.0 (length args)) _ d s.1 in
    ap (λ z. object_of z q) (sym (same_some k.2)) ∙ others c o (refilled x.0 (AsExpression (T.Wait b m.0))) b (serving y.0 k.0 (Some o) args v.0.work) q n.1.0 n.0
objects_kept p c d (L.Return b o v) q e n =
    let y = given_by (running c b) _ d e in
    let x = given_by (running c o) _ d y.2 in
    let r = required (returns (action p b y.0) o v && waits_on (action p o x.0) b) _ d x.2 in
    ap (λ z. object_of z q) (sym (same_some r.1)) ∙ others c b (returned y.0) o (given x.0 v) q n.0 n.1.0
objects_kept p c d (L.Send o b m args) q e n =
    let x = given_by (running c o) _ d e in
    let r = required (posts (action p o x.0) b m.0 args && is_some (object_of c b)) _ d x.2 in
    ap (λ z. object_of z q) (sym (same_some r.1)) ∙ other c o (done x.0) q n.0
objects_kept p c d (L.Take b s m args) q e n =
    let y = given_by (running c b) _ d e in
    let v = given_by (offer (action p b y.0) m.0) _ d y.2 in
    let first = given_by (first_message v.0.names (messages_of c s b)) _ d v.2 in
    let r = required (first.0.method == m.0 && are_same first.0.args args) _ d first.2 in
    let k = given_by (method_of p y.0.class m.0 (length args)) _ d r.1 in
    ap (λ z. object_of z q) (sym (same_some k.2)) ∙ other c b (serving y.0 k.0 None args v.0.work) q n.0
objects_kept p c d (L.Write o item) q e n =
    let x = given_by (running c o) _ d e in
    let r = required (writes (action p o x.0) item) _ d x.2 in
    ap (λ z. object_of z q) (sym (same_some r.1)) ∙ other c o (done x.0) q n.0
objects_kept p c d (L.Pick o i) q e n =
    let x = given_by (running c o) _ d e in
    let w = given_by (picked (action p o x.0) i) _ d x.2 in
    ap (λ z. object_of z q) (sym (same_some w.2)) ∙ other c o (refilled x.0 (AsStatements w.0)) q n.0
objects_kept p c d (L.Fault o f) q e n =
    let x = given_by (running c o) _ d e in
    let r = required (fails (action p o x.0) f) _ d x.2 in
    ap (λ z. object_of z q) (sym (same_some r.1)) ∙ other c o (record x.0 { fault = Some f }) q n.0

abbrev some_pair : ℕ → ℕ → Option Pair
some_pair s r = Some (s, r)

-- the messages of another pair are as before
other_messages : (c : Configuration) (o b : ℕ) (ms : List Message) (s r : ℕ) → ¬ ((s ≡ o) × (r ≡ b)) → messages_of (put_messages c o b ms) s r ≡ messages_of c s r
other_messages c o b ms s r n = by (put_messages_cases c o b ms s r)
  where
    by : PutMessages c o b ms s r → messages_of (put_messages c o b ms) s r ≡ messages_of c s r
    by (NewMessages i j e) = absurd (n (i, j))
    by (OldMessages e) = e

pub messages_kept : (p : ProgramTree) (c d : Configuration) (lab : Label) (s r : ℕ) → transition p c lab ≡ Some d → ¬ (pair_of lab ≡ Some (s, r)) → messages_of d s r ≡ messages_of c s r
messages_kept p c d (L.Local o) s r e n =
    let a = given_by (running c o) _ d e in
    let b = given_by (local_step a.0 (action p o a.0)) _ d a.2 in
    ap (λ z. messages_of z s r) (sym (same_some b.2))
messages_kept p c d (L.New o k class) s r e n =
    let a = given_by (running c o) _ d e in
    let t = required (makes (action p o a.0) class.0 && is_none (object_of c k)) _ d a.2 in
    let b = given_by (class_of p class.0) _ d t.1 in
    ap (λ z. messages_of z s r) (sym (same_some b.2))
messages_kept p c d (L.Answer b o m args) s r e n =
    let x = given_by (running c o) _ d e in
    let y = given_by (running c b) _ d x.2 in
    let t = required (calls (action p o x.0) b m.0 args) _ d y.2 in
    let v = given_by (offer (action p b y.0) m.0) _ d t.1 in
    let u = required (not (has_message v.0.names (messages_of c o b))) _ d v.2 in
    let k = given_by (method_of p y.0.class m.0 (length args)) _ d u.1 in
    ap (λ z. messages_of z s r) (sym (same_some k.2))
messages_kept p c d (L.Return b o v) s r e n =
    let y = given_by (running c b) _ d e in
    let x = given_by (running c o) _ d y.2 in
    let t = required (returns (action p b y.0) o v && waits_on (action p o x.0) b) _ d x.2 in
    ap (λ z. messages_of z s r) (sym (same_some t.1))
messages_kept p c d (L.Send o b m args) s r e n =
    let x = given_by (running c o) _ d e in
    let t = required (posts (action p o x.0) b m.0 args && is_some (object_of c b)) _ d x.2 in
    ap (λ z. messages_of z s r) (sym (same_some t.1))
    ∙ other_messages (put_object c o (done x.0)) o b (messages_of c o b ++ record { method = m.0; args = args } ∷ []) s r (λ i. n (apart i.0 i.1))
  where
    apart : s ≡ o → r ≡ b → ◌≡◌ {A = Option Pair} (Some (o, b)) (Some (s, r))
    apart i j = ap (λ (z : ℕ). some_pair z b) (sym i) ∙ ap (some_pair s) (sym j)
messages_kept p c d (L.Take b o m args) s r e n =
    let y = given_by (running c b) _ d e in
    let v = given_by (offer (action p b y.0) m.0) _ d y.2 in
    let first = given_by (first_message v.0.names (messages_of c o b)) _ d v.2 in
    let t = required (first.0.method == m.0 && are_same first.0.args args) _ d first.2 in
    let k = given_by (method_of p y.0.class m.0 (length args)) _ d t.1 in
    ap (λ z. messages_of z s r) (sym (same_some k.2))
    ∙ other_messages (put_object c b (serving y.0 k.0 None args v.0.work)) o b (without_first v.0.names (messages_of c o b)) s r (λ i. n (apart i.0 i.1))
  where
    apart : s ≡ o → r ≡ b → ◌≡◌ {A = Option Pair} (Some (o, b)) (Some (s, r))
    apart i j = ap (λ (z : ℕ). some_pair z b) (sym i) ∙ ap (some_pair s) (sym j)
messages_kept p c d (L.Write o item) s r e n =
    let x = given_by (running c o) _ d e in
    let t = required (writes (action p o x.0) item) _ d x.2 in
    ap (λ z. messages_of z s r) (sym (same_some t.1))
messages_kept p c d (L.Pick o i) s r e n =
    let x = given_by (running c o) _ d e in
    let w = given_by (picked (action p o x.0) i) _ d x.2 in
    ap (λ z. messages_of z s r) (sym (same_some w.2))
messages_kept p c d (L.Fault o f) s r e n =
    let x = given_by (running c o) _ d e in
    let t = required (fails (action p o x.0) f) _ d x.2 in
    ap (λ z. messages_of z s r) (sym (same_some t.1))

-- the same after so many transitions of one label
pub objects_kept_times : (p : ProgramTree) (c d : Configuration) (lab : Label) (times q : ℕ) → run p c (replicate times lab) ≡ Some d → IsOutside q (objects_of lab) → object_of d q ≡ object_of c q
objects_kept_times p c d lab zero q e n = ap (λ z. object_of z q) (sym (same_some e))
objects_kept_times p c d lab (suc k) q e n =
    let a = given_by (transition p c lab) _ d e in
    objects_kept_times p a.0 d lab k q a.2 n ∙ objects_kept p c a.0 lab q a.1 n

pub messages_kept_times : (p : ProgramTree) (c d : Configuration) (lab : Label) (times s r : ℕ) → run p c (replicate times lab) ≡ Some d → ¬ (pair_of lab ≡ Some (s, r)) → messages_of d s r ≡ messages_of c s r
messages_kept_times p c d lab zero s r e n = ap (λ z. messages_of z s r) (sym (same_some e))
messages_kept_times p c d lab (suc k) s r e n =
    let a = given_by (transition p c lab) _ d e in
    messages_kept_times p a.0 d lab k s r a.2 n ∙ messages_kept p c a.0 lab s r a.1 n

-- the same after a line
pub objects_kept_by : (p : ProgramTree) (c d : Configuration) (l : Line) (q : ℕ) → run p c (labels_of l) ≡ Some d → IsOutside q (objects_in l) → object_of d q ≡ object_of c q
objects_kept_by p c d (R.Event number event (W.Step lab times)) q e n = objects_kept_times p c d lab times q e n
objects_kept_by p c d (R.Event number event _) q e n = ap (λ z. object_of z q) (sym (same_some e))
objects_kept_by p c d (R.End end) q e n = ap (λ z. object_of z q) (sym (same_some e))

pub messages_kept_by : (p : ProgramTree) (c d : Configuration) (l : Line) (s r : ℕ) → run p c (labels_of l) ≡ Some d → ¬ (pair_in l ≡ Some (s, r)) → messages_of d s r ≡ messages_of c s r
messages_kept_by p c d (R.Event number event (W.Step lab times)) s r e n = messages_kept_times p c d lab times s r e n
messages_kept_by p c d (R.Event number event _) s r e n = ap (λ z. messages_of z s r) (sym (same_some e))
messages_kept_by p c d (R.End end) s r e n = ap (λ z. messages_of z s r) (sym (same_some e))
