-- What each update of an object and of the messages of a pair keeps, each transition keeps.
use Rattle.std.proofs.Common.{◌≡◌, subst, ℕ, List, [], ◌∷◌, ◌++◌, length, Some, None, is_none, is_some, not, ◌&&◌, ◌==◌}
use Rattle.run_types.specs.Message.{Message}
use Rattle.run_types.specs.Same.{are_same}
use Rattle.run_types.specs.declared.types.Label.{Label}
use Rattle.run_types.specs.declared.types.Label.TheVariants as L
use Rattle.run_types.specs.declared.types.Value.TheVariants as V
use Rattle.run_types.proofs.Laws.{given_by, required, same_some}
use Rattle.pool_syntax.specs.Terms as T
use Rattle.pool_syntax.specs.Terms.{ProgramTree}
use Rattle.pool_syntax.specs.Classes.{class_of}
use Rattle.pool_relation.specs.Reducible.{AsExpression, AsStatements}
use Rattle.pool_relation.specs.Action.{Object, action, method_of}
use Rattle.pool_relation.specs.Configuration.{Configuration, messages_of, object_of, put_messages, put_object}
use Rattle.pool_relation.specs.Transition.{calls, done, fails, first_message, given, has_message, local_step, makes, new_object, offer, picked, posts, refilled, returned, returns, run, running, serving, transition, waits_on, without_first, writes}

module _ (P : Configuration → Type 0) (of_object : (c : Configuration) (o : ℕ) (x : Object) → P c → P (put_object c o x))
    (of_messages : (c : Configuration) (s r : ℕ) (ms : List Message) → P c → P (put_messages c s r ms)) where
  both_objects : (c : Configuration) (o : ℕ) (x : Object) (b : ℕ) (y : Object) → P c → P (put_object (put_object c o x) b y)
  both_objects c o x b y h = of_object (put_object c o x) b y (of_object c o x h)

  pub kept_by_transition : (p : ProgramTree) (c d : Configuration) (lab : Label) → transition p c lab ≡ Some d → P c → P d
  kept_by_transition p c d (L.Local o) e h =
      let a = given_by (running c o) _ d e in
      let b = given_by (local_step a.0 (action p o a.0)) _ d a.2 in
      subst P (same_some b.2) (of_object c o b.0 h)
  kept_by_transition p c d (L.New o k class) e h =
      let a = given_by (running c o) _ d e in
      let r = required (makes (action p o a.0) class.0 && is_none (object_of c k)) _ d a.2 in
      let b = given_by (class_of p class.0) _ d r.1 in
      subst P (same_some b.2) (both_objects c o (given a.0 (V.Ref k)) k (new_object b.0) h)
  kept_by_transition p c d (L.Answer b o m args) e h =
      let x = given_by (running c o) _ d e in
      let y = given_by (running c b) _ d x.2 in
      let r = required (calls (action p o x.0) b m.0 args) _ d y.2 in
      let v = given_by (offer (action p b y.0) m.0) _ d r.1 in
      let s = required (not (has_message v.0.names (messages_of c o b))) _ d v.2 in
      let k = given_by (method_of p y.0.class m.0 (length args)) _ d s.1 in
      subst P (same_some k.2) (both_objects c o (refilled x.0 (AsExpression (T.Wait b m.0))) b (serving y.0 k.0 (Some o) args v.0.work) h)
  kept_by_transition p c d (L.Return b o v) e h =
      let y = given_by (running c b) _ d e in
      let x = given_by (running c o) _ d y.2 in
      let r = required (returns (action p b y.0) o v && waits_on (action p o x.0) b) _ d x.2 in
      subst P (same_some r.1) (both_objects c b (returned y.0) o (given x.0 v) h)
  kept_by_transition p c d (L.Send o b m args) e h =
      let x = given_by (running c o) _ d e in
      let r = required (posts (action p o x.0) b m.0 args && is_some (object_of c b)) _ d x.2 in
      subst P (same_some r.1) (of_messages (put_object c o (done x.0)) o b (messages_of c o b ++ record { method = m.0; args = args } ∷ []) (of_object c o (done x.0) h))
  kept_by_transition p c d (L.Take b s m args) e h =
      let y = given_by (running c b) _ d e in
      let v = given_by (offer (action p b y.0) m.0) _ d y.2 in
      let first = given_by (first_message v.0.names (messages_of c s b)) _ d v.2 in
      let r = required (first.0.method == m.0 && are_same first.0.args args) _ d first.2 in
      let k = given_by (method_of p y.0.class m.0 (length args)) _ d r.1 in
      let z = serving y.0 k.0 None args v.0.work in
      subst P (same_some k.2) (of_messages (put_object c b z) s b (without_first v.0.names (messages_of c s b)) (of_object c b z h))
  kept_by_transition p c d (L.Write o item) e h =
      let x = given_by (running c o) _ d e in
      let r = required (writes (action p o x.0) item) _ d x.2 in
      subst P (same_some r.1) (of_object c o (done x.0) h)
  kept_by_transition p c d (L.Pick o i) e h =
      let x = given_by (running c o) _ d e in
      let w = given_by (picked (action p o x.0) i) _ d x.2 in
      subst P (same_some w.2) (of_object c o (refilled x.0 (AsStatements w.0)) h)
  kept_by_transition p c d (L.Fault o f) e h =
      let x = given_by (running c o) _ d e in
      let r = required (fails (action p o x.0) f) _ d x.2 in
      subst P (same_some r.1) (of_object c o (record x.0 { fault = Some f }) h)

  pub kept_by_run : (p : ProgramTree) (c d : Configuration) (ls : List Label) → run p c ls ≡ Some d → P c → P d
  kept_by_run p c d [] e h = subst P (same_some e) h
  kept_by_run p c d (l ∷ ls) e h = let a = given_by (transition p c l) _ d e in kept_by_run p a.0 d ls a.2 (kept_by_transition p c a.0 l a.1 h)
