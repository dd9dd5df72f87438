-- Objects that do not know a name do not learn it from each other: if other names do not change the objects outside,
-- this stays so after each label in which no object inside takes part.
use Rattle.std.proofs.Common.{◌≡◌, refl, sym, ap, ◌∙◌, subst, ℕ, List, [], ◌∷◌, ◌++◌, length, map, option_map, Option, Some, None, is_some, is_none, Bool, true, false, IsTrue, ◌&&◌, ◌==◌}
use Rattle.std.proofs.lemmas.List.{map-append}
use Rattle.run_types.specs.declared.types.Value.{Value}
use Rattle.run_types.specs.declared.types.Value.TheVariants as V
use Rattle.run_types.specs.declared.types.Label.{Label}
use Rattle.run_types.specs.declared.types.Label.TheVariants as L
use Rattle.run_types.specs.Message.{Message}
use Rattle.run_types.specs.Values.{is_same}
use Rattle.run_types.specs.Same.{are_same}
use Rattle.run_types.proofs.Laws.{first, second, equal, given_by, required, same_some, same_value, same_values}
use Rattle.pool_syntax.specs.Terms as T
use Rattle.pool_syntax.specs.Terms.{Statements, MethodTree, ClassTree, ProgramTree}
use Rattle.pool_syntax.specs.Classes.{class_of}
use Rattle.pool_relation.specs.Reducible.{Contractum, AsExpression, AsStatements}
use Rattle.pool_relation.specs.Action as A
use Rattle.pool_relation.specs.Action.{Object, Action, method_of, literal, action}
use Rattle.pool_relation.specs.Configuration.{Configuration, object_of, put_object, messages_of, put_messages}
use Rattle.pool_relation.specs.Progress.{agent}
use Rattle.pool_relation.specs.Transition.{running, local_step, makes, calls, posts, returns, waits_on, writes, fails, picked, Offer, offer, first_message, without_first, refilled, done, returned, given, serving, new_object, transition}
use Rattle.pool_relation.proofs.Laws.{running_is, Put, New, Old, put_cases, PutMessages, NewMessages, OldMessages, put_messages_cases}
use Rattle.search_laws.specs.Renamed.{Renaming, renamed_value, renamed_name, renamed_statements, renamed_method, renamed_class, renamed_object, renamed_message, IsNameless}
use Rattle.search_laws.proofs.OneLabel.{partner}
use Rattle.search_laws.proofs.RenamedRedex.{renamed_part}
use Rattle.search_laws.proofs.RenamedAction.{renamed_action, class_renamed, method_renamed}
use Rattle.search_laws.proofs.RenamedTransition.{same_names, renamed_offer, first_renamed, without_renamed, filled, served, gave, made, local_renamed, offer_renamed, picked_renamed}
use Rattle.search_laws.proofs.Unknown.{acts_the_same, calls_the_same, posts_the_same, returns_the_same}

-- the action that a test accepts
pub calls_says : (a : Action) (b m : ℕ) (args : List Value) → calls a b m args ≡ true → a ≡ A.Send b m args
calls_says (A.Send r n values) b m args h =
    let both : IsTrue (r == b && n == m) = first (r == b && n == m) (are_same values args) h in
    ap (λ z. A.Send z n values) (equal r b (first (r == b) (n == m) both)) ∙ ap (λ z. A.Send b z values) (equal n m (second (r == b) (n == m) both))
    ∙ ap (A.Send b m) (same_values values args (second (r == b && n == m) (are_same values args) h))
calls_says _ b m args h = absurd (cc)

pub posts_says : (a : Action) (b m : ℕ) (args : List Value) → posts a b m args ≡ true → a ≡ A.Async b m args
posts_says (A.Async r n values) b m args h =
    let both : IsTrue (r == b && n == m) = first (r == b && n == m) (are_same values args) h in
    ap (λ z. A.Async z n values) (equal r b (first (r == b) (n == m) both)) ∙ ap (λ z. A.Async b z values) (equal n m (second (r == b) (n == m) both))
    ∙ ap (A.Async b m) (same_values values args (second (r == b && n == m) (are_same values args) h))
posts_says _ b m args h = absurd (cc)

returns_says : (a : Action) (o : ℕ) (w : Value) → returns a o w ≡ true → a ≡ A.Return o w
returns_says (A.Return k v) o w h = ap (λ z. A.Return z v) (equal k o (first (k == o) (is_same v w) h)) ∙ ap (A.Return o) (same_value v w (second (k == o) (is_same v w) h))
returns_says _ o w h = absurd (cc)

module _ (f : Renaming) (p : ProgramTree) (less : IsNameless p) (inside : ℕ → Bool) where
  abbrev Same : Object → Type 0
  Same x = renamed_object f.to x ≡ x

  -- the other names do not change any object outside, its name, or the messages to it
  pub record Outside (c : Configuration) : Type 0 where
    pub objects : (q : ℕ) (x : Object) → inside q ≡ false → object_of c q ≡ Some x → renamed_object f.to x ≡ x
    pub names : (q : ℕ) (x : Object) → inside q ≡ false → object_of c q ≡ Some x → f.to q ≡ q
    pub messages : (s r : ℕ) → inside r ≡ false → map (renamed_message f.to) (messages_of c s r) ≡ messages_of c s r

  put_outside : (c : Configuration) (o : ℕ) (y : Object) → Outside c → Same y → f.to o ≡ o → Outside (put_object c o y)
  put_outside c o y h same own = record { objects = λ q x out e. at q x out e (put_cases c o y q); names = λ q x out e. named q x out e (put_cases c o y q); messages = h.messages }
    where
      at : (q : ℕ) (x : Object) → inside q ≡ false → object_of (put_object c o y) q ≡ Some x → Put c o y q → Same x
      at q x out e (New g i) = subst Same (same_some (sym i ∙ e)) same
      at q x out e (Old n i) = h.objects q x out (sym i ∙ e)

      named : (q : ℕ) (x : Object) → inside q ≡ false → object_of (put_object c o y) q ≡ Some x → Put c o y q → f.to q ≡ q
      named q x out e (New g i) = ap f.to g ∙ own ∙ sym g
      named q x out e (Old n i) = h.names q x out (sym i ∙ e)

  send_outside : (c : Configuration) (s r : ℕ) (ms : List Message) → Outside c → (inside r ≡ false → map (renamed_message f.to) ms ≡ ms) → Outside (put_messages c s r ms)
  send_outside c s r ms h same = record { objects = h.objects; names = h.names; messages = λ a b out. at a b out (put_messages_cases c s r ms a b) }
    where
      at : (a b : ℕ) → inside b ≡ false → PutMessages c s r ms a b → map (renamed_message f.to) (messages_of (put_messages c s r ms) a b) ≡ messages_of (put_messages c s r ms) a b
      at a b out (NewMessages i j k) = ap (map (renamed_message f.to)) k ∙ same (ap inside (sym j) ∙ out) ∙ sym k
      at a b out (OldMessages k) = ap (map (renamed_message f.to)) k ∙ h.messages a b out ∙ sym k

  -- an object outside that is there
  record Known (c : Configuration) (q : ℕ) (x : Object) : Type 0 where
    same : Same x
    own : f.to q ≡ q

  known : (c : Configuration) (q : ℕ) (x : Object) → Outside c → inside q ≡ false → running c q ≡ Some x → Known c q x
  known c q x h out e = let r = running_is c q x e in record { same = h.objects q x out r.0; own = h.names q x out r.0 }

  refilled_same : (x : Object) (part : Contractum) → Same x → renamed_part f.to part ≡ part → Same (refilled x part)
  refilled_same x part same kept = sym (filled f x part) ∙ ap (λ y. refilled y (renamed_part f.to part)) same ∙ ap (refilled x) kept

  done_same : (x : Object) → Same x → Same (done x)
  done_same x same = refilled_same x (AsStatements T.Done) same refl

  given_same : (x : Object) (v : Value) → Same x → renamed_value f.to v ≡ v → Same (given x v)
  given_same x v same kept = refilled_same x (AsExpression (literal v)) same (ap (λ w. AsExpression (literal w)) kept)

  returned_same : (x : Object) → Same x → Same (returned x)
  returned_same x same = sym (gave f x) ∙ ap returned same

  offer_same : (o : ℕ) (x : Object) (m : ℕ) (v : Offer) → Same x → f.to o ≡ o → offer (action p o x) m ≡ Some v → renamed_statements f.to v.work ≡ v.work
  offer_same o x m v same own e =
      let g : Some (renamed_offer f.to v) ≡ Some v =
      ap (option_map (renamed_offer f.to)) (sym e) ∙ sym (offer_renamed f (action p o x) m) ∙ ap (λ a. offer a m) (acts_the_same f p less o x own same) ∙ e in
      ap (λ (w : Offer). w.work) (same_some g)

  method_same : (k m n : ℕ) (t : MethodTree) → method_of p k m n ≡ Some t → renamed_method f.to t ≡ t
  method_same k m n t e =
      same_some (ap (option_map (renamed_method f.to)) (sym e) ∙ sym (method_renamed f.to (same_names f) p k m n) ∙ ap (λ q. method_of q k m n) (less f.to) ∙ e)

  class_same : (k : ℕ) (t : ClassTree) → class_of p k ≡ Some t → renamed_class f.to t ≡ t
  class_same k t e = same_some (ap (option_map (renamed_class f.to)) (sym e) ∙ sym (class_renamed f.to (same_names f) p k) ∙ ap (λ q. class_of q k) (less f.to) ∙ e)

  serving_same : (y : Object) (t : MethodTree) (caller : Option ℕ) (args : List Value) (work : Statements) → Same y → renamed_method f.to t ≡ t → renamed_name f.to caller ≡ caller
      → map (renamed_value f.to) args ≡ args → renamed_statements f.to work ≡ work → Same (serving y t caller args work)
  serving_same y t caller args work a b c d e =
      sym (served f y t caller args work)
      ∙ ap (λ z. serving z (renamed_method f.to t) (renamed_name f.to caller) (map (renamed_value f.to) args) (renamed_statements f.to work)) a
      ∙ ap (λ z. serving y z (renamed_name f.to caller) (map (renamed_value f.to) args) (renamed_statements f.to work)) b
      ∙ ap (λ z. serving y t z (map (renamed_value f.to) args) (renamed_statements f.to work)) c
      ∙ ap (λ z. serving y t caller z (renamed_statements f.to work)) d ∙ ap (serving y t caller args) e

  -- the same holds after a label in which only objects outside take part, if the other names keep the name of a new
  -- object
  pub stays_outside : (c d : Configuration) (l : Label) → Outside c → inside (agent l) ≡ false → inside (partner l) ≡ false
      → ((o n : ℕ) (k : _) → l ≡ L.New o n k → f.to n ≡ n) → transition p c l ≡ Some d → Outside d
  stays_outside c d (L.Local o) h out also fresh t =
      let r = given_by (running c o) _ d t in
      let x = known c o r.0 h out r.1 in
      let y = given_by (local_step r.0 (action p o r.0)) _ d r.2 in
      let same : Some (renamed_object f.to y.0) ≡ Some y.0 =
      ap (option_map (renamed_object f.to)) (sym y.1) ∙ sym (local_renamed f r.0 (action p o r.0))
      ∙ ap (λ z. local_step z (renamed_action f.to (action p o r.0))) x.same ∙ ap (local_step r.0) (acts_the_same f p less o r.0 x.own x.same) ∙ y.1 in
      subst Outside (same_some y.2) (put_outside c o y.0 h (same_some same) x.own)
  stays_outside c d (L.New o n k) h out also fresh t =
      let r = given_by (running c o) _ d t in
      let x = known c o r.0 h out r.1 in
      let w = required (makes (action p o r.0) k.0 && is_none (object_of c n)) _ d r.2 in
      let class = given_by (class_of p k.0) _ d w.1 in
      let kept = fresh o n k refl in
      subst Outside (same_some class.2)
      (put_outside (put_object c o (given r.0 (V.Ref n))) n (new_object class.0) (put_outside c o (given r.0 (V.Ref n)) h (given_same r.0 (V.Ref n) x.same (ap V.Ref kept)) x.own)
      (sym (made f class.0) ∙ ap new_object (class_same k.0 class.0 class.1)) kept)
  stays_outside c d (L.Answer b o m args) h out also fresh t =
      let r = given_by (running c o) _ d t in
      let s = given_by (running c b) _ d r.2 in
      let x = known c o r.0 h also r.1 in
      let y = known c b s.0 h out s.1 in
      let w = required (calls (action p o r.0) b m.0 args) _ d s.2 in
      let call = calls_the_same f p less o r.0 x.own x.same b m.0 args (calls_says (action p o r.0) b m.0 args w.0) in
      let v = given_by (offer (action p b s.0) m.0) _ d w.1 in
      let u = required _ _ d v.2 in
      let method = given_by (method_of p s.0.class m.0 (length args)) _ d u.1 in
      subst Outside (same_some method.2)
      (put_outside (put_object c o (refilled r.0 (AsExpression (T.Wait b m.0)))) b (serving s.0 method.0 (Some o) args v.0.work)
      (put_outside c o (refilled r.0 (AsExpression (T.Wait b m.0))) h (refilled_same r.0 (AsExpression (T.Wait b m.0)) x.same (ap (λ z. AsExpression (T.Wait z m.0)) call.0)) x.own)
      (serving_same s.0 method.0 (Some o) args v.0.work y.same (method_same s.0.class m.0 (length args) method.0 method.1) (ap Some x.own) call.1 (offer_same b s.0 m.0 v.0 y.same y.own v.1)) y.own)
  stays_outside c d (L.Return b o v) h out also fresh t =
      let s = given_by (running c b) _ d t in
      let r = given_by (running c o) _ d s.2 in
      let y = known c b s.0 h out s.1 in
      let x = known c o r.0 h also r.1 in
      let w = required (returns (action p b s.0) o v && waits_on (action p o r.0) b) _ d r.2 in
      let back = returns_the_same f p less b s.0 y.own y.same o v (returns_says (action p b s.0) o v (first (returns (action p b s.0) o v) (waits_on (action p o r.0) b) w.0)) in
      subst Outside (same_some w.1)
      (put_outside (put_object c b (returned s.0)) o (given r.0 v) (put_outside c b (returned s.0) h (returned_same s.0 y.same) y.own) (given_same r.0 v x.same back.1) x.own)
  stays_outside c d (L.Send o b m args) h out also fresh t =
      let r = given_by (running c o) _ d t in
      let x = known c o r.0 h out r.1 in
      let w = required (posts (action p o r.0) b m.0 args && is_some (object_of c b)) _ d r.2 in
      let sent = posts_the_same f p less o r.0 x.own x.same b m.0 args (posts_says (action p o r.0) b m.0 args (first (posts (action p o r.0) b m.0 args) (is_some (object_of c b)) w.0)) in
      let new : Message = record { method = m.0; args = args } in
      subst Outside (same_some w.1)
      (send_outside (put_object c o (done r.0)) o b (messages_of c o b ++ new ∷ []) (put_outside c o (done r.0) h (done_same r.0 x.same) x.own)
      (λ free. map-append (renamed_message f.to) (messages_of c o b) (new ∷ []) ∙ ap (λ z. z ++ renamed_message f.to new ∷ []) (h.messages o b free)
      ∙ ap (λ (z : List Value). messages_of c o b ++ record { method = m.0; args = z } ∷ []) sent.1))
  stays_outside c d (L.Take b s m args) h out also fresh t =
      let r = given_by (running c b) _ d t in
      let y = known c b r.0 h out r.1 in
      let v = given_by (offer (action p b r.0) m.0) _ d r.2 in
      let g = given_by (first_message v.0.names (messages_of c s b)) _ d v.2 in
      let w = required (g.0.method == m.0 && are_same g.0.args args) _ d g.2 in
      let method = given_by (method_of p r.0.class m.0 (length args)) _ d w.1 in
      let kept = h.messages s b out in
      let one : Some (renamed_message f.to g.0) ≡ Some g.0 =
      ap (option_map (renamed_message f.to)) (sym g.1) ∙ sym (first_renamed f v.0.names (messages_of c s b)) ∙ ap (first_message v.0.names) kept ∙ g.1 in
      let is : g.0.args ≡ args = same_values g.0.args args (second (g.0.method == m.0) (are_same g.0.args args) w.0) in
      let values : map (renamed_value f.to) args ≡ args = ap (map (renamed_value f.to)) (sym is) ∙ ap (λ (z : Message). z.args) (same_some one) ∙ is in
      subst Outside (same_some method.2)
      (send_outside (put_object c b (serving r.0 method.0 None args v.0.work)) s b (without_first v.0.names (messages_of c s b))
      (put_outside c b (serving r.0 method.0 None args v.0.work) h
      (serving_same r.0 method.0 None args v.0.work y.same (method_same r.0.class m.0 (length args) method.0 method.1) refl values (offer_same b r.0 m.0 v.0 y.same y.own v.1)) y.own)
      (λ free. sym (without_renamed f v.0.names (messages_of c s b)) ∙ ap (without_first v.0.names) kept))
  stays_outside c d (L.Write o item) h out also fresh t =
      let r = given_by (running c o) _ d t in
      let x = known c o r.0 h out r.1 in
      let w = required (writes (action p o r.0) item) _ d r.2 in
      subst Outside (same_some w.1) (put_outside c o (done r.0) h (done_same r.0 x.same) x.own)
  stays_outside c d (L.Pick o i) h out also fresh t =
      let r = given_by (running c o) _ d t in
      let x = known c o r.0 h out r.1 in
      let work = given_by (picked (action p o r.0) i) _ d r.2 in
      let same : Some (renamed_statements f.to work.0) ≡ Some work.0 =
      ap (option_map (renamed_statements f.to)) (sym work.1) ∙ sym (picked_renamed f (action p o r.0) i) ∙ ap (λ a. picked a i) (acts_the_same f p less o r.0 x.own x.same) ∙ work.1 in
      subst Outside (same_some work.2) (put_outside c o (refilled r.0 (AsStatements work.0)) h (refilled_same r.0 (AsStatements work.0) x.same (ap AsStatements (same_some same))) x.own)
  stays_outside c d (L.Fault o e) h out also fresh t =
      let r = given_by (running c o) _ d t in
      let x = known c o r.0 h out r.1 in
      let w = required (fails (action p o r.0) e) _ d r.2 in
      subst Outside (same_some w.1) (put_outside c o (record r.0 { fault = Some e }) h (ap (λ (z : Object). record z { fault = Some e }) x.same) x.own)
