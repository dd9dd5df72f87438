-- An object at `answer` or `select` that only the objects that wait for it know: until one of its labels comes, neither
-- it nor these objects take part in a label.
use Rattle.std.proofs.Common.{◌≡◌, ◌≢◌, ◌⊎◌, inl, inr, refl, sym, ap, ◌∙◌, ℕ, List, length, Option, Some, None, is_some, is_none, Bool, true, false, ◌&&◌, ◌==◌}
use Rattle.run_types.specs.declared.types.Value.{Value}
use Rattle.run_types.specs.declared.types.Value.TheVariants as V
use Rattle.run_types.specs.declared.types.Item.{Item}
use Rattle.run_types.specs.declared.types.Error.{Error}
use Rattle.run_types.specs.declared.types.Label.{Label}
use Rattle.run_types.specs.declared.types.Label.TheVariants as L
use Rattle.run_types.specs.Same.{are_same}
use Rattle.run_types.proofs.Laws.{first, second, equal, equals, given_by, required, same_some}
use Rattle.pool_syntax.specs.Terms as T
use Rattle.pool_syntax.specs.Terms.{Statements, ProgramTree}
use Rattle.pool_syntax.specs.Classes.{class_of}
use Rattle.pool_relation.specs.Reducible.{AsExpression, AsStatements}
use Rattle.pool_relation.specs.Action as A
use Rattle.pool_relation.specs.Action.{Object, Action, method_of, action}
use Rattle.pool_relation.specs.Configuration.{Configuration, object_of, put_object, messages_of}
use Rattle.pool_relation.specs.Progress.{agent}
use Rattle.pool_relation.specs.Transition.{running, local_step, makes, calls, posts, returns, waits_on, writes, fails, picked, Offer, offer, first_message, refilled, done, returned, given, serving, new_object, transition}
use Rattle.search_laws.specs.Stubborn.{serves, waits_for, is_served}
use Rattle.search_laws.proofs.OneLabel.{partner}
use Rattle.search_laws.proofs.PutsCommute.{at_another}

-- the action needs another object, or there is none
abbrev stands : Action → Bool
stands A.Finished = true
stands (A.Send r m args) = true
stands (A.Answer names) = true
stands (A.Select choices) = true
stands _ = false

serving_stands : (a : Action) → serves a ≡ true → stands a ≡ true
serving_stands (A.Answer names) h = refl
serving_stands (A.Select choices) h = refl
serving_stands _ h = absurd (cc)

waiting_stands : (b : ℕ) (a : Action) → waits_for b a ≡ true → stands a ≡ true
waiting_stands b A.Finished h = refl
waiting_stands b (A.Send r m args) h = refl
waiting_stands b _ h = absurd (cc)

no_local : (x y : Object) (a : Action) → stands a ≡ true → ¬ (local_step x a ≡ Some y)
no_local x y (A.Local term vars) s h = absurd (cc)
no_local x y _ s h = absurd (cc)

no_makes : (k : ℕ) (a : Action) → stands a ≡ true → ¬ (makes a k ≡ true)
no_makes k (A.New c) s h = absurd (cc)
no_makes k _ s h = absurd (cc)

no_returns : (o : ℕ) (v : Value) (a : Action) → stands a ≡ true → ¬ (returns a o v ≡ true)
no_returns o v (A.Return k w) s h = absurd (cc)
no_returns o v _ s h = absurd (cc)

no_waits : (r : ℕ) (a : Action) → stands a ≡ true → ¬ (waits_on a r ≡ true)
no_waits r (A.Waits b m) s h = absurd (cc)
no_waits r _ s h = absurd (cc)

no_posts : (r m : ℕ) (args : List Value) (a : Action) → stands a ≡ true → ¬ (posts a r m args ≡ true)
no_posts r m args (A.Async b n values) s h = absurd (cc)
no_posts r m args _ s h = absurd (cc)

no_writes : (i : Item) (a : Action) → stands a ≡ true → ¬ (writes a i ≡ true)
no_writes i (A.Write j) s h = absurd (cc)
no_writes i _ s h = absurd (cc)

no_fails : (e : Error) (a : Action) → stands a ≡ true → ¬ (fails a e ≡ true)
no_fails e (A.Fault r) s h = absurd (cc)
no_fails e _ s h = absurd (cc)

no_calls : (r m : ℕ) (args : List Value) (a : Action) → serves a ≡ true → ¬ (calls a r m args ≡ true)
no_calls r m args (A.Send b n values) s h = absurd (cc)
no_calls r m args _ s h = absurd (cc)

no_offer : (b m : ℕ) (v : Offer) (a : Action) → waits_for b a ≡ true → ¬ (offer a m ≡ Some v)
no_offer b m v (A.Answer names) s h = absurd (cc)
no_offer b m v (A.Select choices) s h = absurd (cc)
no_offer b m v _ s h = absurd (cc)

no_picked : (b i : ℕ) (w : Statements) (a : Action) → waits_for b a ≡ true → ¬ (picked a i ≡ Some w)
no_picked b i w (A.Select choices) s h = absurd (cc)
no_picked b i w _ s h = absurd (cc)

calls_it : (b r m : ℕ) (args : List Value) (a : Action) → waits_for b a ≡ true → calls a r m args ≡ true → r ≡ b
calls_it b r m args (A.Send t n values) s h = sym (equal t r (first (t == r) (n == m) (first (t == r && n == m) (are_same values args) h))) ∙ equal t b s
calls_it b r m args _ s h = absurd (cc)

module _ (p : ProgramTree) (b : ℕ) (inside : ℕ → Bool) where
  -- each object inside that has met no error is b at an answer or a select, or waits for b
  pub record Guarded (c : Configuration) : Type 0 where
    pub stand : (q : ℕ) (x : Object) → inside q ≡ true → running c q ≡ Some x → ((q ≡ b) × (serves (action p q x) ≡ true)) ⊎ (waits_for b (action p q x) ≡ true)

  -- an object with another action is outside
  outside_by : (c : Configuration) → Guarded c → (q : ℕ) (x : Object) → running c q ≡ Some x → (q ≡ b → serves (action p q x) ≡ true → ⊥) → (waits_for b (action p q x) ≡ true → ⊥) → inside q ≡ false
  outside_by c g q x r n m = by (inside q) refl
    where
      of : ((q ≡ b) × (serves (action p q x) ≡ true)) ⊎ (waits_for b (action p q x) ≡ true) → ⊥
      of (inl h) = n h.0 h.1
      of (inr h) = m h

      by : (t : Bool) → inside q ≡ t → inside q ≡ false
      by true e = absurd (of (g.stand q x e r))
      by false e = e

  moving : (c : Configuration) → Guarded c → (q : ℕ) (x : Object) → running c q ≡ Some x → (stands (action p q x) ≡ true → ⊥) → inside q ≡ false
  moving c g q x r n = outside_by c g q x r (λ e h. n (serving_stands (action p q x) h)) (λ h. n (waiting_stands b (action p q x) h))

  differ : (r : ℕ) → (r == b) ≡ false → r ≢ b
  differ r h e = absurd (let z : true ≡ false = sym (equals b) ∙ ap (λ q. q == b) (sym e) ∙ h in cc)

  -- no object inside takes part in a label that is not one of b
  pub takes_no_part : (c d : Configuration) (l : Label) → Guarded c → is_served b l ≡ false → transition p c l ≡ Some d → (inside (agent l) ≡ false) × (inside (partner l) ≡ false)
  takes_no_part c d (L.Local o) g s t =
      let r = given_by (running c o) _ d t in
      let y = given_by (local_step r.0 (action p o r.0)) _ d r.2 in
      let out = moving c g o r.0 r.1 (λ h. no_local r.0 y.0 (action p o r.0) h y.1) in
      (out, out)
  takes_no_part c d (L.New o n k) g s t =
      let r = given_by (running c o) _ d t in
      let w = required (makes (action p o r.0) k.0 && is_none (object_of c n)) _ d r.2 in
      let out = moving c g o r.0 r.1 (λ h. no_makes k.0 (action p o r.0) h (first (makes (action p o r.0) k.0) (is_none (object_of c n)) w.0)) in
      (out, out)
  takes_no_part c d (L.Answer r o m args) g s t =
      let x = given_by (running c o) _ d t in
      let y = given_by (running c r) _ d x.2 in
      let w = required (calls (action p o x.0) r m.0 args) _ d y.2 in
      let v = given_by (offer (action p r y.0) m.0) _ d w.1 in (
        outside_by c g r y.0 y.1 (λ e h. differ r s e) (λ h. no_offer b m.0 v.0 (action p r y.0) h v.1),
        outside_by c g o x.0 x.1 (λ e h. no_calls r m.0 args (action p o x.0) h w.0) (λ h. differ r s (calls_it b r m.0 args (action p o x.0) h w.0)),
      )
  takes_no_part c d (L.Return r o v) g s t =
      let y = given_by (running c r) _ d t in
      let x = given_by (running c o) _ d y.2 in
      let w = required (returns (action p r y.0) o v && waits_on (action p o x.0) r) _ d x.2 in (
        moving c g r y.0 y.1 (λ h. no_returns o v (action p r y.0) h (first (returns (action p r y.0) o v) (waits_on (action p o x.0) r) w.0)),
        moving c g o x.0 x.1 (λ h. no_waits r (action p o x.0) h (second (returns (action p r y.0) o v) (waits_on (action p o x.0) r) w.0)),
      )
  takes_no_part c d (L.Send o r m args) g s t =
      let x = given_by (running c o) _ d t in
      let w = required (posts (action p o x.0) r m.0 args && is_some (object_of c r)) _ d x.2 in
      let out = moving c g o x.0 x.1 (λ h. no_posts r m.0 args (action p o x.0) h (first (posts (action p o x.0) r m.0 args) (is_some (object_of c r)) w.0)) in
      (out, out)
  takes_no_part c d (L.Take r q m args) g s t =
      let y = given_by (running c r) _ d t in
      let v = given_by (offer (action p r y.0) m.0) _ d y.2 in
      let out = outside_by c g r y.0 y.1 (λ e h. differ r s e) (λ h. no_offer b m.0 v.0 (action p r y.0) h v.1) in
      (out, out)
  takes_no_part c d (L.Write o item) g s t =
      let x = given_by (running c o) _ d t in
      let w = required (writes (action p o x.0) item) _ d x.2 in
      let out = moving c g o x.0 x.1 (λ h. no_writes item (action p o x.0) h w.0) in
      (out, out)
  takes_no_part c d (L.Pick r i) g s t =
      let y = given_by (running c r) _ d t in
      let v = given_by (picked (action p r y.0) i) _ d y.2 in
      let out = outside_by c g r y.0 y.1 (λ e h. differ r s e) (λ h. no_picked b i v.0 (action p r y.0) h v.1) in
      (out, out)
  takes_no_part c d (L.Fault o e) g s t =
      let x = given_by (running c o) _ d t in
      let w = required (fails (action p o x.0) e) _ d x.2 in
      let out = moving c g o x.0 x.1 (λ h. no_fails e (action p o x.0) h w.0) in
      (out, out)

-- a label does not change an object that takes no part in it
pub others_stay : (p : ProgramTree) (c d : Configuration) (l : Label) (q : ℕ) → transition p c l ≡ Some d → q ≢ agent l → q ≢ partner l → is_some (object_of c q) ≡ true → object_of d q ≡ object_of c q
others_stay p c d (L.Local o) q t n m there =
    let r = given_by (running c o) _ d t in
    let y = given_by (local_step r.0 (action p o r.0)) _ d r.2 in
    ap (λ x. object_of x q) (sym (same_some y.2)) ∙ at_another c o q y.0 n
others_stay p c d (L.New o k class) q t n m there =
    let r = given_by (running c o) _ d t in
    let w = required (makes (action p o r.0) class.0 && is_none (object_of c k)) _ d r.2 in
    let y = given_by (class_of p class.0) _ d w.1 in
    let free = second (makes (action p o r.0) class.0) (is_none (object_of c k)) w.0 in
    let new : q ≢ k = λ e. none (object_of c k) free (ap (λ x. is_some (object_of c x)) (sym e) ∙ there) in
    ap (λ x. object_of x q) (sym (same_some y.2)) ∙ at_another (put_object c o (given r.0 (V.Ref k))) k q (new_object y.0) new ∙ at_another c o q (given r.0 (V.Ref k)) n
  where
    none : (z : Option Object) → is_none z ≡ true → is_some z ≡ true → ⊥
    none None i j = absurd (cc)
    none (Some x) i j = absurd (cc)
others_stay p c d (L.Answer b o m args) q t n k there =
    let x = given_by (running c o) _ d t in
    let y = given_by (running c b) _ d x.2 in
    let w = required (calls (action p o x.0) b m.0 args) _ d y.2 in
    let v = given_by (offer (action p b y.0) m.0) _ d w.1 in
    let u = required _ _ d v.2 in
    let method = given_by (method_of p y.0.class m.0 (length args)) _ d u.1 in
    ap (λ z. object_of z q) (sym (same_some method.2))
    ∙ at_another (put_object c o (refilled x.0 (AsExpression (T.Wait b m.0)))) b q (serving y.0 method.0 (Some o) args v.0.work) n
    ∙ at_another c o q (refilled x.0 (AsExpression (T.Wait b m.0))) k
others_stay p c d (L.Return b o v) q t n k there =
    let y = given_by (running c b) _ d t in
    let x = given_by (running c o) _ d y.2 in
    let w = required (returns (action p b y.0) o v && waits_on (action p o x.0) b) _ d x.2 in
    ap (λ z. object_of z q) (sym (same_some w.1)) ∙ at_another (put_object c b (returned y.0)) o q (given x.0 v) k ∙ at_another c b q (returned y.0) n
others_stay p c d (L.Send o b m args) q t n k there =
    let x = given_by (running c o) _ d t in
    let w = required (posts (action p o x.0) b m.0 args && is_some (object_of c b)) _ d x.2 in
    ap (λ z. object_of z q) (sym (same_some w.1)) ∙ at_another c o q (done x.0) n
others_stay p c d (L.Take b s m args) q t n k there =
    let y = given_by (running c b) _ d t in
    let v = given_by (offer (action p b y.0) m.0) _ d y.2 in
    let g = given_by (first_message v.0.names (messages_of c s b)) _ d v.2 in
    let w = required (g.0.method == m.0 && are_same g.0.args args) _ d g.2 in
    let method = given_by (method_of p y.0.class m.0 (length args)) _ d w.1 in
    ap (λ z. object_of z q) (sym (same_some method.2)) ∙ at_another c b q (serving y.0 method.0 None args v.0.work) n
others_stay p c d (L.Write o item) q t n k there =
    let x = given_by (running c o) _ d t in
    let w = required (writes (action p o x.0) item) _ d x.2 in
    ap (λ z. object_of z q) (sym (same_some w.1)) ∙ at_another c o q (done x.0) n
others_stay p c d (L.Pick o i) q t n k there =
    let x = given_by (running c o) _ d t in
    let w = given_by (picked (action p o x.0) i) _ d x.2 in
    ap (λ z. object_of z q) (sym (same_some w.2)) ∙ at_another c o q (refilled x.0 (AsStatements w.0)) n
others_stay p c d (L.Fault o e) q t n k there =
    let x = given_by (running c o) _ d t in
    let w = required (fails (action p o x.0) e) _ d x.2 in
    ap (λ z. object_of z q) (sym (same_some w.1)) ∙ at_another c o q (record x.0 { fault = Some e }) n
