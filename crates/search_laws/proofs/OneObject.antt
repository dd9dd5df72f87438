-- Transitions are made of moves of single objects. Moves of one object that need no choice, one after another, are
-- transitions that need no choice.
use Rattle.std.proofs.Common.{◌≡◌, refl, sym, ap, ◌∙◌, ℕ, List, [], ◌∷◌, ◌++◌, length, Option, Some, None, is_some, Bool, true, false, not, ◌&&◌, ◌==◌, arith}
use Rattle.std.specs.Ordering.{nat_cmp}
use Rattle.std.specs.declared.cmp.Ordering.{Ordering}
use Rattle.std.specs.declared.cmp.Ordering.TheVariants.{Less, Equal, Greater}
use Rattle.std.specs.FinMap.{put}
use Rattle.run_types.specs.declared.types.Label.{Label}
use Rattle.run_types.specs.declared.types.Label.TheVariants as L
use Rattle.run_types.specs.Message.{Message}
use Rattle.run_types.specs.Partial.{◌>>=◌, ◌>>◌, require}
use Rattle.run_types.proofs.Laws.{same_some, both}
use Rattle.pool_syntax.specs.Terms as T
use Rattle.pool_syntax.specs.Terms.{ProgramTree}
use Rattle.pool_relation.specs.Reducible.{AsExpression, AsStatements}
use Rattle.run_types.specs.Same.{are_same}
use Rattle.pool_relation.specs.Action.{Object, method_of, action}
use Rattle.pool_relation.specs.Configuration.{Configuration, object_of, put_object, messages_of, put_messages}
use Rattle.pool_relation.specs.Transition.{running, local_step, calls, posts, writes, fails, picked, offer, has_message, first_message, without_first, refilled, done, serving, transition}
use Rattle.search_laws.specs.ClosedLists.{Settles, Settled, Goes}
use Rattle.search_laws.specs.Moves.{by_moves, Rests, Still, ByItself, ByWriting, BySending, ByFailing, posted, HaveReceivers}
use Rattle.search_laws.proofs.PutsCommute.{at_itself, still_there}
use Rattle.search_laws.proofs.Commutation.{running_at}

under : {X Y : Type 0} (o : Option X) (f g : X → Option Y) → ((x : X) → f x ≡ g x) → (o >>= f) ≡ (o >>= g)
under None f g h = refl
under (Some x) f g h = h x

wanted : {Y : Type 0} (b : Bool) (f g : Option Y) → f ≡ g → (require b >> f) ≡ (require b >> g)
wanted true f g h = h
wanted false f g h = refl

-- a value that was found can be computed again
again : {X Y Z : Type 0} (o : Option X) (h : X → Option Y) (F : X → Option Y → Option Z) → (o >>= λ v. F v (h v)) ≡ (o >>= λ v. F v (o >>= h))
again None h F = refl
again (Some v) h F = refl

in_turn : {X Y Z : Type 0} (q : Option X) (f : X → Y) (g : Y → Z) → (q >>= λ m. Some (g (f m))) ≡ ((q >>= λ m. Some (f m)) >>= λ z. Some (g z))
in_turn None f g = refl
in_turn (Some m) f g = refl

pub transitions_are_moves : (p : ProgramTree) (c : Configuration) (l : Label) → transition p c l ≡ by_moves p c l
transitions_are_moves p c (L.Local o) = refl
transitions_are_moves p c (L.New o n k) = refl
transitions_are_moves p c (L.Return b o v) = refl
transitions_are_moves p c (L.Send o b m args) = refl
transitions_are_moves p c (L.Write o item) = refl
transitions_are_moves p c (L.Fault o e) = refl
transitions_are_moves p c (L.Pick o i) = under (running c o) _ _ (λ x. in_turn (picked (action p o x) i) (λ work. refilled x (AsStatements work)) (λ y. put_object c o y))
transitions_are_moves p c (L.Answer b o m args) =
    under (running c o) _ _ (λ x. under (running c b) _ _ (λ y. wanted (calls (action p o x) b m.0 args) _ _ (
    under (offer (action p b y) m.0) _ _ (λ v. wanted (not (has_message v.names (messages_of c o b))) _ _
    (in_turn (method_of p y.class m.0 (length args)) (λ method. serving y method (Some o) args v.work) (λ z. put_object (put_object c o (refilled x (AsExpression (T.Wait b m.0)))) b z)))
    ∙ again (offer (action p b y) m.0) (λ v. method_of p y.class m.0 (length args) >>= λ method. Some (serving y method (Some o) args v.work))
    (λ v t. require (not (has_message v.names (messages_of c o b))) >> (t >>= λ z. Some (put_object (put_object c o (refilled x (AsExpression (T.Wait b m.0)))) b z))))))
transitions_are_moves p c (L.Take b s m args) =
    under (running c b) _ _ (λ y.
    under (offer (action p b y) m.0) _ _ (λ v. under (first_message v.names (messages_of c s b)) _ _ (λ first. wanted (first.method == m.0 && are_same first.args args) _ _
    (in_turn (method_of p y.class m.0 (length args)) (λ method. serving y method None args v.work) (λ z. put_messages (put_object c b z) s b (without_first v.names (messages_of c s b))))))
    ∙ again (offer (action p b y) m.0) (λ v. method_of p y.class m.0 (length args) >>= λ method. Some (serving y method None args v.work))
    (λ v t. first_message v.names (messages_of c s b) >>= λ first. require (first.method == m.0 && are_same first.args args)
    >> (t >>= λ z. Some (put_messages (put_object c b z) s b (without_first v.names (messages_of c s b))))))

put_put : {X : Type 0} (o : ℕ) (y z : X) (es : List (ℕ × X)) → put nat_cmp o z (put nat_cmp o y es) ≡ put nat_cmp o z es
put_put o y z [] = let e : nat_cmp o o ≡ Equal = grind arith in rw e refl
put_put {X} o y z (e ∷ es) = by (nat_cmp o e.0) refl (put_put o y z es)
  where
    by : (r : Ordering) → nat_cmp o e.0 ≡ r → put nat_cmp o z (put nat_cmp o y es) ≡ put nat_cmp o z es → put nat_cmp o z (put nat_cmp o y (e ∷ es)) ≡ put nat_cmp o z (e ∷ es)
    by Less i k = let f : nat_cmp o o ≡ Equal = grind arith in rw (i, f) refl
    by Equal i k = rw (i, i) refl
    by Greater i k = rw (i, i) (ap (λ (zs : List (ℕ × X)). e ∷ zs) k)

twice : (c : Configuration) (o : ℕ) (y z : Object) → put_object (put_object c o y) o z ≡ put_object c o z
twice c o y z = ap (λ es. record { objects = es; messages = c.messages }) (put_put o y z c.objects)

here : (c : Configuration) (o : ℕ) (x : Object) → x.fault ≡ None → running (put_object c o x) o ≡ Some x
here c o x sound = running_at (put_object c o x) o x (at_itself c o x) sound

receivers_kept : (c d : Configuration) (ms : List (ℕ × Message)) → ((q : ℕ) → is_some (object_of c q) ≡ true → is_some (object_of d q) ≡ true) → HaveReceivers c ms → HaveReceivers d ms
receivers_kept c d [] kept h = tt
receivers_kept c d (e ∷ es) kept h = (kept e.0 h.0, receivers_kept c d es kept h.1)

there_again : (c : Configuration) (o : ℕ) (x y : Object) (q : ℕ) → is_some (object_of (put_object c o x) q) ≡ true → is_some (object_of (put_object c o y) q) ≡ true
there_again c o x y q h = ap (λ d. is_some (object_of d q)) (sym (twice c o x y)) ∙ still_there (put_object c o x) o y (ap is_some (at_itself c o x)) q ∙ h

pub an_object_settles : (p : ProgramTree) (o : ℕ) (c : Configuration) (x z : Object) (ms : List (ℕ × Message)) → HaveReceivers (put_object c o x) ms → Rests p o x ms z
    → Settles p (put_object c o x) (put_object (posted c o ms) o z)
an_object_settles p o c x z ms there Still = Settled
an_object_settles p o c x z ms there (ByItself {y = y} sound m rest) =
    let step : transition p (put_object c o x) (L.Local o) ≡ Some (put_object c o y) =
    ap (λ q. q >>= λ w. local_step w (action p o w) >>= λ v. Some (put_object (put_object c o x) o v)) (here c o x sound)
    ∙ ap (λ q. q >>= λ v. Some (put_object (put_object c o x) o v)) m ∙ ap Some (twice c o x y) in
    Goes (L.Local o) refl step (an_object_settles p o c y z ms (receivers_kept (put_object c o x) (put_object c o y) ms (there_again c o x y) there) rest)
an_object_settles p o c x z ms there (ByWriting {y = y} item sound w m rest) =
    let is : done x ≡ y = same_some m in
    let step : transition p (put_object c o x) (L.Write o item) ≡ Some (put_object c o y) =
    ap (λ q. q >>= λ v. require (writes (action p o v) item) >> Some (put_object (put_object c o x) o (done v))) (here c o x sound)
    ∙ ap (λ q. require q >> Some (put_object (put_object c o x) o (done x))) w ∙ ap Some (twice c o x (done x)) ∙ ap (λ v. Some (put_object c o v)) is in
    Goes (L.Write o item) refl step (an_object_settles p o c y z ms (receivers_kept (put_object c o x) (put_object c o y) ms (there_again c o x y) there) rest)
an_object_settles p o c x z ms there (ByFailing {y = y} e sound f m) =
    let is : record x { fault = Some e } ≡ y = same_some m in
    let step : transition p (put_object c o x) (L.Fault o e) ≡ Some (put_object c o y) =
    ap (λ q. q >>= λ v. require (fails (action p o v) e) >> Some (put_object (put_object c o x) o (record v { fault = Some e }))) (here c o x sound)
    ∙ ap (λ q. require q >> Some (put_object (put_object c o x) o (record x { fault = Some e }))) f ∙ ap Some (twice c o x (record x { fault = Some e })) ∙ ap (λ v. Some (put_object c o v)) is in
    Goes (L.Fault o e) refl step Settled
an_object_settles p o c x z ms there (BySending {y = y} {ms = rest_of} b m sound w g rest) =
    let is : done x ≡ y = same_some g in
    let after : Configuration = put_messages c o b (messages_of c o b ++ m ∷ []) in
    let step : transition p (put_object c o x) (L.Send o b (record { 0 = m.method }) m.args) ≡ Some (put_object after o y) =
    ap (λ q. q >>= λ v. require (posts (action p o v) b m.method m.args && is_some (object_of (put_object c o x) b))
    >> Some (put_messages (put_object (put_object c o x) o (done v)) o b (messages_of c o b ++ m ∷ []))) (here c o x sound)
    ∙ ap (λ q. require q >> Some (put_messages (put_object (put_object c o x) o (done x)) o b (messages_of c o b ++ m ∷ [])))
    (both (posts (action p o x) b m.method m.args) (is_some (object_of (put_object c o x) b)) w there.0)
    ∙ ap (λ d. Some (put_messages d o b (messages_of c o b ++ m ∷ []))) (twice c o x (done x)) ∙ ap (λ v. Some (put_object after o v)) is in
    Goes (L.Send o b (record { 0 = m.method }) m.args) refl step
    (an_object_settles p o after y z rest_of (receivers_kept (put_object c o x) (put_object after o y) rest_of (there_again c o x y) there.1) rest)
