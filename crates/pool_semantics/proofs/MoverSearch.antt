-- The objects that can make a transition by next actions and by messages, from the stepper's maps.
use Rattle.std.proofs.Common.{◌≡◌, ◌⊎◌, inl, inr, refl, sym, ap, ap₂, subst, ◌∙◌, ℕ, List, [], ◌∷◌, Option, Some, None, is_some, not, ◌||◌, Bool, true, false, arith}
use Rattle.std.specs.Prelude.{◌≤◌, ◌<◌, IfSome, IfNone}
use Rattle.std.specs.Bool.{then_some}
use Rattle.std.specs.List.{list_any}
use Rattle.std.specs.Ordering.{nat_cmp}
use Rattle.std.specs.Map.{lookup}
use Rattle.std.specs.BTreeMap.{BTreeMap, is_at, get}
use Rattle.run_types.specs.declared.types.Label.{Label}
use Rattle.run_types.specs.declared.types.NameId.{NameId}
use Rattle.run_types.specs.declared.types.Value.{Value}
use Rattle.pool_syntax.specs.declared.tree.Named.{Named}
use Rattle.pool_syntax.specs.Terms.{ProgramTree}
use Rattle.run_types.specs.Message.{Message}
use Rattle.run_types.specs.Tables.{Pair, pair_cmp, list_at}
use Rattle.run_types.proofs.Laws.{same_some}
use Rattle.pool_relation.specs.Reducible.{Choice}
use Rattle.pool_relation.specs.Action as A
use Rattle.pool_relation.specs.Action.{Object, Action, action}
use Rattle.pool_relation.specs.Configuration.{Configuration, messages_of}
use Rattle.pool_relation.specs.Progress.{agent, HasOwnTransition}
use Rattle.pool_relation.specs.Transition.{Offer, offer, running, has_message, transition}
use Rattle.stepper_objects.specs.declared.object_state.ObjectState.{ObjectState}
use Rattle.object_acts.specs.declared.act.Act.{Act}
use Rattle.object_acts.specs.declared.act.Act.TheVariants as C
use Rattle.object_acts.specs.Acts.{acted}
use Rattle.stepper_objects.specs.Offers.{offer_act}
use Rattle.stepper_objects.specs.ObjectStates.{thing_object}
use Rattle.stepper_terms.specs.Arguments.{now_args, now_names, now_choices}
use Rattle.message_queue.specs.declared.Mail.{Mail}
use Rattle.pool_semantics.specs.Mails.{queued, posts}
use Rattle.pool_semantics.specs.Sound.{Sound}
use Rattle.pool_semantics.specs.Moving.{goes_alone, is_offered, would_answer, Takes, Answers, MovesBy, alone, answers, IsTheOne, IsLeast, lesser}
use Rattle.pool_semantics.proofs.MovingObjects.{Moves, by_object, by_message}
use Rattle.pool_semantics.proofs.CanMove.{moves_of, possible_of}
use Rattle.pool_semantics.proofs.Labels.{with_objects, running_none}
use Rattle.pool_semantics.proofs.Least.{either_kind}
use Rattle.pool_semantics.proofs.PairMessages.{list_found, list_missing}

-- what an object does next gives at most one object that moves: who calls moves the one that answers
pub called : (p : ProgramTree) (c : Configuration) (o b m : ℕ) (args : List Value) (x : Object) → running c o ≡ Some x → action p o x ≡ A.Send b m args
    → (w : Bool) → would_answer p c o b m ≡ w → IsTheOne (MovesBy p c o) (then_some w b)
called p c o b m args x r a w e = by w e
  where
    one : (d : ℕ) → MovesBy p c o d → (d ≡ b) × (would_answer p c o b m ≡ true)
    one d (alone y s h i) =
        let same : y ≡ x = same_some (sym s ∙ r) in
        let z : goes_alone (A.Send b m args) ≡ true = ap goes_alone (sym (ap (action p o) same ∙ a)) ∙ h in
        absurd (let f : false ≡ true = z in cc)
    one d (answers t) =
        let same : t.caller ≡ x = same_some (sym t.waits ∙ r) in
        let k : A.Send d t.method t.args ≡ A.Send b m args = sym t.calls ∙ (ap (action p o) same ∙ a) in
        let to : d ≡ b = cc in
        let on : t.method ≡ m = cc in
        (to, subst (λ (q : ℕ). would_answer p c o q m ≡ true) to (subst (λ (n : ℕ). would_answer p c o d n ≡ true) on (rw (t.runs, t.offered, t.free) refl)))

    found : would_answer p c o b m ≡ true → Answers p c o b
    found h = on_object (running c b) refl
      where
        on_offer : (y : Object) → running c b ≡ Some y → (v : Option Offer) → offer (action p b y) m ≡ v → Answers p c o b
        on_offer y s None j = absurd (let z : false ≡ true = rw (s, j) at h in cc)
        on_offer y s (Some v) j = is (has_message v.names (messages_of c o b)) refl
          where
            is : (f : Bool) → has_message v.names (messages_of c o b) ≡ f → Answers p c o b
            is true k = absurd (let z : false ≡ true = rw (s, j, k) at h in cc)
            is false k = record { caller = x; waits = r; method = m; args = args; calls = a; object = y; runs = s; offers = v; offered = j; free = k }

        on_object : (y : Option Object) → running c b ≡ y → Answers p c o b
        on_object None s = absurd (let z : false ≡ true = rw s at h in cc)
        on_object (Some y) s = on_offer y s (offer (action p b y) m) refl

    by : (w : Bool) → would_answer p c o b m ≡ w → IsTheOne (MovesBy p c o) (then_some w b)
    by true e = record { holds = answers (found e); only = λ d t. ap Some (sym (one d t).0) }
    by false e = record { holds = tt; only = λ d t. absurd (let z : false ≡ true = sym e ∙ (one d t).1 in cc) }

-- who does not call moves alone, or not
pub not_called : (p : ProgramTree) (c : Configuration) (o : ℕ) (x : Object) (a : Action) → running c o ≡ Some x → action p o x ≡ a → ((b m : ℕ) (args : List Value) → a ≡ A.Send b m args → ⊥)
    → (w : Bool) → goes_alone a ≡ w → IsTheOne (MovesBy p c o) (then_some w o)
not_called p c o x a r i n w e = by w e
  where
    one : (d : ℕ) → MovesBy p c o d → (o ≡ d) × (goes_alone a ≡ true)
    one d (alone y s h j) = (j, let same : y ≡ x = same_some (sym s ∙ r) in ap goes_alone (sym (ap (action p o) same ∙ i)) ∙ h)
    one d (answers t) =
        let same : t.caller ≡ x = same_some (sym t.waits ∙ r) in
        absurd (n d t.method t.args (sym (ap (action p o) same ∙ i) ∙ t.calls))

    by : (w : Bool) → goes_alone a ≡ w → IsTheOne (MovesBy p c o) (then_some w o)
    by true e = record { holds = alone x r (ap goes_alone i ∙ e) refl; only = λ d t. ap Some (one d t).0 }
    by false e = record { holds = tt; only = λ d t. absurd (let z : false ≡ true = sym e ∙ (one d t).1 in cc) }

-- an act that is no call stands for no call
pub not_sent : (x : Object) (vs : List Value) (ns : List Named) (cs : List Choice) (a : Act) → ((b : ℕ) (k : NameId) → a ≡ C.Send b k → ⊥) → (b m : ℕ) (args : List Value) → acted x vs ns cs a ≡ A.Send b m args → ⊥
not_sent x vs ns cs (C.Send q k) n b m args e = n q k refl
not_sent x vs ns cs _ n b m args e = cc

-- what an object offers, by its act
offers_of : (x : Object) (vs : List Value) (ns : List Named) (cs : List Choice) (a : Act) (n : ℕ) → offer (acted x vs ns cs a) n ≡ offer_act a ns cs n
offers_of x vs ns cs C.Answer n = refl
offers_of x vs ns cs C.Select n = refl
offers_of x vs ns cs _ n = refl

pub offers_acted : (p : ProgramTree) (b : ℕ) (y : ObjectState) (a : Act) → action p b (thing_object y) ≡ acted (thing_object y) (now_args y.work.next) (now_names y.work.next) (now_choices y.work.next) a → (n : ℕ)
    → offer (action p b (thing_object y)) n ≡ offer_act a (now_names y.work.next) (now_choices y.work.next) n
offers_acted p b y a e n = ap (λ (k : Action). offer k n) e ∙ offers_of (thing_object y) (now_args y.work.next) (now_names y.work.next) (now_choices y.work.next) a n

pub offered_acted : (p : ProgramTree) (b : ℕ) (y : ObjectState) (a : Act) → action p b (thing_object y) ≡ acted (thing_object y) (now_args y.work.next) (now_names y.work.next) (now_choices y.work.next) a → (ms : List Message)
    → is_offered (action p b (thing_object y)) ms ≡ list_any (λ (m : Message). is_some (offer_act a (now_names y.work.next) (now_choices y.work.next) m.method)) ms
offered_acted p b y a e [] = refl
offered_acted p b y a e (m ∷ ms) = ap₂ (λ h t. is_some h || t) (offers_acted p b y a e m.method) (offered_acted p b y a e ms)

-- whether an object answers, by what it offers
pub answers_without : (p : ProgramTree) (c : Configuration) (o b m : ℕ) (y : Object) → running c b ≡ Some y → offer (action p b y) m ≡ None → would_answer p c o b m ≡ false
answers_without p c o b m y e f = rw (e, f) refl

pub answers_with : (p : ProgramTree) (c : Configuration) (o b m : ℕ) (y : Object) (v : Offer) → running c b ≡ Some y → offer (action p b y) m ≡ Some v → would_answer p c o b m ≡ not (has_message v.names (messages_of c o b))
answers_with p c o b m y v e f = by (has_message v.names (messages_of c o b)) refl
  where
    by : (h : Bool) → has_message v.names (messages_of c o b) ≡ h → would_answer p c o b m ≡ not (has_message v.names (messages_of c o b))
    by true h = rw (e, f, h) refl
    by false h = rw (e, f, h) refl

-- who takes one of these messages

pub taken : (p : ProgramTree) (c : Configuration) (b : ℕ) (ms : List Message) (y : Object) → running c b ≡ Some y → (w : Bool) → is_offered (action p b y) ms ≡ w → IsTheOne (λ d. (d ≡ b) × Takes p c d ms) (then_some w b)
taken p c b ms y r true e = record { holds = (refl, record { object = y; runs = r; offered = e }); only = λ d t. ap Some (sym t.0) }
taken p c b ms y r false e = record { holds = tt; only = λ d t. absurd (other d t.0 t.1) }
  where
    other : (d : ℕ) → d ≡ b → Takes p c d ms → ⊥
    other d i t =
        let same : t.object ≡ y = same_some (sym t.runs ∙ (ap (running c) i ∙ r)) in
        let z : is_offered (action p b y) ms ≡ true = ap₂ (λ q x. is_offered (action p q x) ms) (sym i) (sym same) ∙ t.offered in
        let f : false ≡ true = sym e ∙ z in cc

-- each is found in its map

pub object_there : (p : ProgramTree) (m : BTreeMap ℕ ObjectState) (ms : List (Pair × List Message)) (o b : ℕ) → MovesBy p (with_objects m ms) o b → is_some (lookup (is_at (nat_cmp o)) m.entries) ≡ true
object_there p m ms o b t = on t
  where
    runs : (x : Object) → running (with_objects m ms) o ≡ Some x → is_some (lookup (is_at (nat_cmp o)) m.entries) ≡ true
    runs x r = by (get nat_cmp m o) refl
      where
        by : (w : Option ObjectState) → get nat_cmp m o ≡ w → is_some (get nat_cmp m o) ≡ true
        by (Some w) e = rw e refl
        by None e = absurd (let z : None ≡ Some x = sym (running_none m ms o e) ∙ r in cc)

    on : MovesBy p (with_objects m ms) o b → is_some (lookup (is_at (nat_cmp o)) m.entries) ≡ true
    on (alone x r h i) = runs x r
    on (answers a) = runs a.caller a.waits

-- b takes a message of the pair
abbrev pub TakesOf : ProgramTree → Configuration → Pair → ℕ → Type 0
TakesOf p c k b = (b ≡ k.1) × Takes p c b (messages_of c k.0 k.1)

pub pair_there : (p : ProgramTree) (c : Configuration) (es : List (Pair × List Mail)) (k : Pair) (b : ℕ) → c.messages ≡ posts es → TakesOf p c k b → is_some (lookup (is_at (pair_cmp k)) es) ≡ true
pair_there p c es (s, q) b e t = by (lookup (is_at (pair_cmp (s, q))) es) refl
  where
    by : (w : Option (List Mail)) → lookup (is_at (pair_cmp (s, q))) es ≡ w → is_some (lookup (is_at (pair_cmp (s, q))) es) ≡ true
    by (Some w) h = rw h refl
    by None h =
        let empty : messages_of c s q ≡ [] = ap (λ ms. list_at pair_cmp (s, q) ms) e ∙ list_missing queued (s, q) es h in
        let z : false ≡ true = ap (is_offered (action p b t.1.object)) (sym empty) ∙ t.1.offered in absurd (cc)

-- and the pair of an entry has its messages
pub its_messages : (c : Configuration) (es : List (Pair × List Mail)) (k : Pair) (q : List Mail) → c.messages ≡ posts es → lookup (is_at (pair_cmp k)) es ≡ Some q → messages_of c k.0 k.1 ≡ queued q
its_messages c es (s, r) q e h = ap (λ ms. list_at pair_cmp (s, r) ms) e ∙ list_found queued (s, r) es q h

-- what the least object that moves says of labels

pub can_move : (p : ProgramTree) (c : Configuration) → Sound p c → (r : Option ℕ) → IsLeast (Moves p c) r → IfSome r (λ o. HasOwnTransition p c o)
can_move p c s None l = tt
can_move p c s (Some o) l = possible_of p c s o l.holds

none_at : (p : ProgramTree) (c : Configuration) (lab : Label) → ¬ (Moves p c (agent lab)) → transition p c lab ≡ None
none_at p c lab n = by (transition p c lab) refl
  where
    by : (o : Option Configuration) → transition p c lab ≡ o → transition p c lab ≡ None
    by None e = e
    by (Some d) e = absurd (n (moves_of p c lab d e))

pub none_below : (p : ProgramTree) (c : Configuration) (r : Option ℕ) → IsLeast (Moves p c) r → IfSome r (λ o. (lab : Label) → agent lab < o → transition p c lab ≡ None)
none_below p c None l = tt
none_below p c (Some o) l = λ lab h. none_at p c lab (λ m. let k : o ≤ agent lab = l.least (agent lab) m in absurd (omega (arith, h, k)))

pub none_moves : (p : ProgramTree) (c : Configuration) (r : Option ℕ) → IsLeast (Moves p c) r → IfNone r ((lab : Label) → transition p c lab ≡ None)
none_moves p c None l = λ lab. none_at p c lab (λ m. l.least (agent lab) m)
none_moves p c (Some o) l = tt

-- objects that take messages, by pairs and by senders
pub of_pair : (p : ProgramTree) (c : Configuration) (k : Pair) (ms : List Message) (r : Option ℕ) → messages_of c k.0 k.1 ≡ ms → IsTheOne (λ d. (d ≡ k.1) × Takes p c d ms) r → IsTheOne (TakesOf p c k) r
of_pair p c k ms r e t = subst (λ (ns : List Message). IsTheOne (λ d. (d ≡ k.1) × Takes p c d ns) r) (sym e) t

pub from_pair : (p : ProgramTree) (c : Configuration) (b : ℕ) → (k : Pair) × TakesOf p c k b → (s : ℕ) × Takes p c b (messages_of c s b)
from_pair p c b ((s, q), (e, t)) = (s, subst (λ (n : ℕ). Takes p c b (messages_of c s n)) (sym e) t)

pub to_pair : (p : ProgramTree) (c : Configuration) (b : ℕ) → (s : ℕ) × Takes p c b (messages_of c s b) → (k : Pair) × TakesOf p c k b
to_pair p c b (s, t) = ((s, b), (refl, t))

pub moved_by_one : (p : ProgramTree) (c : Configuration) (b : ℕ) → Moves p c b → ((o : ℕ) × MovesBy p c o b) ⊎ ((s : ℕ) × Takes p c b (messages_of c s b))
moved_by_one p c b (by_object o t) = inl (o, t)
moved_by_one p c b (by_message s t) = inr (s, t)

-- the least object that moves at all
pub least_of_all : (p : ProgramTree) (c : Configuration) (l r : Option ℕ) → IsLeast (λ b. (o : ℕ) × MovesBy p c o b) l → IsLeast (λ b. (s : ℕ) × Takes p c b (messages_of c s b)) r → IsLeast (Moves p c) (lesser l r)
least_of_all p c l r m n =
    either_kind (λ b. (o : ℕ) × MovesBy p c o b) (λ b. (s : ℕ) × Takes p c b (messages_of c s b)) (Moves p c) l r (λ b t. by_object t.0 t.1) (λ b t. by_message t.0 t.1) (moved_by_one p c) m n
