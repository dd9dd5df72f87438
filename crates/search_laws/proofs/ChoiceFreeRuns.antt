-- Sequences of transitions that need no choice; and each label keeps the maps in order.
use Rattle.std.proofs.Common.{◌≡◌, refl, subst, ℕ, List, [], ◌∷◌, ◌++◌, length, Option, Some, None, is_some, is_none, Bool, true, false, not, ◌&&◌, ◌==◌}
use Rattle.run_types.specs.declared.types.Value.TheVariants as V
use Rattle.run_types.specs.declared.types.Label.{Label}
use Rattle.run_types.specs.declared.types.Label.TheVariants as L
use Rattle.pool_syntax.specs.Terms as T
use Rattle.pool_syntax.specs.Terms.{Store, Statements, ProgramTree}
use Rattle.pool_syntax.specs.Classes.{class_of}
use Rattle.run_types.specs.Partial.{◌>>=◌, ◌>>◌, require}
use Rattle.run_types.specs.Same.{are_same}
use Rattle.pool_relation.specs.Reducible.{AsExpression, AsStatements}
use Rattle.pool_relation.specs.Action.{method_of, action}
use Rattle.pool_relation.specs.Configuration.{Configuration, object_of, put_object, messages_of}
use Rattle.pool_relation.specs.Transition.{running, local_step, makes, calls, posts, returns, waits_on, writes, fails, picked, offer, has_message, first_message, without_first, refilled, done, returned, given, serving, new_object, last_class, transition, start}
use Rattle.reachability.specs.Search.{IsReached, IsStuck, IsUnfinished, IsIn, IsInOrder}
use Rattle.search_laws.specs.ClosedLists as C
use Rattle.search_laws.specs.ClosedLists.{IsClosedAfterSettling}
use Rattle.search_laws.specs.Renamed.{IsNameless}
use Rattle.search_laws.proofs.PutsCommute.{sorted_put, sorted_messages}
use Rattle.search_laws.proofs.ReducedSearch.{Settled, Goes}
use Rattle.search_laws.proofs.SettledSearch.{SettlesAlone, IsClosedOnceSettled, never_stuck_after, never_unfinished_after}

-- each label keeps both maps in order
data Sorts : Option Configuration → Type 0 where
  SortsNone : Sorts None
  SortsAll : {d : Configuration} → IsInOrder d → Sorts (Some d)

each : {X : Type 0} (o : Option X) (k : X → Option Configuration) → ((x : X) → Sorts (k x)) → Sorts (o >>= k)
each None k s = SortsNone
each (Some x) k s = s x

wanting : (b : Bool) (k : Option Configuration) → Sorts k → Sorts (require b >> k)
wanting true k s = s
wanting false k s = SortsNone

label_sorts : (p : ProgramTree) (c : Configuration) (l : Label) → IsInOrder c → Sorts (transition p c l)
label_sorts p c (L.Local o) s = each (running c o) _ (λ x. each (local_step x (action p o x)) _ (λ y. SortsAll (sorted_put c o y s)))
label_sorts p c (L.New o n k) s =
    each (running c o) _ (λ x. wanting (makes (action p o x) k.0 && is_none (object_of c n)) _ (each (class_of p k.0) _
    (λ class. SortsAll (sorted_put (put_object c o (given x (V.Ref n))) n (new_object class) (sorted_put c o (given x (V.Ref n)) s)))))
label_sorts p c (L.Answer b o m args) s =
    each (running c o) _ (λ x. each (running c b) _ (λ y. wanting (calls (action p o x) b m.0 args) _ (each (offer (action p b y) m.0) _
    (λ v. wanting (not (has_message v.names (messages_of c o b))) _ (each (method_of p y.class m.0 (length args)) _
    (λ method. SortsAll (sorted_put (put_object c o (refilled x (AsExpression (T.Wait b m.0)))) b (serving y method (Some o) args v.work)
    (sorted_put c o (refilled x (AsExpression (T.Wait b m.0))) s))))))))
label_sorts p c (L.Return b o v) s =
    each (running c b) _ (λ y. each (running c o) _ (λ x. wanting (returns (action p b y) o v && waits_on (action p o x) b) _
    (SortsAll (sorted_put (put_object c b (returned y)) o (given x v) (sorted_put c b (returned y) s)))))
label_sorts p c (L.Send o b m args) s =
    each (running c o) _ (λ x. wanting (posts (action p o x) b m.0 args && is_some (object_of c b)) _ (SortsAll (sorted_messages (put_object c o (done x)) o b (messages_of c o b ++ record { method = m.0; args = args } ∷ []) (sorted_put c o (done x) s))))
label_sorts p c (L.Take b q m args) s =
    each (running c b) _ (λ y. each (offer (action p b y) m.0) _ (λ v. each (first_message v.names (messages_of c q b)) _
    (λ first. wanting (first.method == m.0 && are_same first.args args) _ (each (method_of p y.class m.0 (length args)) _
    (λ method. SortsAll (sorted_messages (put_object c b (serving y method None args v.work)) q b (without_first v.names (messages_of c q b)) (sorted_put c b (serving y method None args v.work) s)))))))
label_sorts p c (L.Write o item) s = each (running c o) _ (λ x. wanting (writes (action p o x) item) _ (SortsAll (sorted_put c o (done x) s)))
label_sorts p c (L.Pick o i) s =
    each (running c o) _ (λ x. each (picked (action p o x) i) _ (λ work. SortsAll (sorted_put c o (refilled x (AsStatements work)) s)))
label_sorts p c (L.Fault o r) s =
    each (running c o) _ (λ x. wanting (fails (action p o x) r) _ (SortsAll (sorted_put c o (record x { fault = Some r }) s)))

pub sorted_after : (p : ProgramTree) (c d : Configuration) (l : Label) → IsInOrder c → transition p c l ≡ Some d → IsInOrder d
sorted_after p c d l s i = let all : Sorts (Some d) = subst Sorts i (label_sorts p c l s) in elim all [ SortsAll h ↦ h ]

pub settles : (p : ProgramTree) (c e : Configuration) → IsInOrder c → C.Settles p c e → SettlesAlone p c e
settles p c e s C.Settled = Settled
settles p c e s (C.Goes {d = d} l kind i rest) = Goes (record { kind = kind; sorted = s }) i (settles p d e (sorted_after p c d l s i) rest)

pub start_sorted : (p : ProgramTree) (c : Configuration) → start p 0 ≡ Some c → IsInOrder c
start_sorted p c e = let all : Sorts (Some c) = subst Sorts e (each (last_class p) _ (λ k. SortsAll (refl, refl))) in elim all [ SortsAll h ↦ h ]

-- a whole list in the terms of that search
whole_after : (p : ProgramTree) (es : List (ℕ × Configuration)) → IsClosedAfterSettling p es → IsClosedOnceSettled p es
whole_after p es whole =
    record {
      begins = λ c i. let b = whole.begins c i in (b.0, settles p c b.0 (start_sorted p c i) b.1, b.2);
      closed = λ n c d l i j k.
          let b = whole.closed n c d l i j k in
          (b.0, settles p d b.0 (sorted_after p c d l (whole.in_order n c i) k) b.1, b.2);
    }

-- where a list is whole after such transitions and none of it is stuck, or unfinished, no run whatever leads to such a configuration
pub never_stuck_after_settling : (p : ProgramTree) (es : List (ℕ × Configuration)) → IsNameless p → IsClosedAfterSettling p es
    → ((n : ℕ) (c : Configuration) → IsIn n c es → ¬ (IsStuck p c)) → (d : Configuration) → IsReached p d → ¬ (IsStuck p d)
never_stuck_after_settling p es less whole none d reached = never_stuck_after p es less (whole_after p es whole) none d reached

pub never_unfinished_after_settling : (p : ProgramTree) (es : List (ℕ × Configuration)) → IsNameless p → IsClosedAfterSettling p es
    → ((n : ℕ) (c : Configuration) → IsIn n c es → ¬ (IsUnfinished p c)) → (d : Configuration) → IsReached p d → ¬ (IsUnfinished p d)
never_unfinished_after_settling p es less whole none d reached = never_unfinished_after p es less (whole_after p es whole) none d reached
