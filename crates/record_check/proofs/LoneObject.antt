-- A configuration with one object: a possible label names this
-- object, and without a transition under its own name it has none.
use Rattle.std.proofs.Common.{◌≡◌, ◌≢◌, ◌⊎◌, inl, inr, refl, sym, ap, subst, ◌∙◌, IsTrue, ℕ, zero, suc, List, [], ◌∷◌, Option, Some, None, Bool, true, false, slice_get}
use Rattle.std.specs.List.{list_any}
use Rattle.run_types.specs.declared.types.Value.{Value}
use Rattle.run_types.specs.declared.types.Label.{Label}
use Rattle.run_types.specs.declared.types.Label.TheVariants as L
use Rattle.pool_syntax.specs.Terms.{ProgramTree}
use Rattle.pool_syntax.specs.Typing.{faults}
use Rattle.pool_relation.specs.Reducible as R
use Rattle.pool_relation.specs.Reducible.{Choice, Found, Evaluated, At, statements_redex}
use Rattle.pool_relation.specs.Action as A
use Rattle.pool_relation.specs.Action.{Object, Action, action, redex_action}
use Rattle.pool_relation.specs.Alone.{alone}
use Rattle.pool_relation.specs.Configuration.{Configuration, object_of}
use Rattle.pool_relation.specs.Progress.{agent, HasOwnTransition}
use Rattle.pool_relation.specs.Communication.{IsCommunication}
use Rattle.pool_relation.specs.Ready.{is_ready, is_open_plain}
use Rattle.pool_relation.specs.Transition.{transition, calls, offer, plain_choice}
use Rattle.pool_relation.specs.Typed.{Typed}
use Rattle.pool_syntax.specs.Written.{is_written}
use Rattle.run_types.specs.Partial.{◌>>=◌, ◌>>◌, require}
use Rattle.run_types.proofs.Laws.{find_put_same}
use Rattle.pool_relation.proofs.Laws.{Runs, not_there, there, runs, no_transition, goes_on_or_meets}

-- the object of a possible label is the one that is there
pub its_agent : (p : ProgramTree) (root : ℕ) (x : Object) (lab : Label) (d : Configuration) → transition p (alone root x) lab ≡ Some d → agent lab ≡ root
its_agent p root x (L.Local o) d h = elim (runs root o x) as (λ r. o ≡ root) [ not_there e ↦ absurd (let q = rw e at h in cc) | there s f e ↦ s ]
its_agent p root x (L.New o n k) d h = elim (runs root o x) as (λ r. o ≡ root) [ not_there e ↦ absurd (let q = rw e at h in cc) | there s f e ↦ s ]
its_agent p root x (L.Answer b o m args) d h = elim (runs root o x) as (λ r. b ≡ root) [
  | not_there e ↦ absurd (let q = rw e at h in cc)
  | there s f e ↦ elim (runs root b x) as (λ r. b ≡ root) [ not_there g ↦ absurd (let q = rw (e, g) at h in cc) | there t k g ↦ t ]
]
its_agent p root x (L.Return b o v) d h = elim (runs root b x) as (λ r. b ≡ root) [ not_there e ↦ absurd (let q = rw e at h in cc) | there s f e ↦ s ]
its_agent p root x (L.Send o b m args) d h = elim (runs root o x) as (λ r. o ≡ root) [ not_there e ↦ absurd (let q = rw e at h in cc) | there s f e ↦ s ]
its_agent p root x (L.Take b s m args) d h = elim (runs root b x) as (λ r. b ≡ root) [ not_there e ↦ absurd (let q = rw e at h in cc) | there t f e ↦ t ]
its_agent p root x (L.Write o item) d h = elim (runs root o x) as (λ r. o ≡ root) [ not_there e ↦ absurd (let q = rw e at h in cc) | there s f e ↦ s ]
its_agent p root x (L.Pick o i) d h = elim (runs root o x) as (λ r. o ≡ root) [ not_there e ↦ absurd (let q = rw e at h in cc) | there s f e ↦ s ]
its_agent p root x (L.Fault o e) d h = elim (runs root o x) as (λ r. o ≡ root) [ not_there e ↦ absurd (let q = rw e at h in cc) | there s f e ↦ s ]

-- an action that is a local transition
abbrev local : Action → Bool
local (A.Local term vars) = true
local _ = false

ready_local : (a : Action) → is_ready a ≡ false → local a ≡ true → ⊥
ready_local (A.Local term vars) i j = let z : true ≡ false = i in cc
ready_local _ i j = cc

-- what an object does next does not depend on its name, but where it is a local transition
pub same_action : (p : ProgramTree) (o q : ℕ) (x : Object) → (action p o x ≡ action p q x) ⊎ (local (action p o x) ≡ true)
same_action p o q x = by (statements_redex [] x.term) refl
  where
    at : (r : R.Reducible) (u : List (ℕ × Value)) → (redex_action p o x u r ≡ redex_action p q x u r) ⊎ (local (redex_action p o x u r) ≡ true)
    at R.OwnName u = inr refl
    at (R.Read n) u = inl refl
    at (R.Make c) u = inl refl
    at (R.Unary op v) u = inl refl
    at (R.Binary op v w) u = inl refl
    at (R.Invoke m args) u = inl refl
    at (R.SynchronousSend v m args) u = inl refl
    at (R.Leave v) u = inl refl
    at (R.Waiting b m) u = inl refl
    at (R.Set n v) u = inl refl
    at (R.Print item) u = inl refl
    at (R.Drop v) u = inl refl
    at (R.Post v m args) u = inl refl
    at (R.Branch v these those) u = inl refl
    at (R.Loop e ss) u = inl refl
    at (R.Accept names) u = inl refl
    at (R.Choose cs) u = inl refl
    at (R.Finish k v work) u = inl refl

    by : (f : Found (Unit {0})) → statements_redex [] x.term ≡ f → (action p o x ≡ action p q x) ⊎ (local (action p o x) ≡ true)
    by (Evaluated done) e = inl (rw e refl)
    by (At r u) e = on (at r u)
      where
        on : (redex_action p o x u r ≡ redex_action p q x u r) ⊎ (local (redex_action p o x u r) ≡ true) → (action p o x ≡ action p q x) ⊎ (local (action p o x) ≡ true)
        on (inl s) = inl (rw e s)
        on (inr s) = inr (rw e s)

-- an object at a call alone has no transition
require_none : {A B : Type 0} (b : Bool) (o : Option A) (f : A → Option B) → o ≡ None → (require b >> (o >>= f)) ≡ None
require_none true o f e = rw e refl
require_none false o f e = refl

lone_send : (p : ProgramTree) (root : ℕ) (x : Object) (k n : ℕ) (vs : List Value) → action p root x ≡ A.Send k n vs → (lab : Label) → transition p (alone root x) lab ≡ None
lone_send p root x k n vs a (L.Local o) = elim (runs root o x) as (λ r. transition p (alone root x) (L.Local o) ≡ None) [ not_there e ↦ rw e refl | there s f e ↦ rw (e, s, a) refl ]
lone_send p root x k n vs a (L.New o m c) = elim (runs root o x) as (λ r. transition p (alone root x) (L.New o m c) ≡ None) [ not_there e ↦ rw e refl | there s f e ↦ rw (e, s, a) refl ]
lone_send p root x k n vs a (L.Answer b o m args) = elim (runs root o x) as (λ r. transition p (alone root x) (L.Answer b o m args) ≡ None) [
  | not_there e ↦ rw e refl
  | there s f e ↦ elim (runs root b x) as (λ r. transition p (alone root x) (L.Answer b o m args) ≡ None) [
    | not_there g ↦ rw (e, g) refl
    | there t h g ↦ rw (e, g) (require_none (calls (action p o x) b m.0 args) (offer (action p b x) m.0) _ (rw (t, a) refl))
  ]
]
lone_send p root x k n vs a (L.Return b o v) = elim (runs root b x) as (λ r. transition p (alone root x) (L.Return b o v) ≡ None) [
  | not_there e ↦ rw e refl
  | there s f e ↦ elim (runs root o x) as (λ r. transition p (alone root x) (L.Return b o v) ≡ None) [ not_there g ↦ rw (e, g) refl | there t h g ↦ rw (e, g, s, a) refl ]
]
lone_send p root x k n vs a (L.Send o b m args) = elim (runs root o x) as (λ r. transition p (alone root x) (L.Send o b m args) ≡ None) [ not_there e ↦ rw e refl | there s f e ↦ rw (e, s, a) refl ]
lone_send p root x k n vs a (L.Take b s m args) = elim (runs root b x) as (λ r. transition p (alone root x) (L.Take b s m args) ≡ None) [ not_there e ↦ rw e refl | there t f e ↦ rw (e, t, a) refl ]
lone_send p root x k n vs a (L.Write o item) = elim (runs root o x) as (λ r. transition p (alone root x) (L.Write o item) ≡ None) [ not_there e ↦ rw e refl | there s f e ↦ rw (e, s, a) refl ]
lone_send p root x k n vs a (L.Pick o i) = elim (runs root o x) as (λ r. transition p (alone root x) (L.Pick o i) ≡ None) [ not_there e ↦ rw e refl | there s f e ↦ rw (e, s, a) refl ]
lone_send p root x k n vs a (L.Fault o d) = elim (runs root o x) as (λ r. transition p (alone root x) (L.Fault o d) ≡ None) [ not_there e ↦ rw e refl | there s f e ↦ rw (e, s, a) refl ]

-- an open plain alternative has a place
open_place : (cs : List Choice) → list_any is_open_plain cs ≡ true → (i : ℕ) × (w : _) × (plain_choice (slice_get cs i) ≡ Some w)
open_place [] h = absurd (cc)
open_place (c ∷ cs) h = by (is_open_plain c) refl (open_place cs)
  where
    by : (b : Bool) → is_open_plain c ≡ b → (list_any is_open_plain cs ≡ true → (i : ℕ) × (w : _) × (plain_choice (slice_get cs i) ≡ Some w)) → (i : ℕ) × (w : _) × (plain_choice (slice_get (c ∷ cs) i) ≡ Some w)
    by true e again = (zero, c.work, rw e refl)
    by false e again = let r = again (rw e at h) in (suc r.0, r.1, r.2)

module _ (p : ProgramTree) (none : faults p ≡ []) (written : IsTrue (is_written p)) (n q : ℕ) (x : Object) (sane : x.fault ≡ None) (typed : Typed p (alone n x))
    (rests : (lab : Label) → transition p (alone n x) lab ≡ None) where
  found : object_of (alone n x) n ≡ Some x
  found = find_put_same n x []

  -- the same at another name
  still : (a : Action) → action p n x ≡ a → is_ready a ≡ false → (lab : Label) → transition p (alone q x) lab ≡ None
  still a e h = by (same_action p n q x)
    where
      by : (action p n x ≡ action p q x) ⊎ (local (action p n x) ≡ true) → (lab : Label) → transition p (alone q x) lab ≡ None
      by (inl s) = no_transition p q x (λ f. ap is_ready (sym s ∙ e) ∙ h)
      by (inr s) = absurd (ready_local a h (sym (ap local e) ∙ s))

  picks : (cs : List Choice) → action p n x ≡ A.Select cs → list_any is_open_plain cs ≡ true → ⊥
  picks cs e h =
      let r = open_place cs h in
      let go : transition p (alone n x) (L.Pick n (suc r.0)) ≢ None = by (runs n n x) r.0 r.1 r.2 in go (rests (L.Pick n (suc r.0)))
    where
      by : Runs n n x → (i : ℕ) (w : _) → plain_choice (slice_get cs i) ≡ Some w → transition p (alone n x) (L.Pick n (suc i)) ≢ None
      by (not_there g) i w k j = let z : None ≡ Some x = sym g ∙ rw (found, sane) refl in cc
      by (there s f g) i w k j = let z = rw (g, e, k) at j in cc

  pub lone_rests : (lab : Label) → transition p (alone q x) lab ≡ None
  lone_rests = by (action p n x) refl
    where
      meets : (a : Action) → action p n x ≡ a → a ≢ A.Finished → IsCommunication a
      meets a e f = on (goes_on_or_meets p none written (alone n x) n x typed found sane (λ g. f (sym e ∙ g)))
        where
          on : HasOwnTransition p (alone n x) n ⊎ IsCommunication (action p n x) → IsCommunication a
          on (inl t) = absurd (let z : None ≡ Some t.2 = sym (rests t.0) ∙ t.3 in cc)
          on (inr c) = subst IsCommunication e c

      by : (a : Action) → action p n x ≡ a → (lab : Label) → transition p (alone q x) lab ≡ None
      by A.Finished e = still A.Finished e refl
      by (A.Waits b m) e = still (A.Waits b m) e refl
      by (A.Answer names) e = still (A.Answer names) e refl
      by A.Stuck e = still A.Stuck e refl
      by (A.Send b m args) e = on (same_action p n q x)
        where
          on : (action p n x ≡ action p q x) ⊎ (local (action p n x) ≡ true) → (lab : Label) → transition p (alone q x) lab ≡ None
          on (inl s) = lone_send p q x b m args (sym s ∙ e)
          on (inr s) = absurd (let z : false ≡ true = sym (ap local e) ∙ s in cc)
      by (A.Select cs) e = on (list_any is_open_plain cs) refl
        where
          on : (b : Bool) → list_any is_open_plain cs ≡ b → (lab : Label) → transition p (alone q x) lab ≡ None
          on true i = absurd (picks cs e i)
          on false i = still (A.Select cs) e i
      by (A.Local term vars) e = absurd (meets (A.Local term vars) e (λ f. cc))
      by (A.Fault f) e = absurd (meets (A.Fault f) e (λ g. cc))
      by (A.New c) e = absurd (meets (A.New c) e (λ g. cc))
      by (A.Async b m args) e = absurd (meets (A.Async b m args) e (λ g. cc))
      by (A.Write item) e = absurd (meets (A.Write item) e (λ g. cc))
      by (A.Return k v) e = absurd (meets (A.Return k v) e (λ g. cc))
