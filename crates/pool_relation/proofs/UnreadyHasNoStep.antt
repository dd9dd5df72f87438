-- A lone object that is not ready has no transition.
use Rattle.std.proofs.Common.{◌≡◌, refl, ℕ, zero, suc, List, [], ◌∷◌, Option, Some, None, Bool, true, false, slice_get}
use Rattle.std.specs.Ordering.{nat_cmp}
use Rattle.std.specs.declared.cmp.Ordering.{Ordering}
use Rattle.std.specs.declared.cmp.Ordering.TheVariants.{Less, Equal, Greater}
use Rattle.std.specs.FinMap.{nat_cmp-IsAntisymmetric}
use Rattle.run_types.specs.declared.types.Value.{Value}
use Rattle.run_types.specs.declared.types.Error.{Error}
use Rattle.run_types.specs.declared.types.Item.{Item}
use Rattle.run_types.specs.declared.types.Label.{Label}
use Rattle.run_types.specs.declared.types.Label.TheVariants as L
use Rattle.pool_syntax.specs.Terms.{ProgramTree}
use Rattle.pool_relation.specs.Reducible.{Choice}
use Rattle.pool_relation.specs.Action as A
use Rattle.pool_relation.specs.Action.{Object, Action, action}
use Rattle.run_types.specs.Partial.{◌>>=◌}
use Rattle.pool_relation.specs.Transition.{transition, offer, running, local_step, makes, calls, posts, returns, writes, fails, picked, plain_choice}
use Rattle.pool_relation.specs.Ready.{is_ready, is_open_plain}
use Rattle.pool_relation.specs.Alone.{alone}

-- what an object that is not ready does not do

no_local : (x : Object) (a : Action) → is_ready a ≡ false → local_step x a ≡ None
no_local x (A.Local term vars) h = absurd (cc)
no_local x _ h = refl

no_new : (a : Action) (k : ℕ) → is_ready a ≡ false → makes a k ≡ false
no_new (A.New c) k h = absurd (cc)
no_new _ k h = refl

no_call : (a : Action) (b m : ℕ) (args : List Value) → is_ready a ≡ false → calls a b m args ≡ false
no_call (A.Send r n values) b m args h = absurd (cc)
no_call _ b m args h = refl

no_post : (a : Action) (b m : ℕ) (args : List Value) → is_ready a ≡ false → posts a b m args ≡ false
no_post (A.Async r n values) b m args h = absurd (cc)
no_post _ b m args h = refl

no_return : (a : Action) (o : ℕ) (v : Value) → is_ready a ≡ false → returns a o v ≡ false
no_return (A.Return k w) o v h = absurd (cc)
no_return _ o v h = refl

no_write : (a : Action) (item : Item) → is_ready a ≡ false → writes a item ≡ false
no_write (A.Write i) item h = absurd (cc)
no_write _ item h = refl

no_fault : (a : Action) (e : Error) → is_ready a ≡ false → fails a e ≡ false
no_fault (A.Fault d) e h = absurd (cc)
no_fault _ e h = refl

no_plain_choice : (cs : List Choice) (i : ℕ) → is_ready (A.Select cs) ≡ false → plain_choice (slice_get cs i) ≡ None
no_plain_choice [] i h = refl
no_plain_choice (c ∷ cs) zero h = by (is_open_plain c) refl
  where
    by : (b : Bool) → is_open_plain c ≡ b → plain_choice (Some c) ≡ None
    by true e = absurd (let g : true ≡ false = rw e at h in cc)
    by false e = rw e refl
no_plain_choice (c ∷ cs) (suc i) h = no_plain_choice cs i (by (is_open_plain c) refl)
  where
    by : (b : Bool) → is_open_plain c ≡ b → is_ready (A.Select cs) ≡ false
    by true e = absurd (let g : true ≡ false = rw e at h in cc)
    by false e = rw e at h

no_pick : (a : Action) (i : ℕ) → is_ready a ≡ false → picked a i ≡ None
no_pick (A.Select cs) zero h = refl
no_pick (A.Select cs) (suc i) h = no_plain_choice cs i h
no_pick _ i h = refl

-- the one object is there under its name alone, and only where it has no fault
pub data Runs (root o : ℕ) (x : Object) : Type 0 where
  not_there : running (alone root x) o ≡ None → Runs root o x
  there : o ≡ root → x.fault ≡ None → running (alone root x) o ≡ Some x → Runs root o x

pub runs : (root o : ℕ) (x : Object) → Runs root o x
runs root o x = by (nat_cmp o root) refl x.fault refl
  where
    by : (r : Ordering) → nat_cmp o root ≡ r → (f : Option Error) → x.fault ≡ f → Runs root o x
    by Less e f g = not_there (rw e refl)
    by Greater e f g = not_there (rw e refl)
    by Equal e None g = there (nat_cmp-IsAntisymmetric o root e) g (rw (e, g) refl)
    by Equal e (Some d) g = not_there (rw (e, g) refl)

nothing : {A B : Type 0} (o : Option A) → ◌>>=◌ {A = A} {B = B} o (λ v. None) ≡ None
nothing None = refl
nothing (Some a) = refl

module _ (p : ProgramTree) (root : ℕ) (x : Object) (h : x.fault ≡ None → is_ready (action p root x) ≡ false) where
  -- for each label
  pub no_transition : (l : Label) → transition p (alone root x) l ≡ None
  no_transition (L.Local o) = elim (runs root o x) [ not_there e ↦ rw e refl | there s f e ↦ rw (e, s, no_local x (action p root x) (h f)) refl ]
  no_transition (L.New o n k) = elim (runs root o x) [ not_there e ↦ rw e refl | there s f e ↦ rw (e, s, no_new (action p root x) k.0 (h f)) refl ]
  no_transition (L.Answer b o m args) = elim (runs root o x) [
    | not_there e ↦ rw e refl
    | there s f e ↦ elim (runs root b x) [ not_there g ↦ rw (e, g) refl | there t k g ↦ rw (e, g, s, no_call (action p root x) b m.0 args (h f)) refl ]
  ]
  no_transition (L.Return b o v) = elim (runs root b x) [
    | not_there e ↦ rw e refl
    | there s f e ↦ elim (runs root o x) [ not_there g ↦ rw (e, g) refl | there t k g ↦ rw (e, g, s, no_return (action p root x) o v (h f)) refl ]
  ]
  no_transition (L.Send o b m args) = elim (runs root o x) [ not_there e ↦ rw e refl | there s f e ↦ rw (e, s, no_post (action p root x) b m.0 args (h f)) refl ]
  no_transition (L.Take b s m args) = elim (runs root b x) [ not_there e ↦ rw e refl | there t f e ↦ rw e (nothing (offer (action p b x) m.0)) ]
  no_transition (L.Write o item) = elim (runs root o x) [ not_there e ↦ rw e refl | there s f e ↦ rw (e, s, no_write (action p root x) item (h f)) refl ]
  no_transition (L.Pick o i) = elim (runs root o x) [ not_there e ↦ rw e refl | there s f e ↦ rw (e, s, no_pick (action p root x) i (h f)) refl ]
  no_transition (L.Fault o d) = elim (runs root o x) [ not_there e ↦ rw e refl | there s f e ↦ rw (e, s, no_fault (action p root x) d (h f)) refl ]
