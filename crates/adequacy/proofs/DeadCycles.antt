-- The objects of a cycle of calls are caught, so they are dead.
use Rattle.std.proofs.Common.{◌≡◌, ◌⊎◌, inl, inr, refl, sym, ap, ◌∙◌, subst, ℕ, List, [], ◌∷◌, Option, Some, None, Bool, true, false, ◌||◌, ◌==◌, cond}
use Rattle.run_types.specs.declared.types.Error.{Error}
use Rattle.run_types.specs.PathFacts.{In}
use Rattle.run_types.proofs.Laws.{equal, equals, given_by}
use Rattle.pool_syntax.specs.Terms.{ProgramTree}
use Rattle.pool_relation.specs.Action as A
use Rattle.pool_relation.specs.Action.{Object, Action, action}
use Rattle.mesh_semantics.specs.Config.{Config, object_of}
use Rattle.mesh_semantics.specs.Delay.{Delay, Holding, Posted, Due, held, arrived_at}
use Rattle.mesh_semantics.specs.Act.{can_step}
use Rattle.mesh_semantics.specs.Standing as Z
use Rattle.mesh_semantics.specs.Standing.{Standing, standing_of, standing}
use Rattle.mesh_semantics.specs.Cycles.{called_in, called_by, cycles, Closes, IsCycle, Contained}
use Rattle.mesh_semantics.proofs.Laws.{is_cycle}
use Rattle.mesh_of_terms.specs.Terms.{kind_of, terms, plain}
use Rattle.search_laws.specs.Caught.{Calls, stance_unless, stance_in, stance, WaitsFor, IsCaught}
use Rattle.search_laws.specs.Dead.{HasDead}
use Rattle.search_laws.proofs.Laws.{caught_is_dead}

not_called : (t : Bool) (b : ℕ) {X : Type 0} → called_in (cond t Z.Ready Z.Awaits) ≡ Some b → X
not_called true b h = absurd (cc)
not_called false b h = absurd (cc)

standing_calls : (d : Delay) (o : ℕ) (f : Option Error) (t : Option Holding) (a : Action) (b : ℕ) → called_in (standing_of d o f t (kind_of a)) ≡ Some b → stance_unless f a ≡ Calls b
standing_calls d o (Some e) t a b h = absurd (cc)
standing_calls d o None (Some (Due v)) a b h = absurd (cc)
standing_calls d o None (Some Posted) (A.Send r m args) b h = let it : Some r ≡ Some b = h in cc
standing_calls d o None (Some Posted) (A.Waits r m) b h = let it : Some r ≡ Some b = h in cc
standing_calls d o None (Some Posted) A.Finished b h = absurd (cc)
standing_calls d o None (Some Posted) (A.Local term vars) b h = absurd (cc)
standing_calls d o None (Some Posted) (A.Fault e) b h = absurd (cc)
standing_calls d o None (Some Posted) (A.New c) b h = absurd (cc)
standing_calls d o None (Some Posted) (A.Async r m args) b h = absurd (cc)
standing_calls d o None (Some Posted) (A.Write i) b h = absurd (cc)
standing_calls d o None (Some Posted) (A.Answer names) b h = absurd (cc)
standing_calls d o None (Some Posted) (A.Select cs) b h = absurd (cc)
standing_calls d o None (Some Posted) (A.Return k v) b h = absurd (cc)
standing_calls d o None (Some Posted) A.Stuck b h = absurd (cc)
standing_calls d o None None (A.Waits r m) b h = let it : Some r ≡ Some b = h in cc
standing_calls d o None None A.Finished b h = absurd (cc)
standing_calls d o None None (A.Send r m args) b h = not_called (can_step (arrived_at d o) (kind_of (A.Send r m args))) b h
standing_calls d o None None (A.Local term vars) b h = not_called (can_step (arrived_at d o) (kind_of (A.Local term vars))) b h
standing_calls d o None None (A.Fault e) b h = not_called (can_step (arrived_at d o) (kind_of (A.Fault e))) b h
standing_calls d o None None (A.New c) b h = not_called (can_step (arrived_at d o) (kind_of (A.New c))) b h
standing_calls d o None None (A.Async r m args) b h = not_called (can_step (arrived_at d o) (kind_of (A.Async r m args))) b h
standing_calls d o None None (A.Write i) b h = not_called (can_step (arrived_at d o) (kind_of (A.Write i))) b h
standing_calls d o None None (A.Answer names) b h = not_called (can_step (arrived_at d o) (kind_of (A.Answer names))) b h
standing_calls d o None None (A.Select cs) b h = not_called (can_step (arrived_at d o) (kind_of (A.Select cs))) b h
standing_calls d o None None (A.Return k v) b h = not_called (can_step (arrived_at d o) (kind_of (A.Return k v))) b h
standing_calls d o None None A.Stuck b h = not_called (can_step (arrived_at d o) (kind_of A.Stuck)) b h

-- each object of a cycle calls an object of the cycle
module _ (calls : ℕ → Option ℕ) (first : ℕ) where
  next_of : (o : ℕ) (ns : List ℕ) → Closes calls first (o ∷ ns) → (q : ℕ) → In q (o ∷ ns) → (b : ℕ) × (calls q ≡ Some b) × ((b ≡ first) ⊎ In b (o ∷ ns))
  next_of o [] z q (inl e) = (first, subst (λ (n : ℕ). calls n ≡ Some first) e z, inl refl)
  next_of o [] z q (inr i) = absurd i
  next_of o (b ∷ ns) z q (inl e) = (b, subst (λ (n : ℕ). calls n ≡ Some b) e z.0, inr (inr (inl refl)))
  next_of o (b ∷ ns) z q (inr i) = let r = next_of b ns z.2 q i in (r.0, r.1, on r.0 r.2)
    where
      on : (k : ℕ) → (k ≡ first) ⊎ In k (b ∷ ns) → (k ≡ first) ⊎ In k (o ∷ b ∷ ns)
      on k (inl e) = inl e
      on k (inr i) = inr (inr i)

abbrev among : List ℕ → ℕ → Bool
among [] q = false
among (x ∷ xs) q = (x == q) || among xs q

is_in : (xs : List ℕ) (q : ℕ) → among xs q ≡ true → In q xs
is_in [] q h = absurd (cc)
is_in (x ∷ xs) q h = by (x == q) refl (is_in xs q)
  where
    by : (b : Bool) → (x == q) ≡ b → (among xs q ≡ true → In q xs) → In q (x ∷ xs)
    by true i rest = inl (equal x q i)
    by false i rest = inr (rest (sym (ap (λ b. b || among xs q) i) ∙ h))

is_among : (xs : List ℕ) (q : ℕ) → In q xs → among xs q ≡ true
is_among [] q i = absurd i
is_among (x ∷ xs) q (inl e) = ap (λ b. b || among xs q) (ap (λ n. n == q) e ∙ equals q)
is_among (x ∷ xs) q (inr i) = either (x == q) (among xs q) (is_among xs q i)
  where
    either : (a b : Bool) → b ≡ true → (a || b) ≡ true
    either true b i = refl
    either false b i = i

module _ (p : ProgramTree) (c : Config Object) (d : Delay) where
  calls_it : (o b : ℕ) → called_by (terms p) c d o ≡ Some b → stance p (plain c) o ≡ Calls b
  calls_it o b h =
      let x = given_by (object_of c o) (λ x. called_in (standing (terms p) d o x)) b h in
      ap (stance_in p o) x.1 ∙ standing_calls d o x.0.fault (held d o) (action p o x.0) b x.2

  pub cycle_is_caught : (ns : List ℕ) → IsCycle (called_by (terms p) c d) ns → (o : ℕ) → In o ns → IsCaught p (plain c) o
  cycle_is_caught [] z o i = absurd i
  cycle_is_caught (f ∷ ns) z o i = record { these = among (f ∷ ns); one = is_among (f ∷ ns) o i; each = λ q h. by q (next_of (called_by (terms p) c d) f f ns z.1 q (is_in (f ∷ ns) q h)) }
    where
      by : (q : ℕ) → (b : ℕ) × (called_by (terms p) c d q ≡ Some b) × ((b ≡ f) ⊎ In b (f ∷ ns)) → WaitsFor p (plain c) (among (f ∷ ns)) q
      by q r = record { receiver = r.0; calls = calls_it q r.0 r.1; held = inl (is_among (f ∷ ns) r.0 (on r.0 r.2)) }
        where
          on : (k : ℕ) → (k ≡ f) ⊎ In k (f ∷ ns) → In k (f ∷ ns)
          on k (inl e) = inl (sym e)
          on k (inr i) = i

  -- without a dead object there is no cycle of calls
  pub no_cycle : ¬ (HasDead p (plain c)) → cycles (terms p) c d ≡ []
  no_cycle none = by (cycles (terms p) c d) refl
    where
      first_dead : (ns : List ℕ) → IsCycle (called_by (terms p) c d) ns → HasDead p (plain c)
      first_dead [] z = absurd z
      first_dead (f ∷ ns) z = record { name = f; dead = caught_is_dead p (plain c) f (cycle_is_caught (f ∷ ns) z f (inl refl)) }

      by : (all : List (List ℕ)) → cycles (terms p) c d ≡ all → cycles (terms p) c d ≡ []
      by [] e = e
      by (ns ∷ rest) e = absurd (none (first_dead ns (is_cycle (terms p) c d ns (subst (Contained ns) (sym e) (inl refl)))))
