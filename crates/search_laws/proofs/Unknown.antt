-- An object that does not know a name does not use it: if other names change neither an object nor its own name, they
-- do not change its action.
use Rattle.std.proofs.Common.{◌≡◌, sym, ap, ◌∙◌, ℕ, List, map}
use Rattle.run_types.specs.declared.types.Value.{Value}
use Rattle.pool_syntax.specs.Terms.{ProgramTree}
use Rattle.pool_relation.specs.Action as A
use Rattle.pool_relation.specs.Action.{Object, Action, action}
use Rattle.search_laws.specs.Renamed.{Renaming, renamed_value, renamed_object, IsNameless}
use Rattle.search_laws.proofs.RenamedAction.{renamed_action, action_renamed}
use Rattle.search_laws.proofs.RenamedTransition.{same_names}

module _ (f : Renaming) (p : ProgramTree) (less : IsNameless p) (o : ℕ) (x : Object) (own : f.to o ≡ o) (same : renamed_object f.to x ≡ x) where
  pub acts_the_same : renamed_action f.to (action p o x) ≡ action p o x
  acts_the_same =
      sym (action_renamed f.to (same_names f) p o x) ∙ ap (λ q. action q (f.to o) (renamed_object f.to x)) (less f.to)
      ∙ ap (λ n. action p n (renamed_object f.to x)) own ∙ ap (action p o) same

  of : (a : Action) → action p o x ≡ a → renamed_action f.to a ≡ a
  of a i = ap (renamed_action f.to) (sym i) ∙ acts_the_same ∙ i

  pub calls_the_same : (b m : ℕ) (args : List Value) → action p o x ≡ A.Send b m args → (f.to b ≡ b) × (map (renamed_value f.to) args ≡ args)
  calls_the_same b m args i = let e : A.Send (f.to b) m (map (renamed_value f.to) args) ≡ A.Send b m args = of (A.Send b m args) i in (cc, cc)

  pub posts_the_same : (b m : ℕ) (args : List Value) → action p o x ≡ A.Async b m args → (f.to b ≡ b) × (map (renamed_value f.to) args ≡ args)
  posts_the_same b m args i = let e : A.Async (f.to b) m (map (renamed_value f.to) args) ≡ A.Async b m args = of (A.Async b m args) i in (cc, cc)

  pub returns_the_same : (k : ℕ) (v : Value) → action p o x ≡ A.Return k v → (f.to k ≡ k) × (renamed_value f.to v ≡ v)
  returns_the_same k v i = let e : A.Return (f.to k) (renamed_value f.to v) ≡ A.Return k v = of (A.Return k v) i in (cc, cc)
