-- Stubborn sets: sets of labels that are enough to try in a configuration, although other labels are possible.
use Rattle.std.specs.Prelude.{◌≡◌, ℕ, List, [], ◌∷◌, Some, Bool, true, false, not, ◌&&◌}
use Rattle.run_types.specs.declared.types.Label.{Label}
use Rattle.run_types.specs.declared.types.Label.TheVariants as L
use Rattle.pool_syntax.specs.Terms.{ProgramTree}
use Rattle.pool_relation.specs.Configuration.{Configuration}
use Rattle.pool_relation.specs.Transition.{transition, run}
use Rattle.reachability.specs.Search.{in_order}

-- none of these labels is in the set
abbrev pub are_others : (Label → Bool) → List Label → Bool
are_others chosen [] = true
are_others chosen (l ∷ ls) = not (chosen l) && are_others chosen ls

-- the label makes an object
abbrev pub makes_one : Label → Bool
makes_one (L.New o n k) = true
makes_one _ = false

-- The set is stubborn in c, where n is the next name. No label of it makes an object. One label of it stays possible,
-- whatever other labels come first. If a label of it is possible after other labels, it is also possible before them,
-- and they lead to the same configuration after it.
pub record IsStubborn (p : ProgramTree) (n : ℕ) (c : Configuration) (chosen : Label → Bool) : Type 0 where
  pub makes_none : (l : Label) → chosen l ≡ true → makes_one l ≡ false
  pub one : Label
  pub is_chosen : chosen one ≡ true
  pub stays : (ls : List Label) (d : Configuration) → are_others chosen ls ≡ true → in_order n ls ≡ true → run p c ls ≡ Some d → (x : Configuration) × (transition p d one ≡ Some x)
  pub first : (ls : List Label) (d x : Configuration) (l : Label) → are_others chosen ls ≡ true → in_order n ls ≡ true → run p c ls ≡ Some d → chosen l ≡ true → transition p d l ≡ Some x
      → (e : Configuration) × (transition p c l ≡ Some e) × (run p e ls ≡ Some x)
