-- What a stepper has done, and which labels show it.
use Rattle.std.specs.Prelude.{◌≡◌, ℕ, List, [], ◌∷◌, ◌++◌, Option, Some, None, Bool, true, false}
use Rattle.run_types.specs.declared.types.Label.{Label}
use Rattle.pool_relation.specs.Transition.{transition, run}
use Rattle.pool_semantics.specs.PlainOf.{configuration_of, program_tree, is_spent}
use Rattle.pool_semantics.specs.declared.plain.Plain.{Plain}
use Rattle.reachability.specs.Search.{in_order}
use Rattle.search_laws.specs.ClosedBeside.{after_all}
use Rattle.search_laws.specs.Tried.{Course, Follows}
use Rattle.visited_set.specs.Courses.{all_followed}

-- the stepper has memory left and is where it was
pub record IsStill (before after : Plain) : Type 0 where
  pub program : program_tree after ≡ program_tree before
  pub fresh : is_spent after ≡ false
  pub same : configuration_of after ≡ configuration_of before

-- the stepper has memory left and ran by these labels
pub record HasRun (before after : Plain) (ls : List Label) : Type 0 where
  pub program : program_tree after ≡ program_tree before
  pub fresh : is_spent after ≡ false
  pub leads : run (program_tree before) (configuration_of before) ls ≡ Some (configuration_of after)

-- the label was impossible, or made
abbrev pub HasMade : Plain → Plain → Label → Bool → Type 0
HasMade before after l false = IsStill before after × (transition (program_tree before) (configuration_of before) l ≡ None)
HasMade before after l true = HasRun before after (l ∷ [])

-- one label that is followed was made, or none
abbrev pub HasStepped : Course → Plain → Plain → Option Label → Type 0
HasStepped k before after None = IsStill before after
HasStepped k before after (Some l) = HasRun before after (l ∷ []) × (k.follows l ≡ true)

-- labels that are followed were made
pub record HasFollowed (k : Course) (before after : Plain) : Type 0 where
  pub program : program_tree after ≡ program_tree before
  pub fresh : is_spent after ≡ false
  pub follows : Follows (program_tree before) k (configuration_of before) (configuration_of after)

-- labels were made and appended to those shown before
pub record HasShown (before after : Plain) (old new : List Label) : Type 0 where
  pub added : List Label
  pub is : new ≡ old ++ added
  pub ran : HasRun before after added

-- the same with labels that are followed
pub record HasSettled (k : Course) (before after : Plain) (old new : List Label) : Type 0 where
  pub added : List Label
  pub is : new ≡ old ++ added
  pub ran : HasRun before after added
  pub followed : all_followed k added ≡ true

-- the stepper ran by these labels, which give new objects the names 1, 2, .. in order; n is the next one
pub record HasRetraced (before after : Plain) (ls : List Label) (n : ℕ) : Type 0 where
  pub ran : HasRun before after ls
  pub orders : in_order 1 ls ≡ true
  pub next : after_all 1 ls ≡ n
