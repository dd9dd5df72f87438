-- The condition on waits in a language: an object begins to wait only if its call is answered. W is the property of
-- configurations that is kept.
use Rattle.std.specs.Prelude.{◌≡◌, ◌≢◌, ◌⊎◌, ℕ, Some}
use Rattle.run_types.specs.declared.types.Label.{Label}
use Rattle.run_types.specs.declared.types.Label.TheVariants as L
use Rattle.mesh_semantics.specs.Kind as K
use Rattle.mesh_semantics.specs.Language.{Language}
use Rattle.mesh_semantics.specs.Config.{Config, object_of}
use Rattle.mesh_semantics.specs.Moves.{move}

-- the label is the answer of b to a call of o
abbrev pub IsAnswer : Label → ℕ → ℕ → Type 0
IsAnswer (L.Answer p k m args) b o = (p ≡ b) × (k ≡ o)
IsAnswer _ b o = ⊥

pub record Waits {S : Type 0} (g : Language S) (W : Config S → Type 0) : Type 0 where
  -- an object at a wait after a transition was there before in the same state, or is the caller that this transition
  -- answers
  pub begun : (c d : Config S) (lab : Label) (o b m : ℕ) (x : S) → W c → move g c lab ≡ Some d → object_of d o ≡ Some x → g.kind o x ≡ K.Waits b m
      → (object_of c o ≡ Some x) ⊎ IsAnswer lab b o
  -- a new root is not at a wait
  pub root : (o b m : ℕ) (x : S) → g.root ≡ Some x → g.kind o x ≢ K.Waits b m
