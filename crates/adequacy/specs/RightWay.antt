-- A run given configuration by configuration, each of them right: typed and without an object that goes wrong.
use Rattle.std.specs.Prelude.{◌≡◌, List, [], ◌∷◌, Some}
use Rattle.run_types.specs.declared.types.Label.{Label}
use Rattle.pool_syntax.specs.Terms.{ProgramTree}
use Rattle.pool_relation.specs.Configuration.{Configuration}
use Rattle.pool_relation.specs.Transition.{transition}
use Rattle.mesh_of_terms.specs.RunOf.{IsRight}

-- Each label is possible after the labels before it. Each configuration of the run is right, also the first and the
-- last, and the last is z.
abbrev pub IsRightWay : ProgramTree → Configuration → List Label → (z : Configuration) → Type 0
IsRightWay p c [] z = IsRight p c × (c ≡ z)
IsRightWay p c (l ∷ ls) z = (d : Configuration) × IsRight p c × (transition p c l ≡ Some d) × IsRightWay p d ls z
