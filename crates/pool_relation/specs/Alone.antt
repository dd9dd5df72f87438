-- The configuration that has one object and no message.
use Rattle.std.specs.Prelude.{ℕ, [], ◌∷◌}
use Rattle.pool_relation.specs.Action.{Object}
use Rattle.pool_relation.specs.Configuration.{Configuration}

-- one object under the name root, and no message
abbrev pub alone : ℕ → Object → Configuration
alone root x = record { objects = (root, x) ∷ []; messages = [] }
