-- Rows of numbers: the number of each object's state, in the order of the names 0, 1, 2, ..
use Rattle.run_types.specs.Message.{Message}
use Rattle.run_types.specs.Tables.{Pair}
use Rattle.std.specs.Prelude.{◌<◌, ℕ, suc, List, [], ◌∷◌, length, slice_index_or, None}
use Rattle.std.specs.List.{All}
use Rattle.pool_syntax.specs.Terms.{Done}
use Rattle.pool_relation.specs.Action.{Object}
use Rattle.pool_relation.specs.Configuration.{Configuration}

-- the object at a number that the table does not have
abbrev pub no_object : Object
no_object = record { class = 0; vars = []; term = Done; fault = None }

-- the objects with these state numbers, named from o on
abbrev pub objects_from : ℕ → List Object → List ℕ → List (ℕ × Object)
objects_from o xs [] = []
objects_from o xs (n ∷ ns) = (o, slice_index_or xs n no_object) ∷ objects_from (suc o) xs ns

-- the configuration of a row, if xs are the object states and these messages wait
abbrev pub row : List Object → List ℕ → List (Pair × List Message) → Configuration
row xs ns ms = record { objects = objects_from 0 xs ns; messages = ms }

-- the table has each number
abbrev pub AreWithin : List Object → List ℕ → Type 0
AreWithin xs ns = All (λ n. n < length xs) ns
