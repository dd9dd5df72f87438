-- The statuses that a node reports are those of the definition of nodes.
use Rattle.std.specs.Prelude.{Bool, true, false}
use Rattle.run_types.specs.declared.types.Standing.{Standing}
use Rattle.run_types.specs.declared.types.Standing.TheVariants as Z
use Rattle.mesh_semantics.specs.Standing as T

-- the status that the code reports
abbrev pub told_standing : Standing → T.Standing
told_standing Z.Ready = T.Ready
told_standing Z.Finished = T.Finished
told_standing (Z.Faulted e) = T.Faulted e
told_standing (Z.Calls b m) = T.Calls b m.0
told_standing (Z.Creates k node) = T.Creates k.0 node
told_standing Z.Due = T.Due
told_standing Z.Awaits = T.Awaits

-- ready if the object can step
abbrev pub chosen_standing : Bool → T.Standing
chosen_standing true = T.Ready
chosen_standing false = T.Awaits
