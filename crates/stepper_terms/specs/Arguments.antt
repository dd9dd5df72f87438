-- The arguments, the names and the guards of the redex in the focus of the stepper.
use Rattle.std.specs.Prelude.{List, []}
use Rattle.run_types.specs.declared.types.Value.{Value}
use Rattle.pool_syntax.specs.declared.tree.Named.{Named}
use Rattle.pool_relation.specs.Reducible.{Choice}
use Rattle.stepper_terms.specs.declared.contexts.Ready.{Ready}
use Rattle.stepper_terms.specs.declared.contexts.Ready.TheVariants as Y
use Rattle.stepper_terms.specs.declared.contexts.Task.{Task}
use Rattle.stepper_terms.specs.declared.contexts.Task.TheVariants as K
use Rattle.stepper_terms.specs.declared.contexts.Focus.{Focus}
use Rattle.stepper_terms.specs.declared.contexts.Focus.TheVariants as N
use Rattle.stepper_terms.specs.Reduced.{values, choices}

-- the arguments of an expression that is the redex
abbrev pub ready_args : Ready → List Value
ready_args (Y.Call m vs p) = values vs.items
ready_args (Y.Send to m vs p) = values vs.items
ready_args _ = []

-- the arguments, the names and the guards of a statement that is the redex
abbrev pub task_args : Task → List Value
task_args (K.Async to m vs) = values vs.items
task_args _ = []

abbrev pub task_names : Task → List Named
task_names (K.Answer names) = names.now
task_names _ = []

abbrev pub task_choices : Task → List Choice
task_choices (K.Select gs) = choices gs.items
task_choices _ = []

abbrev pub now_args : Focus → List Value
now_args (N.Expression r ks s gs) = ready_args r
now_args (N.Statement k gs) = task_args k
now_args _ = []

abbrev pub now_names : Focus → List Named
now_names (N.Statement k gs) = task_names k
now_names _ = []

abbrev pub now_choices : Focus → List Choice
now_choices (N.Statement k gs) = task_choices k
now_choices _ = []
