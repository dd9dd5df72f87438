-- A node as contracts see it: its limits, its state by the definition of nodes, and its ready objects.
use Rattle.std.specs.Prelude.{ℕ, Bool, List, refl}
use Rattle.std.specs.Coded.{Coded, code_by, coded×, coded_bool, coded_list, coded_ℕ}
use Rattle.run_types.specs.declared.types.Value.{Value}
use Rattle.run_types.specs.declared.types.Error.{Error}
use Rattle.run_types.specs.declared.frames.CodeObject.{CodeObject}
use Rattle.mesh_of_code.specs.Coded.{Placed}
use Rattle.node_semantics.specs.Node.{NodeState}
use Rattle.node_state.specs.Codes.{state_code}
use Rattle.node_state.specs.declared.long.LongAnswer.{LongAnswer}

pub record NodeOf : Type 0 where
  -- the number of the node
  pub id : ℕ
  -- the limits of objects, frames and cells of the node, and of variables of one object
  pub most_objects : ℕ
  pub most_frames : ℕ
  pub most_cells : ℕ
  pub most_vars : ℕ
  -- its objects, messages, request numbers, last slot and counts
  pub state : NodeState Placed
  -- whether each object can step
  pub ready : List Bool
  -- the long answers of its unit
  pub long : List LongAnswer

abbrev pub node_code : Coded CodeObject → Coded Error → Coded Value → Coded LongAnswer → Coded NodeOf
node_code x e v a =
    code_by (ℕ × (ℕ × (ℕ × (ℕ × (ℕ × (NodeState Placed × (List Bool × List LongAnswer)))))))
    (coded× coded_ℕ (coded× coded_ℕ (coded× coded_ℕ (coded× coded_ℕ (coded× coded_ℕ (coded× (state_code x e v) (coded× (coded_list coded_bool) (coded_list a))))))))
    (λ n. (n.id, (n.most_objects, (n.most_frames, (n.most_cells, (n.most_vars, (n.state, (n.ready, n.long))))))))
    (λ t. record { id = t.0; most_objects = t.1.0; most_frames = t.1.1.0; most_cells = t.1.1.1.0; most_vars = t.1.1.1.1.0; state = t.1.1.1.1.1.0; ready = t.1.1.1.1.1.1.0; long = t.1.1.1.1.1.1.1 }) (λ _. refl)
