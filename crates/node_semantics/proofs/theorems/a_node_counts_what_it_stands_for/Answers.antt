use Rattle.run_types.specs.GivenProperties.{IsGiven}
use Rattle.node_semantics.proofs.NodeCounts.{objects_count, frames_count, cells_count}
use Rattle.node_semantics.proofs.theorems.a_node_counts_what_it_stands_for.Goals as goal

pub returns-clause-objects : goal.returns-clause-objects
returns-clause-objects g z = λ h kept l m c d n x law req is st node. objects_count h (IsGiven kept) law req l m c d st is n x node

pub returns-clause-frames : goal.returns-clause-frames
returns-clause-frames g z = λ h kept l m c d n x law req is st node. frames_count h (IsGiven kept) law req l m c d st is n x node

pub returns-clause-cells : goal.returns-clause-cells
returns-clause-cells g z = λ h kept l m c d n x law req is st node. cells_count h (IsGiven kept) law req l m c d st is n x node
