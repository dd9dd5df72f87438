-- The lemmas that other crates may cite: the classes that are made, the slot in turn, and a whole act.
pub use Rattle.node_turns.proofs.CreateStep.{class_below, class_found, class_name, no_fewer, some_placed}
pub use Rattle.node_turns.proofs.TurnSelection.{bits_first}
pub use Rattle.node_turns.proofs.NodeAct.{made_acts}
