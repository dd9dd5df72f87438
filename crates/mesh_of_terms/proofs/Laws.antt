-- The lemmas that other crates cite.
pub use Rattle.mesh_of_terms.proofs.Instance.{Offering, Nothing, Something, offering, picked_is, move_is}
pub use Rattle.mesh_of_terms.proofs.LawfulTerms.{lawful}
pub use Rattle.mesh_of_terms.proofs.WriteKeepsFrames.{write_keeps_frames}
pub use Rattle.mesh_of_terms.proofs.StartAndEvents.{starts_plain, start_is_sound, event_keeps, moves_are_run}
pub use Rattle.mesh_of_terms.proofs.RecordIsRun.{runs_from, runs_from_on_wires}
pub use Rattle.mesh_of_terms.proofs.WaitingTerms.{waiting, answers, answers_on_wires}
pub use Rattle.mesh_of_terms.proofs.Shorthand.{names, block, args, it, number, nothing, yes, no, me, new, prefix_of, infix_of, set, call, own, send, turns, int, at, step, local, written, lines, numbered}
pub use Rattle.mesh_of_terms.proofs.MachineRuns.{rounds}
pub use Rattle.mesh_of_terms.proofs.TwoNodes.{placement as two_nodes_placement, program as two_nodes_program, Server, twice as two_nodes_twice}
pub use Rattle.mesh_of_terms.proofs.FourNodes.{placement, program}
