-- The lemmas that other crates may cite.

-- code does what its program does: each step, a new object, and as many frames as methods under way
pub use Rattle.pool_compile.proofs.Simulation.{follows}
pub use Rattle.pool_compile.proofs.NewObject.{FoundClass, class_found, stands_new}
pub use Rattle.pool_compile.proofs.FrameCounts.{frame_count}
pub use Rattle.pool_compile.proofs.SilentTermination.{comes_to_rest}
-- a parsed program is a text
pub use Rattle.pool_compile.proofs.ParsedIsText.{program_is_text}
-- the code of a program without class faults
pub use Rattle.pool_compile.proofs.ProgramProper.{program_proper}
pub use Rattle.pool_compile.proofs.Limits.{program_small, frames_small, written, some_class, class_parts, method_parts}
pub use Rattle.pool_compile.proofs.NamesExist.{op_whole}
pub use Rattle.pool_compile.proofs.PartCounts.{nil_left, nil_right, no_fault}
pub use Rattle.pool_compile.proofs.Greater.{more_left, more_right}
pub use Rattle.pool_compile.proofs.CodeAtStart.{Has, front, back, has_all, works_length}
pub use Rattle.pool_compile.proofs.Heights.{count}
