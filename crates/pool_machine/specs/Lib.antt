-- Believed: what a top call's contract reaches.
pub mod SentPackets
-- Internal: what it does not.
pub mod MachineOf
pub mod Parts
pub mod OnWires
pub mod MachineInvariant
pub mod ObjectReport
pub mod Answers
pub mod DidOf
pub mod AnswerOf
