-- Believed: what a top call's contract reaches.
pub mod Kind
pub mod Language
pub mod Config
pub mod Moves
pub mod Wire
pub mod Delay
pub mod Act
pub mod Record
pub mod Standing
pub mod Sound
pub mod Wired
pub mod MadeLines
-- Internal: what it does not.
pub mod Traffic
pub mod Happenings
pub mod KeptWire
pub mod NumberedPackets
pub mod RecordOf
pub mod Cycles
pub mod FitFor
pub mod EventSoundness
pub mod Lawful
pub mod Waits
pub mod Simulates
pub mod Requests
