-- Believed: what a top call's contract reaches.
pub mod RecordText
pub mod SecondForm
pub mod WrittenText
-- Internal: what it does not.
pub mod PlainTexts
pub mod Writable
