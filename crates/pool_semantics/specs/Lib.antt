-- Believed: what a top call's contract reaches.
pub mod Shown
-- Internal: what it does not.
pub mod Mails
pub mod Plains
pub mod Sound
pub mod PlainOf
pub mod Moving
pub mod SearchQueries
