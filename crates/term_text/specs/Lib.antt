-- Believed: what a top call's contract reaches.
pub mod Words
pub mod Marked
pub mod Levels
pub mod StateText
pub mod Watched
