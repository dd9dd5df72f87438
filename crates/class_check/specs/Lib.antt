-- Believed: what a top call's contract reaches.
pub mod Least
