-- Internal: what it does not.
pub mod VerdictAnswer
pub mod Effects
pub mod Indexed
pub mod Scopes
pub mod Silent
pub mod Spreads
