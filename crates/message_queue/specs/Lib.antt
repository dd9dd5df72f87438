-- Internal: what it does not.
pub mod Mails
pub mod Stamps
