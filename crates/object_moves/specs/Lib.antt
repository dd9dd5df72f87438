-- Internal: what it does not.
pub mod Changed
pub mod Effects
pub mod Followed
pub mod Known
pub mod Roles
pub mod Rows
pub mod SameObjects
pub mod Tables
pub mod Waiting
