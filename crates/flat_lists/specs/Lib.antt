-- Internal: what it does not.
pub mod Ends
pub mod Units
