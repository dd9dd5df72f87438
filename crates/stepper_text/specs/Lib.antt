-- Internal: what it does not.
pub mod Around
pub mod Contents
pub mod Inners
pub mod ContentLines
