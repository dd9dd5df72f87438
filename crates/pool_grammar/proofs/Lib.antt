pub mod Terminals
pub mod Laws
