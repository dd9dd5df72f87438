pub mod Putting
mod Rows
mod WatchedRow
pub mod Laws
