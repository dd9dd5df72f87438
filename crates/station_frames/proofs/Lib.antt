pub mod Halves
pub mod ReadBack
pub mod Rows
pub mod Laws
