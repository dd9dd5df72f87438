pub mod DrawnLaws
pub mod Lengths
