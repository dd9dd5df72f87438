pub mod ReadLaws
pub mod Laws
pub mod NameCount
