pub mod EndLaws
pub mod ReadingLaws
pub mod ReachLaws
pub mod Laws
