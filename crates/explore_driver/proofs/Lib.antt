pub mod OutputLaws
pub mod FollowLaws
pub mod UsageLaws
