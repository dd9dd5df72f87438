-- Believed: what a top call's contract reaches.
pub mod Words
pub mod Unexpected
pub mod Outputs
pub mod Following
pub mod Ends
-- Internal: what it does not.
pub mod AskedRequest
pub mod FollowSteps
pub mod Results
