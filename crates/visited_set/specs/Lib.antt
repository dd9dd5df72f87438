-- Internal: what it does not.
pub mod Rows
pub mod Numbers
pub mod WrittenLists
pub mod WritingsOf
pub mod Courses
pub mod VisitedConfigurations
pub mod LedBy
pub mod WaiterLists
