pub mod Laws
pub mod SameUnderNames
pub mod OnlyAwaited
