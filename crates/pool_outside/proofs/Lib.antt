pub mod KnownBytes
pub mod FilesByName
pub mod WrittenPrefixes
pub mod Buffer
pub mod Laws
