pub mod Laws
pub mod LeadingBytes
