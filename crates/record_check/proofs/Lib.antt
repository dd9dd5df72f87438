pub mod EndVerdict
pub mod RunExtension
pub mod LoneObject
pub mod OneVerdict
pub mod RecordIsRun
mod JudgedRows
pub mod Laws
