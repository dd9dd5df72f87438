pub mod Nested
pub mod Slotted
pub mod Again
pub mod UnderWay
pub mod MethodLines
pub mod StageTexts
pub mod WorkLines
pub mod Laws
