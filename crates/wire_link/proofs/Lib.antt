pub mod WriteThenRead
pub mod ReadThenWrite
pub mod ByteConcatenation
pub mod SideAppend
pub mod WiresMemory
pub mod CarriedPackets
pub mod WantedNumbers
mod FirstFrame
mod Rings
mod Rows
pub mod Laws
