pub mod PacketReceipt
pub mod MadeCounts
pub mod NodeReport
pub mod NewNode
pub mod AcceptablePackets
pub mod Laws
