pub mod WordSplit
pub mod DecimalRoundTrip
pub mod ObjectNameRoundTrip
pub mod ValueRoundTrip
pub mod TextRoundTrip
pub mod ShownRoundTrip
pub mod LineRoundTrip
pub mod SecondFormRoundTrip
pub mod NameRoundTrip
pub mod LineOrder
pub mod RequestSuffix
pub mod ReadIsReadable
pub mod Laws
pub mod ParsedLines
mod WireRows
pub mod LineRequests
pub mod Places
