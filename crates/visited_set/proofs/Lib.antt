pub mod EachMore
pub mod FailedResults
pub mod SortedMaps
pub mod ObjectNumbers
pub mod RowLists
pub mod RowObjects
pub mod StateTableGrowth
pub mod WrittenListsGrowth
pub mod NumberingSteps
pub mod MessagesLeft
pub mod NumberingRoundTrip
mod Examples
pub mod KnownLeads
pub mod WaiterPlaces
pub mod Laws
