pub mod AscendingWaiters
