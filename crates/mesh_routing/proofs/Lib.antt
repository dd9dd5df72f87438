mod NeighbourSteps
mod AscendingNodes
mod LinkLookup
mod SortedLinks
mod OutgoingPackets
mod LinkUpdate
mod LinkCalls
