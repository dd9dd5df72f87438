-- Internal: what it does not.
pub mod LinkWires
pub mod WireReports
pub mod MachineOn
