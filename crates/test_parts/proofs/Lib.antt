pub mod NodeActs
pub mod WantedNumbers
