pub mod Folds
mod ReflexiveEquality
mod PairwiseLists
pub mod LastState
mod SameTreeLists
