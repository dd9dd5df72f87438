pub mod HeapAbstraction
pub mod Objects
pub mod ArrayPrefix
pub mod Stacks
