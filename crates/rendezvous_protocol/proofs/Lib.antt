mod ListUpdate
mod SlotNumbers
