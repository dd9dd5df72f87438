pub mod Flat
pub mod UnitsRead
