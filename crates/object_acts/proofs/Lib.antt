pub mod EndActions
