pub mod SelectAlternatives
