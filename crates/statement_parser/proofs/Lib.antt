pub mod Lists
pub mod Choices
pub mod SimpleStatements
pub mod Bodies
pub mod Laws
