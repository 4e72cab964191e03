pub mod Orders
pub mod Lists
pub mod Choices
pub mod States
