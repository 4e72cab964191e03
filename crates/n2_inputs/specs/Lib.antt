pub mod Refusals
pub mod Sources
pub mod Calls
pub mod Files
pub mod Boards
pub mod Orders
pub mod Journals
pub mod Asked
