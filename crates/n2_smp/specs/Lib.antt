pub mod Rows
pub mod Scripts
pub mod Standing
pub mod Replayed
