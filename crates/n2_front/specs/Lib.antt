pub mod Front
pub mod Tasks
pub mod Retire
pub mod Core
pub mod Turn
