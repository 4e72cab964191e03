pub mod Wiring
pub mod Transfer
pub mod Opened
pub mod Ranges
