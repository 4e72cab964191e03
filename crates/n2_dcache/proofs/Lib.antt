pub mod Maps
pub mod Opened
