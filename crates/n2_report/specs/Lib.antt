pub mod Stops
pub mod Flat
pub mod Transfers
pub mod Report
pub mod OfFlat
pub mod OfRun
pub mod Ran
