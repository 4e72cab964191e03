pub mod Lines
pub mod Writes
pub mod Stored
pub mod Starts
pub mod WordRanges
