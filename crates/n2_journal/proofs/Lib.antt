pub mod Digits
pub mod Steps
pub mod Fields
pub mod Bodies
pub mod Entries
pub mod Splits
pub mod Runs
