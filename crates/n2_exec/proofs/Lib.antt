pub mod Proper
pub mod Bits
pub mod Sizes
pub mod Words
pub mod Fetched
pub mod Shifts
pub mod Integers
