pub mod Registers
pub mod Values
pub mod Outcomes
pub mod Effect
pub mod Follow
pub mod Integers
