pub mod Registers
pub mod Counts
pub mod Sound
pub mod Kept
pub mod Passing
pub mod Standing
pub mod Ranges
pub mod CoreLines
