pub mod RowSteps
pub mod Sound
pub mod Sized
