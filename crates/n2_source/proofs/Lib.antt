pub mod Ascii
pub mod DigitSteps
pub mod ListSteps
