pub mod Bounds
pub mod Found
pub mod Forms
pub mod Again
pub mod Fits
