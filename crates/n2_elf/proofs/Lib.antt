pub mod Steps
pub mod Again
pub mod Sized
