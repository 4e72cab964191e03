pub mod Chosen
pub mod Driving
pub mod Beside
pub mod Bounded
