pub mod Picking
pub mod Ending
pub mod Driving
pub mod Together
