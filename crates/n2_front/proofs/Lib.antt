pub mod KeptActs
pub mod Stops
pub mod Others
