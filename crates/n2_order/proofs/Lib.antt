pub mod Nobody
pub mod Picks
pub mod Rows
pub mod Runs
pub mod Spelled
