pub mod Next
pub mod RunEnds
pub mod Sent
