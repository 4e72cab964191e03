pub mod Steps
pub mod Small
pub mod Sound
pub mod WholeLines
pub mod LinePlaces
