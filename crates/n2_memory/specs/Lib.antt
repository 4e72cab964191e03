pub mod Memories
pub mod Start
