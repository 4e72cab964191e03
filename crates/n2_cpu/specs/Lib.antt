pub mod Judged
pub mod Aims
pub mod Stands
