pub mod Boards
pub mod Programs
pub mod Works
