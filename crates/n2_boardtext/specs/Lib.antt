pub mod Rows
pub mod Words
pub mod Keys
pub mod Values
pub mod Faults
pub mod Boards
pub mod Reading
