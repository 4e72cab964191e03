pub mod WorkBoard
pub mod Words
