pub mod Parts
pub mod Numbers
pub mod Rules
pub mod Valid
pub mod MemoryLines
