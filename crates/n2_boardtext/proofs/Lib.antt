pub mod Steps
pub mod Lengths
pub mod Trees
pub mod Causes
