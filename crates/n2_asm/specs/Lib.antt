pub mod FaultTexts
pub mod Rows
pub mod Seen
pub mod Sources
pub mod Survey
