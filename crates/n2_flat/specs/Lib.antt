pub mod PlainBoard
pub mod State
