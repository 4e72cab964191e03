pub mod Irqs
pub mod Kept
pub mod Shown
