pub mod Lanes
pub mod Places
pub mod Stores
pub mod Masks
