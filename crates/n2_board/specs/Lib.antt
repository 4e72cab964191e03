pub mod Segments
pub mod Classes
pub mod Places
pub mod AddressMap
pub mod Placement
pub mod Access
pub mod Guards
