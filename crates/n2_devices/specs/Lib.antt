pub mod Devices
pub mod States
pub mod Wires
