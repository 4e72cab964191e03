pub mod Faults
pub mod Files
pub mod FetchFaults
pub mod Bytes
pub mod Memory
pub mod System
