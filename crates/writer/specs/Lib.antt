pub mod Encoding
pub mod Entries
pub mod Inner
pub mod Writing
pub mod Promises
pub mod Cases
