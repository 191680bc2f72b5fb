pub mod Taking
pub mod Status
pub mod Opened
pub mod Counts
