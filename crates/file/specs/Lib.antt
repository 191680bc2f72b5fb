pub mod Counted
pub mod Meaning
pub mod Totals
pub mod Reached
pub mod Example
pub mod Cases
pub mod Longest
