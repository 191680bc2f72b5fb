pub mod State
pub mod Order
pub mod Step
pub mod Bounds
pub mod Check
