pub mod Searching
pub mod Answering
pub mod Recorded
pub mod Readings
pub mod Promising
