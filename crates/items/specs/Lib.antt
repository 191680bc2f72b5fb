pub mod Search
pub mod Answering
pub mod Promises
