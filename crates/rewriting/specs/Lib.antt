pub mod Cities
pub mod Rewriting
pub mod Promises
