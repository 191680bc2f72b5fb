pub mod Pasting
pub mod Spelling
