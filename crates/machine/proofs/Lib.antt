pub mod Base
pub mod Digits
pub mod Lines
pub mod Tests
