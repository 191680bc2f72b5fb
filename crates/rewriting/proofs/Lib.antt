pub mod Copying
pub mod Behind
pub mod Again
