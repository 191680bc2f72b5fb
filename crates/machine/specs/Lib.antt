pub mod Lists
pub mod Digits
pub mod Lines
pub mod Texts
