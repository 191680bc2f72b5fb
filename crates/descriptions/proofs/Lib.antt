pub mod Merging
pub mod Adding
pub mod Lists
