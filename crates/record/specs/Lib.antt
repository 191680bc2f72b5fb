pub mod Kinds
pub mod Faults
pub mod Read
