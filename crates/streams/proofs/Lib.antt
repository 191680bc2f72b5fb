pub mod Taking
pub mod Carrying
pub mod Telling
pub mod Turning
pub mod Ending
