pub mod Ending
pub mod Pictures
pub mod Sections
pub mod Outputs
