pub mod Texts
pub mod Runs
pub mod Outputs
pub mod Dealing
pub mod Parts
