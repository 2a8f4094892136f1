pub mod Lines
pub mod Changes
pub mod Runs
pub mod Streams
pub mod Following
pub mod Openings
pub mod Outputs
pub mod Begun
