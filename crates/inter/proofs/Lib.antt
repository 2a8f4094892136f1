pub mod Chosen
pub mod Following
pub mod Frame
pub mod Right
