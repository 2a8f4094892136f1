pub mod Style
pub mod Script
pub mod Frame
pub mod Areas
pub mod Ranges
pub mod Routes
pub mod Summaries
