pub mod Showing
pub mod Replaying
pub mod Changing
pub mod Explaining
pub mod Paging
pub mod Capturing
pub mod Jobs
