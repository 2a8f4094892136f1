pub mod Lists
pub mod Active
pub mod Following
pub mod Grouped
pub mod Right
