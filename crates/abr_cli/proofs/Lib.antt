pub mod Ended
pub mod Shown
pub mod Changed
pub mod Explained
pub mod Paged
