mod Ascending
mod Following
pub mod Greatest
pub mod Members
mod Naming
pub mod Reconfigured
pub mod Right
pub mod Searching
mod Activity
mod Grouped
mod Kept
mod Placed
mod Lists
mod Standing
mod Turning
mod Weighing
mod Inside
mod Taken
