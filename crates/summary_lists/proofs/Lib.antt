pub mod Parts
pub mod Placing
pub mod Changing
pub mod Merging
pub mod Putting
