mod PaddedDigits
mod Counted
pub mod Gained
mod LsTypes
pub mod Gaining
pub mod Stepping
pub mod Said
pub mod Taking
pub mod Recorded
pub mod Outcomes
pub mod Ends
pub mod Keeping
pub mod Putting
