pub mod Shortened
pub mod Tails
pub mod Taking
pub mod Faults
