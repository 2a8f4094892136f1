pub mod Ages
pub mod Rows
