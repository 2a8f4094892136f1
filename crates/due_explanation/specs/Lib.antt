pub mod Sources
pub mod Reasons
pub mod ReasonLines
pub mod Words
pub mod Objects
pub mod Lines
pub mod Explained
