pub mod Reasons
pub mod Words
pub mod Objects
pub mod Lines
pub mod Explanations
pub mod Outputs
