pub mod Apart
pub mod Turns
pub mod Tokens
pub mod Printed
pub mod Ran
pub mod Shown
pub mod Whole
