pub mod Prefixes
pub mod Written
pub mod Adding
pub mod Rules
pub mod Folds
pub mod Shows
