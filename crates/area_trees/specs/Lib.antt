pub mod LeastPaths
pub mod Areas
pub mod Work
