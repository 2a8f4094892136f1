pub mod Trees
pub mod Works
pub mod Turns
pub mod Layers
