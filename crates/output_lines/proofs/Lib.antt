pub mod Floats
pub mod Texts
pub mod Walked
pub mod Bodies
