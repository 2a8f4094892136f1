pub mod Differing
pub mod EndOrder
pub mod Labels
pub mod Pairs
pub mod Places
pub mod Sides
