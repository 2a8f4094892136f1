mod Carrying
pub mod Names
pub mod Pieces
pub mod Discarding
pub mod Timing
pub mod Histories
pub mod ReadLsas
