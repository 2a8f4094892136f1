pub mod Inputs
pub mod Offers
pub mod Inters
pub mod Changes
pub mod Right
pub mod Choosing
pub mod Following
