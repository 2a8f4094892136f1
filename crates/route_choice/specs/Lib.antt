pub mod Costs
pub mod Choices
pub mod Takes
pub mod ReachedRouter
pub mod Chosen
pub mod Dests
pub mod Lists
pub mod Results
