pub mod Ranges
pub mod Fates
pub mod Listing
pub mod SourceMetrics
pub mod Defined
pub mod Metrics
