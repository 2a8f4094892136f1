pub mod Lists
pub mod AdvertisedRoute
pub mod Indexes
pub mod AffectedDests
pub mod LsasByKey
pub mod KnownKeys
pub mod BloomFilter
pub mod IndexFilter
