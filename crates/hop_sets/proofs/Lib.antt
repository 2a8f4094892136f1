pub mod Unions
pub mod Places
pub mod SameHops
pub mod Empty
