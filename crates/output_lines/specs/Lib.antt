pub mod Members
pub mod Routes
pub mod Keys
pub mod Bytes
pub mod Fields
pub mod Words
