pub mod Spelling
pub mod Checksum
pub mod Faults
pub mod Text
pub mod Decoding
pub mod Readers
pub mod Left
pub mod Kept
