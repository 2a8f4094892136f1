pub mod Forms
pub mod Places
pub mod Reading
pub mod Recordings
pub mod Faults
pub mod Texts
pub mod Progress
pub mod Left
