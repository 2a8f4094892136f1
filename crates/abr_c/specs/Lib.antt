pub mod Owned
pub mod Slots
pub mod CTypes
pub mod Numbers
pub mod Given
pub mod Opening
pub mod Told
pub mod Views
