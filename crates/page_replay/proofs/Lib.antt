pub mod Ended
pub mod Pages
pub mod Shown
pub mod Texts
