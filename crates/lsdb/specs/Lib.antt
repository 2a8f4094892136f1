pub mod Columns
pub mod Contents
pub mod Databases
pub mod Texts
