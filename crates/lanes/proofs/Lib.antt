pub mod Aging
pub mod RowsFrom
pub mod Vectors
