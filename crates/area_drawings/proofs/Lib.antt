pub mod ColumnLists
pub mod Drawn
pub mod Inserted
pub mod LinkLists
pub mod Once
pub mod Reaches
pub mod Runs
pub mod WholeLinks
