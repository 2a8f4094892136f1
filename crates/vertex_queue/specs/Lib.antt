pub mod Maps
pub mod VertexSet
pub mod Differing
pub mod Marks
pub mod Keys
pub mod Counts
pub mod Queues
pub mod Heaps
