pub mod Calculations
pub mod Totals
pub mod Summaries
pub mod Followed
pub use Rattle.intra.specs.Intras
pub use Rattle.inter.specs.Right as InterRight
pub use Rattle.external.specs.Externals
pub use Rattle.active_ranges.specs.Active
pub use Rattle.route_layers.specs.Trees
pub use Rattle.route_layers.specs.Works
pub use Rattle.route_layers.specs.Layers
