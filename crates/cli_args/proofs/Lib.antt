pub mod Building
pub mod Matches
pub mod Parsers
pub mod Names
pub mod Walks
pub mod Lines
pub mod Jobs
pub mod JobInstances
