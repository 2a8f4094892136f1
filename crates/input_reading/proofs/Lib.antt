mod Gathering
mod LineFeeds
pub mod Short
mod UnderWay
mod Unread
