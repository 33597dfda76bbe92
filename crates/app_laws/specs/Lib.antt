pub mod Feeds
pub mod Histories
pub mod Scratch
