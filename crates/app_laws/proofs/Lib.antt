pub mod Fates
pub mod Documents
pub mod Growth
pub mod Histories
pub mod JobRounds
pub mod Kept
pub mod Runs
pub mod Stores
