pub mod Kept
pub mod Last
pub mod Latest
pub mod Reasons
