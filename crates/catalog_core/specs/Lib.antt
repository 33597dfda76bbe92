pub mod Committing
pub mod Errors
pub mod Framing
pub mod Opened
pub mod Openings
