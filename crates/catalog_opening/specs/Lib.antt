pub mod Errors
pub mod Openings
pub mod Pages
pub mod Plans
pub mod Reads
pub mod Settlings
