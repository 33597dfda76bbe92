pub mod Lookups
pub mod Planned
pub mod Plans
