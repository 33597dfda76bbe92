pub mod Bases
pub mod Cuts
pub mod Index
pub mod Names
pub mod Segments
pub mod Roots
pub mod Services
pub mod Table
