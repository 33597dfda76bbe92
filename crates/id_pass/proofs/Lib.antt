pub mod Gathered
pub mod Lasts
pub mod Named
pub mod Puts
pub mod Sets
