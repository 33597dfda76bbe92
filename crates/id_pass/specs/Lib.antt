pub mod Named
pub mod Passes
pub mod Placing
pub mod Told
