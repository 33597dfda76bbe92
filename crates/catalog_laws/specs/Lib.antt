pub mod Onto
pub mod Values
pub mod Worked
