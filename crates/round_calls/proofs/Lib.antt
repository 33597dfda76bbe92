pub mod Passed
pub mod Rounded
