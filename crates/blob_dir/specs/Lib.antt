pub mod Counted
pub mod Locked
pub mod Names
pub mod Touched
