pub mod Answered
pub mod Options
pub mod Taken
