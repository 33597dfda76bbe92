pub mod Leaves
pub mod OneArea
pub mod Parts
