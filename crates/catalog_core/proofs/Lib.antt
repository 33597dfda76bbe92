pub mod AllCommits
pub mod Answered
pub mod FirstIndex
pub mod Frames
pub mod Outcomes
pub mod Putting
pub mod Reading
pub mod Settling
