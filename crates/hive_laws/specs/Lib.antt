pub mod Areas
pub mod FoldLaws
pub mod Plans
pub mod Rounds
pub mod Steps
