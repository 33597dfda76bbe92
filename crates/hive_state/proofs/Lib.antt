pub mod First
pub mod Names
pub mod Nth
pub mod Parts
pub mod Rising
pub mod Same
pub mod Shown
pub mod Trees
