pub mod Docs
pub mod Entries
pub mod Events
pub mod Folds
pub mod Items
pub mod Laws
pub mod Places
pub mod Sound
