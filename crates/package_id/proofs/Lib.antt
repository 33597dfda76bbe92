pub mod Walk
pub mod Fronts
pub mod Bytes
pub mod Reasons
