pub mod Bodies
pub mod Cuts
pub mod Laws
pub mod Lines
