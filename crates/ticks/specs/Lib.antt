pub mod Calendar
pub mod Laws
pub mod Parts
pub mod Reading
pub mod Scan
pub mod Stamp
