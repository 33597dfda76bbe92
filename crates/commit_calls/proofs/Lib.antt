pub mod Committed
pub mod Opened
pub mod Stepped
pub mod Still
