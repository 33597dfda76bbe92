pub mod Cursor
pub mod Laws
pub mod Reading
