pub mod Addresses
pub mod Documents
pub mod Entries
pub mod Keys
pub mod Laws
pub mod Pages
