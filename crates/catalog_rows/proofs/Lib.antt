pub mod Counts
pub mod Keys
pub mod LastRows
pub mod Newest
pub mod OfItems
pub mod PageHeads
pub mod Places
pub mod Table
