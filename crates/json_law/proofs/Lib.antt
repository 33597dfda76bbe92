pub mod Back
pub mod Utf8
pub mod Lists
pub mod Readers
