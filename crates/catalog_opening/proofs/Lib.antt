mod CatalogOpen
mod CatalogPages
mod CatalogSettle
mod Ends
mod Fitting
mod Gets
pub mod Halting
pub mod Mended
mod Mending
mod OfCommit
mod OpenSteps
pub mod Prefixes
