pub mod Cuts
pub mod EntryPuts
pub mod NoFloats
