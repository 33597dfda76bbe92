pub mod FaultLemmas
pub mod ServingLemmas
pub mod StatusLemmas
