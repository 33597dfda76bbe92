pub mod Absent
pub mod DocsByRows
pub mod Getting
pub mod Held
pub mod ItemRows
pub mod LeafReads
