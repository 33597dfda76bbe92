pub mod ByRows
pub mod Framing
pub mod Leaves
pub mod Reads
pub mod RowLeaves
