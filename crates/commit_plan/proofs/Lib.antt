pub mod LastLeaf
pub mod Lasts
pub mod Looking
pub mod NextPage
pub mod PlaceByPlace
