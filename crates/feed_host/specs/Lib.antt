pub mod Laws
pub mod Replies
pub mod Serving
pub mod Steps
