pub mod Meaning
pub mod Replies
pub mod Bytes
pub mod Laws
