pub mod Entering
pub mod Kinds
pub mod Filling
pub mod Structs
