pub mod Rows
pub mod Values
pub mod Suited
pub mod Format
pub mod Batch
pub mod Cells
pub mod Laws
