pub mod Writes
pub mod Places
pub mod Records
pub mod Fronts
pub mod Begins
pub mod Scanning
pub mod Filling
pub mod LeafColumns
