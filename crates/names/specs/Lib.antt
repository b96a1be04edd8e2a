pub mod Lowest
pub mod Readable
pub mod Scans
pub mod Hash
pub mod Slots
pub mod Indexes
