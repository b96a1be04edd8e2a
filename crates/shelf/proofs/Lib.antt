pub mod Holding
pub mod Shapes
pub mod Batches
pub mod Positions
pub mod Adding
pub mod Sweeping
pub mod Shelving
pub mod Cells
