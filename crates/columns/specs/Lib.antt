pub mod Areas
pub mod Entering
pub mod Plans
pub mod Spans
pub mod Leaves
