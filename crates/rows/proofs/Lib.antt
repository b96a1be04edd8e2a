pub mod Cells
pub mod Tallies
pub mod Starts
pub mod Sizes
pub mod Spanned
pub mod Enters
pub mod Alike
pub mod Placing
