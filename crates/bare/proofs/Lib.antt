pub mod Veils
pub mod Forms
pub mod Nulls
pub mod Testing
pub mod Signs
pub mod Leaving
