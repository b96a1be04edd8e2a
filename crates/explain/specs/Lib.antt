pub mod Nested
pub mod Way
pub mod Laws
pub mod Explanation
pub mod Puts
pub mod Toward
pub mod Said
