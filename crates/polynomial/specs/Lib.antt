pub mod Reach
pub mod Terms
pub mod Value
pub mod Method
pub mod Quadratic
pub mod Laws
pub mod Facts
