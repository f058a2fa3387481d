pub mod Solver
pub mod Whole
pub mod Rational
pub mod Certificate
pub mod Order
pub mod Powers
pub mod Laws
