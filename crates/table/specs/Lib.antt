pub mod Monomial
pub mod Order
pub mod Table
pub mod Slice
pub mod View
pub mod Laws
pub mod Facts
