pub mod Ascents
mod Enters
pub mod Growth
pub mod Monomials
pub mod Packing
pub mod Places
pub mod Readings
pub mod Searches
mod Shifts
pub mod Splits
