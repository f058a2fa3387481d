pub mod Enclosure
pub mod Rounding
pub mod Reaching
pub mod Sizes
mod Passed
mod Scaled
mod Casts
mod Marked
pub mod Orders
pub mod Passing
pub mod GivenEnds
pub mod Encloses
