pub mod Leaving
pub mod Above
