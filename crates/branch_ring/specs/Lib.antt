pub mod Profiles
pub mod Rings
pub mod Tallies
