pub mod Bounded
pub mod Clocked
pub mod Growing
pub mod Kept
pub mod Paces
pub mod Listing
pub mod Others
pub mod Rotation
pub mod Runs
mod Samples
pub mod Serves
pub mod Visits
