pub mod Spots
pub mod Refusals
pub mod Moved
pub mod Sent
pub mod Profiles
pub mod Entering
pub mod Story
pub mod Pictures
