pub mod Chosen
pub mod Joined
pub mod Placing
pub mod Planned
pub mod Shares
