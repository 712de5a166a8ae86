pub mod Harts
pub mod Loaded
pub mod Sharing
pub mod Stack
pub mod Start
pub mod States
pub mod Steps
pub mod Transfers
