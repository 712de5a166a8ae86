pub mod Attempted
pub mod Decided
pub mod OneDecision
pub mod Originally
pub mod ReadyNext
pub mod Running
pub mod Whole
pub mod Promised
