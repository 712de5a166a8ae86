pub mod Decided
pub mod Promised
pub mod Kept
pub mod OneDecision
