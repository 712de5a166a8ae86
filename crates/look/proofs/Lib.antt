pub mod OneDecision
pub mod Decided
pub mod Promised
