pub mod Outcomes
pub mod Living
pub mod Decided
pub mod Written
pub mod Promised
