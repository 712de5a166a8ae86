pub mod Adding
pub mod Counting
pub mod Homing
pub mod Keeping
pub mod Reaching
pub mod Repeating
pub mod Unfolding
