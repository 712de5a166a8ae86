pub mod Alone
pub mod Apart
pub mod Bases
pub mod Laid
pub mod Points
pub mod Rows
pub mod Tests
