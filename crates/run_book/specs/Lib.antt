pub mod Terms
pub mod Told
pub mod Visits
pub mod Sections
pub mod Booked
