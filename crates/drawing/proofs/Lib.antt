pub mod Shares
pub mod Layouts
