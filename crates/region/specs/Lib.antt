pub mod Free
pub mod Space
