pub mod Access
pub mod Bits
pub mod Flat
pub mod Memory
pub mod Paged
pub mod Pages
pub mod Store
pub mod Words
