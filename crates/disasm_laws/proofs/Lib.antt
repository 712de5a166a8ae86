pub mod Lexed
pub mod Numerals
pub mod Bodies
pub mod Backwards
