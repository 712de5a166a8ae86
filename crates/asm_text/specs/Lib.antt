pub mod Tokens
pub mod Numbers
pub mod Operands
pub mod Keywords
pub mod Bodies
pub mod Statements
