pub mod Bytes
pub mod Lexemes
pub mod Reading
pub mod Refusals
pub mod Tokens
