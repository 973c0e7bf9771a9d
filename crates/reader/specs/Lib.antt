pub mod Lexemes
pub mod Refusals
pub mod Reading
pub mod Meaning
pub mod Answers
