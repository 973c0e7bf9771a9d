pub mod Spelling
pub mod Telling
pub mod Locating
pub mod Refusing
