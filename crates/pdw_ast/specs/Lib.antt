pub mod Written
pub mod Spelling
pub mod Prints
pub mod Puts
