pub mod LoadError
pub mod Field
pub mod Records
