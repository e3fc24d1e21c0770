pub mod Bytes
pub mod Keyword
pub mod Sign
pub mod Piece
pub mod Fault
pub mod Lexes
