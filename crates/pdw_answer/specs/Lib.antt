-- the words of moves
pub mod Words
