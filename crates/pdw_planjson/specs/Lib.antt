-- what stands at a key of an object
pub mod Keys
-- numbers in strings
pub mod Numerals
-- the words for properties and for kinds of nodes
pub mod Words
-- a node by itself
pub mod Node
-- nodes over the stack of those before them
pub mod Stack
-- the lists of bounds
pub mod Bounds
-- what a file describes
pub mod File
-- the data of a plan file
pub mod Written
-- the limits within which a file reads back
pub mod Limits
