-- What a file describes is within the bounds of the checker
mod Described
-- What is found of a file is found of its bytes
mod Found
-- There is one verdict on a file
pub mod OneVerdict
-- There is a verdict on a plan
mod Searched
-- There is a verdict on a file
pub mod SomeVerdict
-- The text of a plan file reads back
pub mod TextBack
-- The plan file of what is planned reads back
pub mod ReadBack
-- The plan file of what is planned is accepted
pub mod Accepted
