-- The bytes up to the first that does not pass a test
pub mod Runs
-- The pieces that the bytes begin with
pub mod PieceLemmas
-- What digits write
pub mod NumberLemmas
-- A text in quotes that is too long
pub mod QuotedLemmas
pub mod Utf8Lemmas
-- A script that is read up to a place
pub mod ReadLemmas
-- The piece or fault that the bytes begin with, as one function of them
pub mod Reader
-- Bytes fall into pieces in one way up to their end or first fault
pub mod UniqueLemmas
