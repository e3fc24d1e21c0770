-- What the library's `parse` reads in a field is the number of the field
pub mod NumberLemmas
-- The first fault of a part is that of the whole, field by field and record by record
pub mod FaultLemmas
-- The rows of records without a fault fit the table
pub mod FitLemmas
-- Single reads of a text, one after the other, give its records
pub mod ReadLemmas
