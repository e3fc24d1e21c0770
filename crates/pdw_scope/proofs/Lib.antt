-- The output columns of a name
pub mod OutputPlaces
-- The order keys of a query are judged alike whatever was walked before
pub mod Orders
