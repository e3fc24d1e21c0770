-- keys are compared as rows are
pub mod KeyLemmas
-- the map that keeps an index, with a row more
pub mod IndexLemmas
-- an index with a row more
pub mod PutLemmas
-- a key by places
pub mod PlaceLaws
