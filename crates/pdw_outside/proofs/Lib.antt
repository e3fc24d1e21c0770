-- Reading on behind what was taken
pub mod WholeLemmas
-- Writing on behind what was written
pub mod SinkLemmas
