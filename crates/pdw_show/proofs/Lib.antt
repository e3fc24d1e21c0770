-- two blanks more for each node above
pub mod Indents
-- steps by their numbers
pub mod Steps
-- texts that were worked out by hand
mod AnswersByHand
mod RefusalsByHand
