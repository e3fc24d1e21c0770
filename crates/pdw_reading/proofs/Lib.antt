-- what a reading owes to its rule
pub mod Law
-- how the rules that are made of rules relate to each other
pub mod Rules
-- what comes next, and how many parentheses are open
pub mod Depths
-- readings that are made of lawful readings are lawful: one after the other
pub mod Closure
-- what may be left out, and any number of texts
pub mod ClosureMany
-- parentheses
pub mod ClosureParentheses
-- readings that agree, and those that go by the next lexeme
pub mod ClosureNext
-- readings that change what was read, or have seen their first lexeme before
pub mod MoreClosure
-- what a text begins with
pub mod Leads
-- readings that go by a test of the next lexeme
pub mod Steps
-- what may follow a text without prolonging it
pub mod Stops
-- what the readings of parentheses at a level owe
pub mod Level
-- value expressions
pub mod ExprLaws
-- what value expressions begin with
pub mod ExprBegins
-- predicates, and what begins a condition
pub mod PredicateLaws
-- conditions
pub mod CondLaws
-- FROM
pub mod TableLaws
-- queries and SELECT
pub mod QueryLaws
-- statements and scripts
pub mod StatementLaws
-- the readings of parentheses at each level
pub mod LevelLaws
-- what reading a script tells of the texts of the grammar
pub mod PlaceLaws
-- places of faults
pub mod FaultLemmas
