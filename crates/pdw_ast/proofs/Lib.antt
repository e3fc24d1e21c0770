-- Lexemes that a script can have, and tokens whose spelling says what they say
pub mod Valid
-- Written tokens that are a text of a rule, and are well spelled where the tokens of another text are valid
pub mod Reprint
-- Canonical tokens spell what they say
pub mod ReprintTokens
-- Rules of one lexeme, and their canonical tokens
pub mod ReprintOne
-- The canonical spelling, one equation for each variant
pub mod ReprintEquations
-- Value expressions mean what they mean as they are spelled
pub mod ReprintExprs
-- Search conditions mean what they mean as they are spelled
pub mod ReprintConds
-- What stands after FROM means what it means as it is spelled
pub mod ReprintTables
-- Queries mean what they mean as they are spelled
pub mod ReprintQueries
-- Statements mean what they mean as they are spelled
pub mod ReprintStatements
-- The lexemes of a script's tokens are valid
pub mod ReprintValid
-- Well spelled tokens with spaces between them, and ` ;` behind them, lex to what they say
pub mod SpacedPieces
-- What a statement's canonical spelling means
pub mod PrintLaw
-- What a text is to which tokens were put
pub mod PutLemmas
-- The tokens of a chain
pub mod PutExprLemmas
-- The tokens of a first table and of what is joined to it
pub mod PutTableLemmas
