-- How parentheses are read, by how many more of them may be open.
use Rattle.std.specs.Prelude.{ℕ, zero, suc}
use Rattle.std.specs.declared.alloc.Global.{Global}
use denote.Ref.{MutBor}
use Rattle.std.specs.Prelude.{List, Result}
use Rattle.pdw_lex.specs.declared.sign.Sign.TheVariants.{ParenOpen}
use Rattle.pdw_lex.specs.declared.token.Lexeme.{Lexeme}
use Rattle.pdw_syntax.specs.Lexemes.{is_sign}
use Rattle.pdw_reading.specs.declared.content.Content.{Content}
use Rattle.pdw_reading.specs.declared.content.Content.TheVariants as content
use Rattle.pdw_reading.specs.declared.content.Wanted.{Wanted}
use Rattle.pdw_reading.specs.declared.content.Wanted.TheVariants as wanted
use Rattle.pdw_reading.specs.declared.parse_error.Stop.{Stop}
use Rattle.pdw_reading.specs.Reading.{Reader, Reads, ◌<$>◌, closed, enclosed, take}
use Rattle.pdw_reading.specs.ReadExprs.{Nested, expr, counted}
use Rattle.pdw_reading.specs.ReadConds.{operand}
use Rattle.pdw_reading.specs.ReadQueries.{query, among, source}

abbrev pub none_nested : Nested
none_nested = record { expr = closed; counted = closed; operand = closed; among = closed; query = closed; source = closed }

abbrev pub nested_around : Nested → Nested
nested_around g = record { expr = enclosed (expr g); counted = enclosed (counted g); operand = enclosed (operand g); among = enclosed (among g); query = enclosed (query g); source = enclosed (source g) }

-- where so many more may be open
unfoldable pub nested : ℕ → Nested
nested zero = none_nested
nested (suc n) = nested_around (nested n)

-- the parenthesis that opens, where so many more may be open, and how many may be open inside
abbrev pub opening : ℕ → Reader ℕ
opening zero = closed
opening (suc n) = (λ u. n) <$> take (is_sign ParenOpen)

-- what is wanted in the parentheses
abbrev pub content_by : Nested → Wanted → Reader Content
content_by g wanted.Expr = content.Expr <$> g.expr
content_by g wanted.Counted = content.Counted <$> g.counted
content_by g wanted.Operand = content.Operand <$> g.operand
content_by g wanted.Among = content.Among <$> g.among
content_by g wanted.Query = content.Query <$> g.query
content_by g wanted.Source = content.Source <$> g.source

-- what is wanted, without its parentheses
abbrev pub inner_by : Nested → Wanted → Reader Content
inner_by g wanted.Expr = content.Expr <$> expr g
inner_by g wanted.Counted = content.Counted <$> counted g
inner_by g wanted.Operand = content.Operand <$> operand g
inner_by g wanted.Among = content.Among <$> among g
inner_by g wanted.Query = content.Query <$> query g
inner_by g wanted.Source = content.Source <$> source g

-- a function value that reads parentheses where so many more may be open
pub record Nests (depth : ℕ) (pre : Global → MutBor (List Lexeme) → ℕ → Wanted → Type 0)
    (post : Global → MutBor (List Lexeme) → ℕ → Wanted → Result Content Stop → MutBor (List Lexeme) → Type 0) : Type 0 where
  pub callable : (alloc : Global) (old : MutBor (List Lexeme)) (w : Wanted) → pre alloc old depth w
  pub reads : (alloc : Global) (old new : MutBor (List Lexeme)) (w : Wanted) (r : Result Content Stop) → post alloc old depth w r new
      → Reads (content_by (nested depth) w old.now) r new.now
