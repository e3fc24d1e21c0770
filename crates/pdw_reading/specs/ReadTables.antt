-- How FROM is read.
use Rattle.std.specs.Prelude.{ℕ, Bool, List, Option, Some, None, if◌then◌else◌}
use Rattle.pdw_lex.specs.declared.keyword.Keyword.TheVariants.{KwAs, KwCross, KwInner, KwJoin, KwOn, KwOuter}
use Rattle.pdw_lex.specs.declared.token.Lexeme.{Lexeme}
use Rattle.pdw_lex.specs.declared.token.Lexeme.TheVariants as lexeme
use Rattle.pdw_syntax.specs.Lexemes.{is_key, name_of, outer_of}
use Rattle.pdw_syntax.specs.declared.query.JoinWord.{JoinWord}
use Rattle.pdw_syntax.specs.declared.query.JoinWord.TheVariants.{Cross, Inner}
use Rattle.pdw_syntax.specs.declared.query.JoinPart.{JoinPart, roll-JoinPart}
use Rattle.pdw_syntax.specs.declared.query.Primary.{Primary}
use Rattle.pdw_syntax.specs.declared.query.Primary.TheVariants as p
use Rattle.pdw_syntax.specs.declared.query.TableRef.{TableRef, roll-TableRef}
use Rattle.pdw_reading.specs.declared.content.Source.{Source}
use Rattle.pdw_reading.specs.declared.content.Source.TheVariants as source
use Rattle.pdw_reading.specs.Reading.{Reader, ◌>>=◌, ◌>>◌, ◌<$>◌, pure, by_next, advance, meaning_of, take, eat, many}
use Rattle.pdw_reading.specs.ReadExprs.{Nested, listed}
use Rattle.pdw_reading.specs.ReadConds.{cond}

-- [ AS ] name
unfoldable pub called : Reader (List ℕ)
called = eat (is_key KwAs) >> take name_of

abbrev pub alias_by : Bool → Option Lexeme → Reader (Option (List ℕ))
alias_by as_written (Some (lexeme.Name n)) = advance >> pure (Some n)
alias_by as_written _ = if as_written then Some <$> take name_of else pure None

-- [ [ AS ] name ]
unfoldable pub alias : Reader (Option (List ℕ))
alias = eat (is_key KwAs) >>= (λ as_written. by_next (alias_by as_written))

-- the side of an outer join, after which OUTER may stand
abbrev pub outer_by : Option JoinWord → Reader (Option JoinWord)
outer_by None = pure None
outer_by (Some side) = advance >> (eat (is_key KwOuter) >> pure (Some side))

-- which join comes next, if any, up to its word JOIN
abbrev pub join_word_by : Option Lexeme → Reader (Option JoinWord)
join_word_by (Some (lexeme.Key KwCross)) = advance >> pure (Some Cross)
join_word_by (Some (lexeme.Key KwInner)) = advance >> pure (Some Inner)
join_word_by (Some (lexeme.Key KwJoin)) = pure (Some Inner)
join_word_by o = outer_by (meaning_of outer_of o)

unfoldable pub join_word : Reader (Option JoinWord)
join_word = by_next join_word_by

module _ (g : Nested) where
  abbrev pub after_source : Source → Reader Primary
  after_source (source.Query q) = p.Derived q <$> called
  after_source (source.Tables t) = pure (p.Paren t)

  abbrev pub primary_by : Option Lexeme → Reader Primary
  primary_by (Some (lexeme.Name table)) = advance >> (p.Named table <$> alias)
  primary_by _ = g.source >>= after_source

  unfoldable pub primary : Reader Primary
  primary = by_next primary_by

  -- a join that has a condition, from that on
  abbrev pub joined_on : JoinWord → Primary → Reader JoinPart
  joined_on word right = (λ on. roll-JoinPart (record { word = word; right = right; on = Some on })) <$> cond g

  -- after the word CROSS, or the kind of another join
  abbrev pub joined_by : JoinWord → Primary → Reader JoinPart
  joined_by Cross right = pure (roll-JoinPart (record { word = Cross; right = right; on = None }))
  joined_by word right = take (is_key KwOn) >> joined_on word right

  unfoldable pub joined : JoinWord → Reader JoinPart
  joined word = take (is_key KwJoin) >> (primary >>= joined_by word)

  abbrev pub join_of : Option JoinWord → Reader (Option JoinPart)
  join_of None = pure None
  join_of (Some word) = Some <$> joined word

  -- the join that comes next, if any
  unfoldable pub join : Reader (Option JoinPart)
  join = join_word >>= join_of

  unfoldable pub table_reference : Reader TableRef
  table_reference = do
    first ← primary
    joins ← many join
    pure (roll-TableRef (record { first = first; joins = joins }))

  unfoldable pub tables : Reader (List TableRef)
  tables = listed table_reference
