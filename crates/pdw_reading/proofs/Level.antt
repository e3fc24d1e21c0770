-- What the readings of parentheses at a level owe.
use Rattle.std.proofs.Common.{ℕ, Option, Some, None}
use Rattle.pdw_syntax.specs.Parentheses.{Parentheses}
use Rattle.pdw_syntax.specs.Rule.{Rule, ◌>>◌, ◌<$>◌, ◌or◌, pure, Enclosed}
use Rattle.pdw_syntax.specs.declared.expr.SqlExpr.{SqlExpr}
use Rattle.pdw_reading.specs.ReadExprs.{Nested}
use Rattle.pdw_reading.specs.declared.content.Among.{Among}
use Rattle.pdw_reading.specs.declared.content.Among.TheVariants as among
use Rattle.pdw_reading.specs.declared.content.Operand.{Operand}
use Rattle.pdw_reading.specs.declared.content.Operand.TheVariants as operand
use Rattle.pdw_reading.specs.declared.content.Source.{Source}
use Rattle.pdw_reading.specs.declared.content.Source.TheVariants as source
use Rattle.pdw_reading.proofs.Law.{Lawful}
use Rattle.pdw_reading.proofs.Closure.{always}

-- ( * ) or ( expr )
abbrev pub counted : Parentheses → Rule (Option SqlExpr)
counted g = (Enclosed g.star >> pure None) or (Some <$> Enclosed g.expr)

-- ( cond ) or ( expr )
abbrev pub operand_in : Parentheses → Rule Operand
operand_in g = (operand.Cond <$> Enclosed g.cond) or (operand.Expr <$> Enclosed g.expr)

-- ( query ) or ( expr { , expr } )
abbrev pub among_in : Parentheses → Rule Among
among_in g = (among.Query <$> Enclosed g.query) or (among.Exprs <$> Enclosed g.exprs)

-- ( query ) or ( tableref )
abbrev pub source_in : Parentheses → Rule Source
source_in g = (source.Query <$> Enclosed g.query) or (source.Tables <$> Enclosed g.tables)

-- g and k are the rules and the readings of a level, g' and k' those of the level above it
pub record LevelLaw (n : ℕ) (g g' : Parentheses) (k k' : Nested) : Type 0 where
  pub expr : Lawful n (Enclosed g.expr) (Enclosed g'.expr) k.expr k'.expr always
  pub counts : Lawful n (counted g) (counted g') k.counted k'.counted always
  pub operands : Lawful n (operand_in g) (operand_in g') k.operand k'.operand always
  pub amongs : Lawful n (among_in g) (among_in g') k.among k'.among always
  pub query : Lawful n (Enclosed g.query) (Enclosed g'.query) k.query k'.query always
  pub sources : Lawful n (source_in g) (source_in g') k.source k'.source always
