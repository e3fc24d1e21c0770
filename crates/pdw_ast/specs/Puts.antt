-- How a text grows by tokens, one space between each two.
use Rattle.std.specs.Prelude.{ℕ, Bool, true, List, ◌++◌, codes, fold, if◌then◌else◌}
use Rattle.pdw_ast.specs.Spelling.{Spelling, primary_step, cond_step, join_step, query_step, table_step}
use Rattle.pdw_syntax.specs.declared.query.JoinPart.{JoinPart}
use Rattle.pdw_syntax.specs.declared.query.Primary.{Primary}
use Rattle.pdw_syntax.specs.declared.query.Primary.TheFolds.{fold-Primary, fold-SqlCond, fold-JoinPart, fold-TableRef}
use Rattle.pdw_syntax.specs.declared.query.SqlCond.{SqlCond}
use Rattle.pdw_syntax.specs.declared.query.TableRef.{TableRef}

-- a text, and whether it has a token
abbrev pub Line : Type 0
Line = List ℕ × Bool

-- one token more
unfoldable pub put : Line → List ℕ → Line
put line token = ((if line.1 then line.0 ++ codes " " else line.0) ++ token, true)

-- tokens more
abbrev pub puts : Line → Spelling → Line
puts = fold (λ line w. put line w.bytes)

-- ---- the spelling of a query's parts

abbrev pub primary : Primary → Spelling
primary = fold-Primary Spelling Spelling Spelling Spelling Spelling primary_step cond_step join_step query_step table_step

abbrev pub cond : SqlCond → Spelling
cond = fold-SqlCond Spelling Spelling Spelling Spelling Spelling primary_step cond_step join_step query_step table_step

abbrev pub join : JoinPart → Spelling
join = fold-JoinPart Spelling Spelling Spelling Spelling Spelling primary_step cond_step join_step query_step table_step

abbrev pub table : TableRef → Spelling
table = fold-TableRef Spelling Spelling Spelling Spelling Spelling primary_step cond_step join_step query_step table_step
