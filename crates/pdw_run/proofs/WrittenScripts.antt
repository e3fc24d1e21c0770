-- The statements of a script are written whole.
use Rattle.std.proofs.Common.{◌≡◌, ℕ, List, true}
use Rattle.std.specs.List.{list_all}
use Rattle.pdw_syntax.specs.declared.statement.Statement.{Statement}
use Rattle.pdw_syntax.proofs.WrittenLaws.{lexed_script_is_written}
use Rattle.pdw_syntax.specs.Written.{statement_written}
use Rattle.pdw_run.specs.Reading.{IsScript}

pub IsScript-written : (script : List ℕ) (statements : List Statement) → IsScript script statements → list_all statement_written statements ≡ true
IsScript-written script statements says = lexed_script_is_written ((says.spelled).means).levels script says.tokens statements says.lexed ((says.spelled).means).spells
