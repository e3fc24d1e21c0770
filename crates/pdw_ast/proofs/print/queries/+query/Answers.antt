use Rattle.std.proofs.Common.{arith}
use Rattle.std.proofs.lemmas.Grind.{common_steps}
use Rattle.pdw_ast.proofs.PutTableLemmas.{puts-table}
use Rattle.pdw_ast.proofs.print.queries.+query.Goals as goal

pub print_table-returns : goal.print_table-returns
print_table-returns t c = grind (arith, common_steps, puts-table c.args.words.now c.args.table.now)
