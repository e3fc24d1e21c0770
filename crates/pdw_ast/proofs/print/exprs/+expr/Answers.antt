use Rattle.std.proofs.Common.{arith}
use Rattle.std.proofs.lemmas.Grind.{common_steps}
use Rattle.pdw_ast.proofs.PutExprLemmas.{puts-chain}
use Rattle.pdw_ast.proofs.print.exprs.+expr.Goals as goal

pub print_expr-returns-after-loop-link : goal.print_expr-returns-after-loop-link
print_expr-returns-after-loop-link t c = grind (arith, common_steps, puts-chain c.args.words.now c.in-Chain.first c.in-Chain.rest)
