use Rattle.std.proofs.Common.{◌≡◌, sym, subst, List, ℕ, arith}
use Rattle.std.proofs.lemmas.Grind.{common_steps}
use Rattle.pdw_ast.proofs.PrintLaw.{canonical_means}
use Rattle.pdw_ast.proofs.PutLemmas.{puts-spaced}
use Rattle.pdw_ast.specs.Prints.{MeansAlone}
use Rattle.pdw_ast.specs.Spelling.{canonical, statement}
use Rattle.pdw_ast.proofs.print.statements.print_statement.Goals as goal

pub returns-clause-spelled : goal.returns-clause-spelled
returns-clause-spelled c = grind (arith, common_steps, puts-spaced (statement c.args.statement.now))

pub returns-clause-means : goal.returns-clause-means
returns-clause-means c = λ written.
    let spelled : c.into_bytes.result.items ≡ canonical c.args.statement.now = grind (arith, common_steps, puts-spaced (statement c.args.statement.now)) in
    subst (λ (bytes : List ℕ). MeansAlone bytes c.args.statement.now) (sym spelled) (canonical_means c.args.statement.now written)
