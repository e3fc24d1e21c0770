use Rattle.std.proofs.Common.{◌≡◌, ◌∷◌, take}
use Rattle.std.specs.List.{flat_map}
use Rattle.pdw_ast.specs.Puts.{puts}
use Rattle.pdw_ast.specs.Spelling as spec
use Rattle.pdw_ast.proofs.print.exprs.+expr.Given as goal

abbrev pub invariant-print_expr-loop-link : goal.invariant-print_expr-loop-link
invariant-print_expr-loop-link l = l.words ≡ puts l.initial.words (flat_map (λ link. spec.operator link.0 ∷ spec.expr link.1) (take l.link-index l.link-items))
