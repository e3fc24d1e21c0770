use Rattle.std.proofs.Common.{◌≡◌, ◌∷◌, map, take}
use Rattle.std.specs.List.{flat_map}
use Rattle.pdw_ast.specs.Puts.{puts}
use Rattle.pdw_ast.specs.Spelling as spec
use Rattle.pdw_ast.specs.Written.{sign}
use Rattle.pdw_lex.specs.declared.sign.Sign.TheVariants as s
use Rattle.pdw_ast.proofs.print.queries.print_group_clause.Given as goal

abbrev pub invariant-loop-next : goal.invariant-loop-next
invariant-loop-next l = l.words ≡ puts l.initial.words (flat_map (λ part. sign s.Comma ∷ part) (map spec.column_reference (take l.next-index l.rest)))
