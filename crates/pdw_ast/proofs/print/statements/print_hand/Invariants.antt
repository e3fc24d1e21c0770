use Rattle.std.proofs.Common.{◌≡◌, ◌∷◌, take}
use Rattle.std.specs.List.{flat_map}
use Rattle.pdw_ast.specs.Puts.{puts}
use Rattle.pdw_ast.specs.Spelling as spec
use Rattle.pdw_ast.specs.Written.{sign}
use Rattle.pdw_lex.specs.declared.sign.Sign.TheVariants as s
use Rattle.pdw_ast.proofs.print.statements.print_hand.Given as goal

abbrev pub invariant-loop-column : goal.invariant-loop-column
invariant-loop-column l = l.words ≡ puts l.initial.words (flat_map (λ c. sign s.Comma ∷ spec.column_statistics c) (take l.column-index l.columns))
