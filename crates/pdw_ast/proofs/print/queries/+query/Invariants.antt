use Rattle.std.proofs.Common.{◌≡◌, ◌∷◌, map, take}
use Rattle.std.specs.List.{flat_map}
use Rattle.pdw_ast.specs.Puts as spelling
use Rattle.pdw_ast.specs.Puts.{puts}
use Rattle.pdw_ast.specs.Written.{key, sign}
use Rattle.pdw_lex.specs.declared.sign.Sign.TheVariants as s
use Rattle.pdw_ast.proofs.print.queries.+query.Given as goal

abbrev pub invariant-print_conds-loop-next : goal.invariant-print_conds-loop-next
invariant-print_conds-loop-next l = l.words ≡ puts l.initial.words (flat_map (λ part. key l.keyword ∷ part) (map spelling.cond (take l.next-index l.rest)))

abbrev pub invariant-print_table-loop-part : goal.invariant-print_table-loop-part
invariant-print_table-loop-part l = l.words ≡ puts l.initial.words (flat_map spelling.join (take l.part-index l.part-items))

abbrev pub invariant-print_tables-loop-next : goal.invariant-print_tables-loop-next
invariant-print_tables-loop-next l = l.words ≡ puts l.initial.words (flat_map (λ part. sign s.Comma ∷ part) (map spelling.table (take l.next-index l.rest)))
