use Rattle.std.proofs.Common.{◌≡◌, [], drop, map}
use Rattle.pdw_walk.specs.Items.{repeated}
use Rattle.pdw_clauses.proofs.select_list.repeated.Given as goal

abbrev pub invariant-loop-column : goal.invariant-loop-column
invariant-loop-column l =
    repeated l.names (map (λ column. column.name) (drop l.column-index l.columns)) ≡ repeated [] (map (λ column. column.name) l.fn.columns)
