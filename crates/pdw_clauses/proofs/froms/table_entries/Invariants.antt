use Rattle.std.proofs.Common.{◌≡◌, length, map, take}
use Rattle.std.specs.List.{enumerate_from}
use Rattle.pdw_walk.specs.Froms.{table_entry}
use Rattle.pdw_clauses.proofs.froms.table_entries.Given as goal

abbrev pub invariant-loop-column : goal.invariant-loop-column
invariant-loop-column l =
    (l.entries ≡ map (table_entry l.alias l.reference) (enumerate_from 0 (take l.column-index l.columns))) × (length l.entries ≡ l.column-index)
