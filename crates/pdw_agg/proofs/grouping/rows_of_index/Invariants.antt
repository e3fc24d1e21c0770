use Rattle.std.proofs.Common.{◌≡◌, map, take}
use Rattle.pdw_agg.specs.Made as made_spec
use Rattle.pdw_agg.proofs.grouping.rows_of_index.Given as goal

abbrev pub invariant-loop-place : goal.invariant-loop-place
invariant-loop-place l = l.bag ≡ map (made_spec.row_of l.made l.stage l.keys l.aggs l.s) (take l.place (map (λ entry. entry.1) l.index))
