use Rattle.std.proofs.Common.{◌≡◌, filter, take}
use Rattle.pdw_exec.specs.Relation.{meets_over}
use Rattle.pdw_exec.proofs.filters.kept.Given as goal

abbrev pub invariant-loop-row : goal.invariant-loop-row
invariant-loop-row l = l.kept ≡ filter (meets_over l.columns l.conds) (take l.row-index l.rows)
