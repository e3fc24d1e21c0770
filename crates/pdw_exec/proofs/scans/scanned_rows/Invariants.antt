use Rattle.std.proofs.Common.{◌≡◌, filter, map, take}
use Rattle.pdw_exec.specs.Relation.{meets_over}
use Rattle.pdw_keys.specs.Places.{key_at}
use Rattle.pdw_exec.proofs.scans.scanned_rows.Given as goal

abbrev pub invariant-loop-row : goal.invariant-loop-row
invariant-loop-row l = l.kept ≡ filter (meets_over l.columns l.conds) (map (key_at l.places) (take l.row-index l.rows))
