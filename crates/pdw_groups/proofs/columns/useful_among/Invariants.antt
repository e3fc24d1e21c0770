use Rattle.std.proofs.Common.{◌≡◌, ◌==◌, take, filter}
use Rattle.std.specs.List.{list_any}
use Rattle.pdw_groups.specs.Columns.{numbers_of}
use Rattle.pdw_groups.proofs.columns.useful_among.Given as goal

abbrev pub invariant-loop-column : goal.invariant-loop-column
invariant-loop-column l = l.some ≡ filter (λ c. list_any (λ u. u.0 == c.0) l.useful) (numbers_of (take l.column-index l.schema))
