-- Partial aggregates. The rows of a grouping may stand at several places; each place makes partial rows of its own, and of
-- all partial rows together the groups are finished.
use Rattle.std.specs.List.{AllByRecursion, flat_map, list_any}
use Rattle.std.specs.Prelude.{◌≡◌, ◌≢◌, ◌==◌, false, List, ◌∷◌, [], map, if◌then◌else◌}
use Rattle.pdw_base.specs.SameBag.{SameBag}
use Rattle.pdw_base.specs.Schema.{Env}
use Rattle.pdw_base.specs.declared.schema.ColId.{ColId}
use Rattle.pdw_base.specs.declared.value.Value.TheVariants.{Null}
use Rattle.pdw_base.specs.declared.value.Value.{Value}
use Rattle.pdw_expr.specs.Aggregate.{final_value, greatest, least, partial_value, present, summed, total, wide}
use Rattle.pdw_expr.specs.Env.{union}
use Rattle.pdw_expr.specs.Parts.{groups}
use Rattle.pdw_expr.specs.Rows.{argument, first_row, key_cells, key_of}
use Rattle.pdw_expr.specs.declared.agg.Agg.{Agg}
use Rattle.pdw_expr.specs.declared.agg.AggKind.TheVariants.{CountStar, Count, Sum, Min, Max}
use Rattle.pdw_expr.specs.declared.agg.AggKind.{AggKind}

-- ---- partial rows

-- in the column of each aggregate what it keeps of these rows: a count or a sum as a wide number, NULL for the sum of no
-- value, and the least or the greatest value itself
abbrev pub partial_cells : List Agg → List Env → Env
partial_cells [] rows c = Null
partial_cells (agg ∷ aggs) rows c = if agg.out.0 == c.0 then partial_value agg.kind (map (argument agg.arg) rows) else partial_cells aggs rows c

abbrev pub partial_row : List ColId → List Agg → List Env → Env
partial_row keys aggs rows = union (key_cells keys (first_row rows)) (partial_cells aggs rows)

-- a row for each list of key values that occurs; without keys exactly one, also over no row
abbrev pub partial_rows : List ColId → List Agg → List Env → List Env
partial_rows keys aggs rows = map (partial_row keys aggs) (groups keys (key_of keys) rows)

-- ---- final rows

-- what an aggregate keeps of all rows, by what it kept of each part: counts and sums are added modulo 2^128, and NULL, which
-- stands for a part without values, is left out
abbrev pub merged : AggKind → List Value → Value
merged CountStar values = wide (total values)
merged Count values = wide (total values)
merged Sum values = summed (present values)
merged Min values = least (present values)
merged Max values = greatest (present values)

-- a partial row has what its aggregate kept in the aggregate's own column
abbrev pub final_cells : List Agg → List Env → Env
final_cells [] rows c = Null
final_cells (agg ∷ aggs) rows c = if agg.out.0 == c.0 then final_value (merged agg.kind (map (λ row. row agg.out) rows)) else final_cells aggs rows c

abbrev pub final_row : List ColId → List Agg → List Env → Env
final_row keys aggs rows = union (key_cells keys (first_row rows)) (final_cells aggs rows)

-- the groups of the partial rows, by rising keys
abbrev pub final_rows : List ColId → List Agg → List Env → List Env
final_rows keys aggs rows = map (final_row keys aggs) (groups keys (key_of keys) rows)

-- ---- admitted partial rows

-- the rows of all parts in one bag
abbrev pub together : List (List Env) → List Env
together parts = flat_map (λ part. part) parts

-- the partial rows of one or more parts that add up to the input, in any order
pub record IsPartial (keys : List ColId) (aggs : List Agg) (input partials : List Env) : Type 0 where
  pub parts : List (List Env)
  pub some : parts ≢ []
  pub whole : SameBag (together parts) input
  pub rows : SameBag partials (flat_map (partial_rows keys aggs) parts)

-- no aggregate's column is a key
abbrev pub KeysApart : List ColId → List Agg → Type 0
KeysApart keys aggs = AllByRecursion (λ agg. list_any (λ key. key.0 == agg.out.0) keys ≡ false) aggs
