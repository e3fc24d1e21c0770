-- Groups of rows are groups of what the rows stand for.
use Rattle.std.proofs.Common.{◌≡◌, ◌==◌, ◌||◌, Bool, true, false, List, [], ◌∷◌, ◌++◌, map, filter, Some, None, refl, sym, ap, ap₂, ◌∙◌, if◌then◌else◌}
use Rattle.std.specs.List.{list_any}
use Rattle.pdw_algebra.specs.Schema.{IsSchemaOf, kind_at}
use Rattle.pdw_base.specs.Schema.{Columns, Env, cell, row_over}
use Rattle.pdw_base.specs.declared.schema.ColId.{ColId}
use Rattle.pdw_base.specs.declared.value.Kind.TheVariants as kind
use Rattle.pdw_base.specs.declared.value.Value.{Value}
use Rattle.pdw_base.specs.declared.value.Value.TheVariants.{Null}
use Rattle.pdw_interpreter.proofs.ColumnLemmas.{Covers, covers_schema, covers_union, read_rows}
use Rattle.pdw_interpreter.proofs.MapLemmas.{map-after, map-filter}
use Rattle.pdw_interpreter.specs.Relation.{aggregate_value, key_over, numbered}
use Rattle.pdw_expr.specs.Parts.{each_once, groups, parts, same_row}
use Rattle.pdw_expr.specs.Rows.{aggregate_cells, first_row, group_row, grouped, key_cells, key_of}
use Rattle.pdw_expr.specs.declared.agg.Agg.{Agg}

module _ {A B : Type 0} (f : A → B) (key : B → List Value) where
  map-members : (rows : List A) (keys : List (List Value))
      → map (map f) (map (λ k. filter (λ row. same_row (key (f row)) k) rows) keys) ≡ map (λ k. filter (λ row. same_row (key row) k) (map f rows)) keys
  map-members rows [] = refl
  map-members rows (k ∷ keys) =
      ap₂ (λ part parts. part ∷ parts) (map-filter f (λ row. same_row (key (f row)) k) (λ row. same_row (key row) k) (λ row. refl) rows) (map-members rows keys)

  map-parts : (rows : List A) → map (map f) (parts (λ row. key (f row)) rows) ≡ parts key (map f rows)
  map-parts rows =
      map-members rows (each_once (map (λ row. key (f row)) rows))
      ∙ ap (λ all. map (λ k. filter (λ row. same_row (key row) k) (map f rows)) (each_once all)) (sym (map-after f key rows))

  map-groups : {K : Type 0} (keys : List K) (rows : List A) → map (map f) (groups keys (λ row. key (f row)) rows) ≡ groups keys key (map f rows)
  map-groups [] rows = refl
  map-groups (k ∷ keys) rows = map-parts rows

-- ---- what the columns of a group cover

no_key : (keys : List ColId) (c : ColId) → kind_at (map numbered keys) c ≡ None → list_any (λ key. key.0 == c.0) keys ≡ false
no_key [] c none = refl
no_key (key ∷ keys) c none = by (key.0 == c.0) none (no_key keys c)
  where
    by : (here : Bool) → (if here then Some kind.Int else kind_at (map numbered keys) c) ≡ None → (kind_at (map numbered keys) c ≡ None → list_any (λ key. key.0 == c.0) keys ≡ false)
        → (here || list_any (λ key. key.0 == c.0) keys) ≡ false
    by true none later = cc
    by false none later = later none

covers_keys : (keys : List ColId) (row : Env) → Covers (map numbered keys) (key_cells keys row)
covers_keys keys row c none = ap (λ b. if b then row c else Null) (no_key keys c none)

abbrev aggregate_columns : List Agg → Columns
aggregate_columns aggs = map (λ agg. numbered agg.out) aggs

covers_aggregates : (aggs : List Agg) (rows : List Env) → Covers (aggregate_columns aggs) (aggregate_cells aggs rows)
covers_aggregates [] rows c none = refl
covers_aggregates (agg ∷ aggs) rows c none = by (agg.out.0 == c.0) none (covers_aggregates aggs rows c)
  where
    by : (here : Bool) → (if here then Some kind.Int else kind_at (aggregate_columns aggs) c) ≡ None → (kind_at (aggregate_columns aggs) c ≡ None → aggregate_cells aggs rows c ≡ Null)
        → (if here then aggregate_value agg rows else aggregate_cells aggs rows c) ≡ Null
    by true none later = cc
    by false none later = later none

covers_group : (keys : List ColId) (aggs : List Agg) (rows : List Env) → Covers (map numbered keys ++ aggregate_columns aggs) (group_row keys aggs rows)
covers_group keys aggs rows =
    covers_union (map numbered keys) (aggregate_columns aggs) (key_cells keys (first_row rows)) (aggregate_cells aggs rows) (covers_keys keys (first_row rows)) (covers_aggregates aggs rows)

pub grouped_rows : (keys : List ColId) (aggs : List Agg) (columns : Columns) → IsSchemaOf (map numbered keys ++ aggregate_columns aggs) columns → (own : Columns) (rows : List (List Value))
    → map (cell columns) (map (λ group. row_over columns (group_row keys aggs (map (cell own) group))) (groups keys (key_over own keys) rows)) ≡ grouped keys aggs (map (cell own) rows)
grouped_rows keys aggs columns schema own rows =
    let all = groups keys (key_over own keys) rows in
    let of_group : List (List Value) → Env = λ group. group_row keys aggs (map (cell own) group) in
    read_rows columns of_group (λ group. covers_schema (of_group group) schema (covers_group keys aggs (map (cell own) group))) all
    ∙ sym (map-after (map (cell own)) (group_row keys aggs) all)
    ∙ ap (map (group_row keys aggs)) (map-groups (cell own) (key_of keys) keys rows)
