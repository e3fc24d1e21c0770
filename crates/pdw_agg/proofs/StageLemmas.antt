-- The rows of the three stages are those of the definitions, and positional rows stand for them.
use Rattle.std.proofs.Common.{◌≡◌, ◌==◌, ◌||◌, Bool, true, false, List, [], ◌∷◌, ◌++◌, map, Some, None, refl, sym, ap, ◌∙◌, eqb-true, if◌then◌else◌}
use Rattle.std.specs.List.{list_any}
use Rattle.pdw_agg.proofs.MapLemmas.{map-after}
use Rattle.pdw_agg.specs.Stage.{cell_value, made_row, made_rows, value_cells}
use Rattle.pdw_agg.specs.declared.stage.Stage.{Stage}
use Rattle.pdw_agg.specs.declared.stage.Stage.TheVariants.{Whole, Partial, Final}
use Rattle.pdw_algebra.proofs.PlacedLemmas.{rising-schema}
use Rattle.pdw_algebra.specs.Schema.{kind_at, rising}
use Rattle.pdw_base.specs.Schema.{Columns, Env, cell, row_over}
use Rattle.pdw_base.specs.declared.schema.ColId.{ColId}
use Rattle.pdw_base.specs.declared.value.Kind.{Kind}
use Rattle.pdw_base.specs.declared.value.Value.TheVariants.{Null}
use Rattle.pdw_expr.specs.Env.{or_else}
use Rattle.pdw_expr.specs.Parts.{groups}
use Rattle.pdw_expr.specs.Rows.{aggregate_cells, first_row, grouped, key_cells, key_of}
use Rattle.pdw_expr.specs.declared.agg.Agg.{Agg}
use Rattle.pdw_partial.specs.Partial.{final_cells, final_rows, partial_cells, partial_rows}

-- ---- the three stages

module _ (rows : List Env) (c : ColId) where
  whole-cells : (aggs : List Agg) → value_cells Whole aggs rows c ≡ aggregate_cells aggs rows c
  whole-cells [] = refl
  whole-cells (agg ∷ aggs) = ap (λ more. if agg.out.0 == c.0 then cell_value Whole agg rows else more) (whole-cells aggs)

  partial-cells : (aggs : List Agg) → value_cells Partial aggs rows c ≡ partial_cells aggs rows c
  partial-cells [] = refl
  partial-cells (agg ∷ aggs) = ap (λ more. if agg.out.0 == c.0 then cell_value Partial agg rows else more) (partial-cells aggs)

  final-cells : (aggs : List Agg) → value_cells Final aggs rows c ≡ final_cells aggs rows c
  final-cells [] = refl
  final-cells (agg ∷ aggs) = ap (λ more. if agg.out.0 == c.0 then cell_value Final agg rows else more) (final-cells aggs)

module _ (keys : List ColId) (aggs : List Agg) (rows : List Env) where
  pub whole-rows : made_rows Whole keys aggs rows ≡ grouped keys aggs rows
  whole-rows = λ i. map (λ group c. or_else (key_cells keys (first_row group) c) (whole-cells group c aggs i)) (groups keys (key_of keys) rows)

  pub partials-rows : made_rows Partial keys aggs rows ≡ partial_rows keys aggs rows
  partials-rows = λ i. map (λ group c. or_else (key_cells keys (first_row group) c) (partial-cells group c aggs i)) (groups keys (key_of keys) rows)

  pub finals-rows : made_rows Final keys aggs rows ≡ final_rows keys aggs rows
  finals-rows = λ i. map (λ group c. or_else (key_cells keys (first_row group) c) (final-cells group c aggs i)) (groups keys (key_of keys) rows)

-- ---- what columns cover

-- the environment gives NULL to every other column
abbrev Covers : Columns → Env → Type 0
Covers columns env = (c : ColId) → kind_at columns c ≡ None → env c ≡ Null

cell_over : (columns : Columns) (env : Env) (c : ColId) → (kind_at columns c ≡ None → env c ≡ Null) → cell columns (row_over columns env) c ≡ env c
cell_over [] env c outside = sym (outside refl)
cell_over (column ∷ columns) env c outside = by (column.0.0 == c.0) refl outside (cell_over columns env c)
  where
    by : (here : Bool) → (column.0.0 == c.0) ≡ here → ((if here then Some column.1 else kind_at columns c) ≡ None → env c ≡ Null)
        → ((kind_at columns c ≡ None → env c ≡ Null) → cell columns (row_over columns env) c ≡ env c)
        → (if here then env column.0 else cell columns (row_over columns env) c) ≡ env c
    by true here outside later = ap (λ n. env (record { 0 = n })) (eqb-true _ _ here)
    by false here outside later = later outside

read_back : (columns : Columns) (env : Env) → Covers columns env → cell columns (row_over columns env) ≡ env
read_back columns env covers = λ i c. cell_over columns env c (covers c) i

none_left : (xs ys : Columns) (c : ColId) → kind_at (xs ++ ys) c ≡ None → kind_at xs c ≡ None
none_left [] ys c none = refl
none_left (x ∷ xs) ys c none = by (x.0.0 == c.0) none (none_left xs ys c)
  where
    by : (here : Bool) → (if here then Some x.1 else kind_at (xs ++ ys) c) ≡ None → (kind_at (xs ++ ys) c ≡ None → kind_at xs c ≡ None)
        → (if here then Some x.1 else kind_at xs c) ≡ None
    by true none later = none
    by false none later = later none

none_right : (xs ys : Columns) (c : ColId) → kind_at (xs ++ ys) c ≡ None → kind_at ys c ≡ None
none_right [] ys c none = none
none_right (x ∷ xs) ys c none = by (x.0.0 == c.0) none (none_right xs ys c)
  where
    by : (here : Bool) → (if here then Some x.1 else kind_at (xs ++ ys) c) ≡ None → (kind_at (xs ++ ys) c ≡ None → kind_at ys c ≡ None) → kind_at ys c ≡ None
    by true none later = cc
    by false none later = later none

-- columns of the keys and of the aggregates, of any kinds
module _ (key_kind : ColId → Kind) (own_kind : Agg → Kind) where
  abbrev key_columns : List ColId → Columns
  key_columns keys = map (λ key. (key, key_kind key)) keys

  abbrev own_columns : List Agg → Columns
  own_columns aggs = map (λ agg. (agg.out, own_kind agg)) aggs

  no_key : (keys : List ColId) (c : ColId) → kind_at (key_columns keys) c ≡ None → list_any (λ key. key.0 == c.0) keys ≡ false
  no_key [] c none = refl
  no_key (key ∷ keys) c none = by (key.0 == c.0) none (no_key keys c)
    where
      by : (here : Bool) → (if here then Some (key_kind key) else kind_at (key_columns keys) c) ≡ None → (kind_at (key_columns keys) c ≡ None → list_any (λ key. key.0 == c.0) keys ≡ false)
          → (here || list_any (λ key. key.0 == c.0) keys) ≡ false
      by true none later = cc
      by false none later = later none

  no_value : (stage : Stage) (aggs : List Agg) (rows : List Env) → Covers (own_columns aggs) (value_cells stage aggs rows)
  no_value stage [] rows c none = refl
  no_value stage (agg ∷ aggs) rows c none = by (agg.out.0 == c.0) none (no_value stage aggs rows c)
    where
      by : (here : Bool) → (if here then Some (own_kind agg) else kind_at (own_columns aggs) c) ≡ None → (kind_at (own_columns aggs) c ≡ None → value_cells stage aggs rows c ≡ Null)
          → (if here then cell_value stage agg rows else value_cells stage aggs rows c) ≡ Null
      by true none later = cc
      by false none later = later none

  module _ (stage : Stage) (keys : List ColId) (aggs : List Agg) where
    covers_row : (rows : List Env) → Covers (key_columns keys ++ own_columns aggs) (made_row stage keys aggs rows)
    covers_row rows c none =
        let other = no_key keys c (none_left (key_columns keys) (own_columns aggs) c none) in
        λ i. or_else (if other i then first_row rows c else Null) (no_value stage aggs rows c (none_right (key_columns keys) (own_columns aggs) c none) i)

    abbrev schema : Columns
    schema = rising (key_columns keys ++ own_columns aggs)

    read_row : (rows : List Env) → cell schema (row_over schema (made_row stage keys aggs rows)) ≡ made_row stage keys aggs rows
    read_row rows =
        read_back schema (made_row stage keys aggs rows)
        (λ c none. covers_row rows c (sym ((rising-schema (key_columns keys ++ own_columns aggs)).same c) ∙ none))

    -- made rows are read back
    pub read_rows : (rows : List Env) → map (cell schema) (map (row_over schema) (made_rows stage keys aggs rows)) ≡ made_rows stage keys aggs rows
    read_rows rows =
        map-after (row_over schema) (cell schema) (made_rows stage keys aggs rows)
        ∙ map-after (made_row stage keys aggs) (λ env. cell schema (row_over schema env)) (groups keys (key_of keys) rows)
        ∙ (λ i. map (λ group. read_row group i) (groups keys (key_of keys) rows))
