-- Rows stand for the environments that they are made of, where the columns cover these.
use Rattle.std.proofs.Common.{◌≡◌, ◌==◌, ℕ, Bool, true, false, List, [], ◌∷◌, ◌++◌, map, slice_index_or, Option, Some, None, refl, sym, ap, ap₂, ◌∙◌, eqb-true, if◌then◌else◌}
use Rattle.pdw_algebra.specs.Schema.{IsSchemaOf, kind_at}
use Rattle.pdw_base.specs.Schema.{Columns, Env, cell, row_over}
use Rattle.pdw_base.specs.declared.schema.ColId.{ColId}
use Rattle.pdw_base.specs.declared.value.Kind.TheVariants as kind
use Rattle.pdw_base.specs.declared.value.Value.{Value}
use Rattle.pdw_base.specs.declared.value.Value.TheVariants.{Null}
use Rattle.pdw_interpreter.specs.Relation.{aligned, numbered}
use Rattle.pdw_expr.specs.Env.{or_else, union}
use Rattle.pdw_expr.specs.Rows.{item_value, projected, scanned}
use Rattle.pdw_expr.specs.declared.scalar.Scalar.{Scalar}

-- the environment gives NULL to every other column
abbrev pub Covers : Columns → Env → Type 0
Covers columns env = (c : ColId) → kind_at columns c ≡ None → env c ≡ Null

cell_over : (columns : Columns) (env : Env) (c : ColId) → (kind_at columns c ≡ None → env c ≡ Null) → cell columns (row_over columns env) c ≡ env c
cell_over [] env c outside = sym (outside refl)
cell_over (column ∷ columns) env c outside = by (column.0.0 == c.0) refl outside (cell_over columns env c)
  where
    by : (here : Bool) → (column.0.0 == c.0) ≡ here → ((if here then Some column.1 else kind_at columns c) ≡ None → env c ≡ Null)
        → ((kind_at columns c ≡ None → env c ≡ Null) → cell columns (row_over columns env) c ≡ env c)
        → (if here then env column.0 else cell columns (row_over columns env) c) ≡ env c
    by true here outside later = ap (λ n. env (record { 0 = n })) (eqb-true _ _ here)
    by false here outside later = later outside

pub read_back : (columns : Columns) (env : Env) → Covers columns env → cell columns (row_over columns env) ≡ env
read_back columns env covers = λ i c. cell_over columns env c (covers c) i

pub read_rows : {X : Type 0} (columns : Columns) (env : X → Env) → ((x : X) → Covers columns (env x)) → (xs : List X)
    → map (cell columns) (map (λ x. row_over columns (env x)) xs) ≡ map env xs
read_rows columns env covers [] = refl
read_rows columns env covers (x ∷ xs) = ap₂ (λ e es. e ∷ es) (read_back columns (env x) (covers x)) (read_rows columns env covers xs)

-- ---- what columns cover

pub covers_schema : {columns schema : Columns} (env : Env) → IsSchemaOf columns schema → Covers columns env → Covers schema env
covers_schema env schema covers c none = covers c (sym (schema.same c) ∙ none)

pub covers_cell : (columns : Columns) (row : List Value) → Covers columns (cell columns row)
covers_cell [] row c none = refl
covers_cell (column ∷ columns) [] c none = refl
covers_cell (column ∷ columns) (value ∷ row) c none = by (column.0.0 == c.0) none (covers_cell columns row c)
  where
    by : (here : Bool) → (if here then Some column.1 else kind_at columns c) ≡ None → (kind_at columns c ≡ None → cell columns row c ≡ Null)
        → (if here then value else cell columns row c) ≡ Null
    by true none later = cc
    by false none later = later none

none_left : (xs ys : Columns) (c : ColId) → kind_at (xs ++ ys) c ≡ None → kind_at xs c ≡ None
none_left [] ys c none = refl
none_left (x ∷ xs) ys c none = by (x.0.0 == c.0) none (none_left xs ys c)
  where
    by : (here : Bool) → (if here then Some x.1 else kind_at (xs ++ ys) c) ≡ None → (kind_at (xs ++ ys) c ≡ None → kind_at xs c ≡ None)
        → (if here then Some x.1 else kind_at xs c) ≡ None
    by true none later = none
    by false none later = later none

none_right : (xs ys : Columns) (c : ColId) → kind_at (xs ++ ys) c ≡ None → kind_at ys c ≡ None
none_right [] ys c none = none
none_right (x ∷ xs) ys c none = by (x.0.0 == c.0) none (none_right xs ys c)
  where
    by : (here : Bool) → (if here then Some x.1 else kind_at (xs ++ ys) c) ≡ None → (kind_at (xs ++ ys) c ≡ None → kind_at ys c ≡ None) → kind_at ys c ≡ None
    by true none later = cc
    by false none later = later none

pub covers_left : (xs ys : Columns) (env : Env) → Covers xs env → Covers (xs ++ ys) env
covers_left xs ys env covers c none = covers c (none_left xs ys c none)

pub covers_right : (xs ys : Columns) (env : Env) → Covers ys env → Covers (xs ++ ys) env
covers_right xs ys env covers c none = covers c (none_right xs ys c none)

pub covers_union : (xs ys : Columns) (a b : Env) → Covers xs a → Covers ys b → Covers (xs ++ ys) (union a b)
covers_union xs ys a b left right c none = λ i. or_else (left c (none_left xs ys c none) i) (right c (none_right xs ys c none) i)

-- ---- the rows of operators

abbrev scan_columns : List (ColId × ℕ) → Columns
scan_columns cols = map (λ col. numbered col.0) cols

covers_scan : (cols : List (ColId × ℕ)) (row : List Value) → Covers (scan_columns cols) (scanned cols row)
covers_scan [] row c none = refl
covers_scan (col ∷ cols) row c none = by (col.0.0 == c.0) none (covers_scan cols row c)
  where
    by : (here : Bool) → (if here then Some kind.Int else kind_at (scan_columns cols) c) ≡ None → (kind_at (scan_columns cols) c ≡ None → scanned cols row c ≡ Null)
        → (if here then slice_index_or row col.1 Null else scanned cols row c) ≡ Null
    by true none later = cc
    by false none later = later none

pub scanned_rows : (cols : List (ColId × ℕ)) (columns : Columns) → IsSchemaOf (scan_columns cols) columns → (rows : List (List Value))
    → map (cell columns) (map (λ row. row_over columns (scanned cols row)) rows) ≡ map (scanned cols) rows
scanned_rows cols columns schema = read_rows columns (scanned cols) (λ row. covers_schema (scanned cols row) schema (covers_scan cols row))

abbrev item_columns : List (ColId × Option Scalar) → Columns
item_columns items = map (λ item. numbered item.0) items

covers_items : (items : List (ColId × Option Scalar)) (row : Env) → Covers (item_columns items) (projected items row)
covers_items [] row c none = refl
covers_items (item ∷ items) row c none = by (item.0.0 == c.0) none (covers_items items row c)
  where
    by : (here : Bool) → (if here then Some kind.Int else kind_at (item_columns items) c) ≡ None → (kind_at (item_columns items) c ≡ None → projected items row c ≡ Null)
        → (if here then item_value row item.0 item.1 else projected items row c) ≡ Null
    by true none later = cc
    by false none later = later none

pub projected_rows : (items : List (ColId × Option Scalar)) (columns : Columns) → IsSchemaOf (item_columns items) columns → (own : Columns) (rows : List (List Value))
    → map (cell columns) (map (λ row. row_over columns (projected items (cell own row))) rows) ≡ map (λ row. projected items (cell own row)) rows
projected_rows items columns schema own =
    read_rows columns (λ row. projected items (cell own row)) (λ row. covers_schema (projected items (cell own row)) schema (covers_items items (cell own row)))

-- ---- the rows of one side

pub aligned_left : (left right columns : Columns) → IsSchemaOf (left ++ right) columns → (rows : List (List Value)) → map (cell columns) (map (aligned columns left) rows) ≡ map (cell left) rows
aligned_left left right columns schema =
    read_rows columns (cell left) (λ row. covers_schema (cell left row) schema (covers_left left right (cell left row) (covers_cell left row)))

pub aligned_right : (left right columns : Columns) → IsSchemaOf (left ++ right) columns → (rows : List (List Value)) → map (cell columns) (map (aligned columns right) rows) ≡ map (cell right) rows
aligned_right left right columns schema =
    read_rows columns (cell right) (λ row. covers_schema (cell right row) schema (covers_right left right (cell right row) (covers_cell right row)))

pub aligned_one : (left right columns : Columns) → IsSchemaOf (left ++ right) columns → (row : List Value) → cell columns (aligned columns left row) ≡ cell left row
aligned_one left right columns schema row = read_back columns (cell left row) (covers_schema (cell left row) schema (covers_left left right (cell left row) (covers_cell left row)))
