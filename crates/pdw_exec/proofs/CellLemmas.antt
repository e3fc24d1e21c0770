-- Rows stand for the environments that they are made of, where the columns cover these.
use Rattle.std.proofs.Common.{◌≡◌, ◌==◌, ◌||◌, ℕ, zero, suc, Bool, true, false, true≢false, List, [], ◌∷◌, ◌++◌, map, slice_get, slice_index_or, Option, Some, None, refl, sym, ap, ap₂, ◌∙◌, subst, eqb-true, if◌then◌else◌}
use Rattle.std.specs.List.{AllByRecursion}
use Rattle.std.specs.Option.{unwrap_or}
use Rattle.pdw_algebra.proofs.AllLaws.{all-map}
use Rattle.pdw_algebra.proofs.PlacedLemmas.{rising-schema}
use Rattle.pdw_algebra.proofs.Products.{all-filter, inner-crossed, within-crossed, within-full_joined, within-left_joined}
use Rattle.pdw_algebra.specs.Schema.{kind_at, rising}
use Rattle.pdw_algebra.specs.Shape.{has_number, item_column, scan_column}
use Rattle.pdw_algebra.specs.Within.{AllWithin, IsWithin}
use Rattle.pdw_base.specs.Schema.{Columns, Env, cell, row_over}
use Rattle.pdw_base.specs.declared.schema.ColId.{ColId}
use Rattle.pdw_base.specs.declared.value.Value.TheVariants.{Null}
use Rattle.pdw_base.specs.declared.value.Value.{Value}
use Rattle.pdw_catalog.specs.declared.table.Column.{Column}
use Rattle.pdw_exec.specs.Scans.{place_in, places_in}
use Rattle.pdw_expr.specs.Env.{union}
use Rattle.pdw_expr.specs.Join.{crossed}
use Rattle.pdw_expr.specs.Rows.{item_value, joined, meets, projected, scanned}
use Rattle.pdw_expr.specs.declared.agg.JoinKind.TheVariants as kind
use Rattle.pdw_expr.specs.declared.agg.JoinKind.{JoinKind}
use Rattle.pdw_expr.specs.declared.cond.Cond.{Cond}
use Rattle.pdw_expr.specs.declared.scalar.Scalar.{Scalar}
use Rattle.pdw_join.specs.Joined.{joined_columns, joined_rows}
use Rattle.pdw_keys.specs.Places.{key_at, value_at}

-- the environment gives NULL to every other column
abbrev Covers : Columns → Env → Type 0
Covers columns env = (c : ColId) → kind_at columns c ≡ None → env c ≡ Null

cell_over : (columns : Columns) (env : Env) (c : ColId) → (kind_at columns c ≡ None → env c ≡ Null) → cell columns (row_over columns env) c ≡ env c
cell_over [] env c outside = sym (outside refl)
cell_over (column ∷ columns) env c outside = by (column.0.0 == c.0) refl outside (cell_over columns env c)
  where
    by : (here : Bool) → (column.0.0 == c.0) ≡ here → ((if here then Some column.1 else kind_at columns c) ≡ None → env c ≡ Null)
        → ((kind_at columns c ≡ None → env c ≡ Null) → cell columns (row_over columns env) c ≡ env c)
        → (if here then env column.0 else cell columns (row_over columns env) c) ≡ env c
    by true here outside later = ap (λ n. env (record { 0 = n })) (eqb-true _ _ here)
    by false here outside later = later outside

read_back : (columns : Columns) (env : Env) → Covers columns env → cell columns (row_over columns env) ≡ env
read_back columns env covers = λ i c. cell_over columns env c (covers c) i

covers-rising : (columns : Columns) (env : Env) → Covers columns env → Covers (rising columns) env
covers-rising columns env covers c none = covers c (sym ((rising-schema columns).same c) ∙ none)

-- ---- scans

covers-scan : (columns : List Column) (cols : List (ColId × ℕ)) (row : List Value) → Covers (map (scan_column columns) cols) (scanned cols row)
covers-scan columns [] row c none = refl
covers-scan columns (col ∷ cols) row c none = by (col.0.0 == c.0) none (covers-scan columns cols row c)
  where
    by : (here : Bool) → (if here then Some (scan_column columns col).1 else kind_at (map (scan_column columns) cols) c) ≡ None
        → (kind_at (map (scan_column columns) cols) c ≡ None → scanned cols row c ≡ Null)
        → (if here then slice_index_or row col.1 Null else scanned cols row c) ≡ Null
    by true none later = cc
    by false none later = later none

value-there : (row : List Value) (place : ℕ) → unwrap_or (slice_get row place) Null ≡ slice_index_or row place Null
value-there [] place = refl
value-there (value ∷ row) zero = refl
value-there (value ∷ row) (suc place) = value-there row place

place-cell : (cols : List (ColId × ℕ)) (c : ColId) (row : List Value) → value_at row (place_in cols c) ≡ scanned cols row c
place-cell [] c row = refl
place-cell (col ∷ cols) c row = by (col.0.0 == c.0) (place-cell cols c row)
  where
    by : (here : Bool) → value_at row (place_in cols c) ≡ scanned cols row c
        → value_at row (if here then Some col.1 else place_in cols c) ≡ (if here then slice_index_or row col.1 Null else scanned cols row c)
    by true later = value-there row col.1
    by false later = later

pub places-row : (cols : List (ColId × ℕ)) (columns : Columns) (row : List Value) → key_at (places_in cols columns) row ≡ row_over columns (scanned cols row)
places-row cols [] row = refl
places-row cols (column ∷ columns) row = ap₂ (λ x xs. x ∷ xs) (place-cell cols column.0 row) (places-row cols columns row)

module _ (columns : List Column) (cols : List (ColId × ℕ)) where
  abbrev scan_schema : Columns
  scan_schema = rising (map (scan_column columns) cols)

  pub scanned-back : (rows : List (List Value)) → map (cell scan_schema) (map (key_at (places_in cols scan_schema)) rows) ≡ map (scanned cols) rows
  scanned-back [] = refl
  scanned-back (row ∷ rows) =
      ap₂ (λ x xs. x ∷ xs)
      (ap (cell scan_schema) (places-row cols scan_schema row) ∙ read_back scan_schema (scanned cols row) (covers-rising (map (scan_column columns) cols) (scanned cols row) (covers-scan columns cols row)))
      (scanned-back rows)

-- ---- projection

module _ (own : Columns) (items : List (ColId × Option Scalar)) where
  covers-items : (items : List (ColId × Option Scalar)) (env : Env) → Covers (map (item_column own) items) (projected items env)
  covers-items [] env c none = refl
  covers-items (item ∷ items) env c none = by (item.0.0 == c.0) none (covers-items items env c)
    where
      by : (here : Bool) → (if here then Some (item_column own item).1 else kind_at (map (item_column own) items) c) ≡ None
          → (kind_at (map (item_column own) items) c ≡ None → projected items env c ≡ Null)
          → (if here then item_value env item.0 item.1 else projected items env c) ≡ Null
      by true none later = cc
      by false none later = later none

  abbrev item_schema : Columns
  item_schema = rising (map (item_column own) items)

  pub projected-back : (rows : List (List Value)) → map (cell item_schema) (map (λ row. row_over item_schema (projected items (cell own row))) rows) ≡ map (projected items) (map (cell own) rows)
  projected-back [] = refl
  projected-back (row ∷ rows) =
      ap₂ (λ x xs. x ∷ xs)
      (read_back item_schema (projected items (cell own row)) (covers-rising (map (item_column own) items) (projected items (cell own row)) (covers-items items (cell own row))))
      (projected-back rows)

-- ---- joins

absent : (columns : Columns) (c : ColId) → kind_at columns c ≡ None → has_number c columns ≡ false
absent [] c none = refl
absent (column ∷ columns) c none = by (column.0.0 == c.0) none (absent columns c)
  where
    by : (here : Bool) → (if here then Some column.1 else kind_at columns c) ≡ None → (kind_at columns c ≡ None → has_number c columns ≡ false) → (here || has_number c columns) ≡ false
    by true none later = cc
    by false none later = later none

covers-within : (columns : Columns) (env : Env) → IsWithin columns env → Covers columns env
covers-within columns env within c none = within.elsewhere c (absent columns c none)

cell-elsewhere : (columns : Columns) (row : List Value) (c : ColId) → has_number c columns ≡ false → cell columns row c ≡ Null
cell-elsewhere [] row c none = refl
cell-elsewhere (column ∷ columns) [] c none = refl
cell-elsewhere (column ∷ columns) (value ∷ row) c none = by (column.0.0 == c.0) none (cell-elsewhere columns row c)
  where
    by : (here : Bool) → (here || has_number c columns) ≡ false → (has_number c columns ≡ false → cell columns row c ≡ Null) → (if here then value else cell columns row c) ≡ Null
    by true none later = absurd (true≢false none)
    by false none later = later none

cells-within : (columns : Columns) (rows : List (List Value)) → AllWithin columns (map (cell columns) rows)
cells-within columns [] = tt
cells-within columns (row ∷ rows) = (record { elsewhere = cell-elsewhere columns row }, cells-within columns rows)

read_all : (columns : Columns) (envs : List Env) → AllByRecursion (Covers columns) envs → map (cell columns) (map (row_over columns) envs) ≡ envs
read_all columns [] all = refl
read_all columns (env ∷ envs) all = ap₂ (λ x xs. x ∷ xs) (read_back columns env all.0) (read_all columns envs all.1)

module _ (conds : List Cond) (left right : Columns) (lefts rights : List (List Value)) where
  abbrev ls : List Env
  ls = map (cell left) lefts

  abbrev rs : List Env
  rs = map (cell right) rights

  both-covers : (envs : List Env) → AllWithin (left ++ right) envs → AllByRecursion (Covers (rising (left ++ right))) envs
  both-covers envs = all-map (IsWithin (left ++ right)) (Covers (rising (left ++ right))) (λ env within. covers-rising (left ++ right) env (covers-within (left ++ right) env within)) envs

  left-covers : (envs : List Env) → AllWithin left envs → AllByRecursion (Covers left) envs
  left-covers envs = all-map (IsWithin left) (Covers left) (covers-within left) envs

  joined-covers : (k : JoinKind) → AllByRecursion (Covers (joined_columns k left right)) (joined k conds ls rs)
  joined-covers kind.Inner =
      both-covers (joined kind.Inner conds ls rs)
      (subst (AllWithin (left ++ right)) (sym (inner-crossed (meets conds) ls rs))
      (all-filter (IsWithin (left ++ right)) (meets conds) (crossed union ls rs) (within-crossed left right ls rs (cells-within left lefts) (cells-within right rights))))
  joined-covers kind.Left = both-covers (joined kind.Left conds ls rs) (within-left_joined left right (meets conds) ls rs (cells-within left lefts) (cells-within right rights))
  joined-covers kind.Full = both-covers (joined kind.Full conds ls rs) (within-full_joined left right (meets conds) ls rs (cells-within left lefts) (cells-within right rights))
  joined-covers kind.Semi = left-covers (joined kind.Semi conds ls rs) (all-filter (IsWithin left) _ ls (cells-within left lefts))
  joined-covers kind.Anti = left-covers (joined kind.Anti conds ls rs) (all-filter (IsWithin left) _ ls (cells-within left lefts))

  pub joined-back : (k : JoinKind) → map (cell (joined_columns k left right)) (joined_rows k conds left right lefts rights) ≡ joined k conds ls rs
  joined-back k = read_all (joined_columns k left right) (joined k conds ls rs) (joined-covers k)
