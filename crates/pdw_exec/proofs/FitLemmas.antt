-- The rows of scans and projections fit their columns.
use Rattle.std.proofs.Common.{◌≡◌, ◌==◌, ℕ, zero, suc, ◌<◌, Bool, true, false, true≢false, All, List, [], ◌∷◌, map, slice_index_or, Option, Some, None, is_some, refl, sym, ap, subst, ◌∙◌, arith, eq-eqb, eqb-true, suc-le-suc, if◌then◌else◌}
use Rattle.std.proofs.lemmas.List.Elements.{All-nil, All-cons, All-head, All-tail}
use Rattle.std.specs.List.{AllByRecursion}
use Rattle.pdw_agg.proofs.FitLemmas.{both}
use Rattle.pdw_agg.proofs.KindLemmas.{FitsEnv, cell-fits, scalar-kind}
use Rattle.pdw_algebra.proofs.PlacedLemmas.{rising-schema}
use Rattle.pdw_algebra.specs.Schema.{kind_at, rising}
use Rattle.pdw_algebra.specs.Shape.{column_kind, item_column, item_kind, kind_or_int, scan_column}
use Rattle.pdw_algebra.specs.Types.{item_kind_by, scalar_kind}
use Rattle.pdw_bag_laws.proofs.Groups.{column-≡}
use Rattle.pdw_base.specs.Schema.{Columns, Env, FitsColumns, IsAscending, cell, row_over}
use Rattle.pdw_base.specs.Value.{IsOfKind}
use Rattle.pdw_base.specs.declared.schema.ColId.{ColId}
use Rattle.pdw_base.specs.declared.value.Kind.{Kind}
use Rattle.pdw_base.specs.declared.value.Value.TheVariants.{Null}
use Rattle.pdw_base.specs.declared.value.Value.{Value}
use Rattle.pdw_catalog.specs.Table.{FitsTable}
use Rattle.pdw_catalog.specs.declared.table.Column.{Column}
use Rattle.pdw_exec.proofs.CellLemmas.{places-row}
use Rattle.pdw_exec.specs.Scans.{places_in}
use Rattle.pdw_exec.specs.Shapes.{have_kinds}
use Rattle.pdw_expr.specs.Rows.{item_value, projected, scanned}
use Rattle.pdw_expr.specs.Scalar.{value_of}
use Rattle.pdw_expr.specs.declared.scalar.Scalar.{Scalar}
use Rattle.pdw_keys.specs.Places.{key_at}

-- ---- what holds of each row

pub all-from : {X : Type 0} (P : X → Type 0) (xs : List X) → AllByRecursion P xs → All P xs
all-from P [] all = All-nil P
all-from P (x ∷ xs) all = All-cons P x xs all.0 (all-from P xs all.1)

pub all-to : {X : Type 0} (P : X → Type 0) (xs : List X) → All P xs → AllByRecursion P xs
all-to P [] all = tt
all-to P (x ∷ xs) all = (All-head P x xs all, all-to P xs (All-tail P x xs all))

-- ---- rows by the kinds of their columns

abbrev Numbered : Type 0
Numbered = ColId × Kind

ascending-tail : (first : Numbered) (rest : Columns) → IsAscending (first ∷ rest) → IsAscending rest
ascending-tail first rest ascending i j d less within = ascending (suc i) (suc j) d (suc-le-suc less) (suc-le-suc within)

ascending-head : (first : Numbered) (rest : Columns) → IsAscending (first ∷ rest) → All (λ later. first.0.0 < later.0.0) rest
ascending-head first rest ascending k d within = ascending 0 (suc k) d (omega arith) (suc-le-suc within)

-- no column of greater numbers has the number
none-beyond : (columns : Columns) (c : ColId) → All (λ later. c.0 < later.0.0) columns → kind_at columns c ≡ None
none-beyond [] c greater = refl
none-beyond (column ∷ columns) c greater =
    by (column.0.0 == c.0) refl (none-beyond columns c (All-tail (λ later. c.0 < later.0.0) column columns greater))
  where
    by : (here : Bool) → (column.0.0 == c.0) ≡ here → kind_at columns c ≡ None → (if here then Some column.1 else kind_at columns c) ≡ None
    by true here rest =
        let less = All-head (λ later. c.0 < later.0.0) column columns greater in
        let same = eqb-true _ _ here in
        absurd (omega arith)
    by false here rest = rest

later-kind : (column : Numbered) (columns : Columns) → IsAscending (column ∷ columns) → (c : ColId) (k : Kind) → kind_at columns c ≡ Some k → kind_at (column ∷ columns) c ≡ Some k
later-kind column columns ascending c k there = by (column.0.0 == c.0) refl
  where
    by : (here : Bool) → (column.0.0 == c.0) ≡ here → (if here then Some column.1 else kind_at columns c) ≡ Some k
    by true here =
        let none = subst (λ d. kind_at columns d ≡ None) (column-≡ column.0 c here) (none-beyond columns column.0 (ascending-head column columns ascending)) in
        cc
    by false here = there

row-fits : (columns : Columns) (env : Env) → IsAscending columns → ((c : ColId) (k : Kind) → kind_at columns c ≡ Some k → IsOfKind k (env c)) → FitsColumns columns (row_over columns env)
row-fits [] env ascending each = _
row-fits (column ∷ columns) env ascending each = (
  each column.0 column.1 (ap (λ here. if here then Some column.1 else kind_at columns column.0) (eq-eqb column.0.0 column.0.0 refl)),
  row-fits columns env (ascending-tail column columns ascending) (λ c k there. each c k (later-kind column columns ascending c k there)),
)

-- a row fits the schema of some columns where it has at each a value of the column's kind
rising-fits : (columns : Columns) (env : Env) → ((c : ColId) (k : Kind) → kind_at columns c ≡ Some k → IsOfKind k (env c)) → FitsColumns (rising columns) (row_over (rising columns) env)
rising-fits columns env each =
    row-fits (rising columns) env (rising-schema columns).ascending (λ c k there. each c k (sym ((rising-schema columns).same c) ∙ there))

-- ---- scans

table-kind : (columns : List Column) (row : List Value) (place : ℕ) → FitsTable columns row → IsOfKind (kind_or_int (column_kind columns place)) (slice_index_or row place Null)
table-kind [] [] place fits = _
table-kind [] (value ∷ row) place fits = absurd fits
table-kind (column ∷ columns) [] place fits = absurd fits
table-kind (column ∷ columns) (value ∷ row) zero fits = fits.0.kind
table-kind (column ∷ columns) (value ∷ row) (suc place) fits = table-kind columns row place fits.1

module _ (columns : List Column) where
  scan-kinds : (row : List Value) → FitsTable columns row → (cols : List (ColId × ℕ)) (c : ColId) (k : Kind) → kind_at (map (scan_column columns) cols) c ≡ Some k → IsOfKind k (scanned cols row c)
  scan-kinds row fits [] c k there = cc
  scan-kinds row fits (col ∷ cols) c k there = by (col.0.0 == c.0) there (scan-kinds row fits cols c k)
    where
      by : (here : Bool) → (if here then Some (scan_column columns col).1 else kind_at (map (scan_column columns) cols) c) ≡ Some k
          → (kind_at (map (scan_column columns) cols) c ≡ Some k → IsOfKind k (scanned cols row c))
          → IsOfKind k (if here then slice_index_or row col.1 Null else scanned cols row c)
      by true there later = let same : kind_or_int (column_kind columns col.1) ≡ k = cc in subst (λ k. IsOfKind k (slice_index_or row col.1 Null)) same (table-kind columns row col.1 fits)
      by false there later = later there

  pub scanned-fit : (cols : List (ColId × ℕ)) (rows : List (List Value)) → AllByRecursion (FitsTable columns) rows
      → AllByRecursion (FitsColumns (rising (map (scan_column columns) cols))) (map (key_at (places_in cols (rising (map (scan_column columns) cols)))) rows)
  scanned-fit cols [] all = tt
  scanned-fit cols (row ∷ rows) all =
      let schema = rising (map (scan_column columns) cols) in
      (subst (FitsColumns schema) (sym (places-row cols schema row)) (rising-fits (map (scan_column columns) cols) (scanned cols row) (scan-kinds row all.0 cols)), scanned-fit cols rows all.1)

-- ---- projection

module _ (own : Columns) where
  module _ (env : Env) (fits : FitsEnv own env) where
    item-kind : (n : ColId) (make : Option Scalar) → is_some (item_kind_by own (kind_at own n) make) ≡ true → IsOfKind (kind_or_int (item_kind_by own (kind_at own n) make)) (item_value env n make)
    item-kind n None typed = fits n
    item-kind n (Some x) typed = by (scalar_kind own x) refl typed
      where
        by : (k : Option Kind) → scalar_kind own x ≡ k → is_some k ≡ true → IsOfKind (kind_or_int k) (value_of x env)
        by None is typed = absurd (true≢false (sym typed))
        by (Some k) is typed = scalar-kind own env fits x k is

    item-kinds : (items : List (ColId × Option Scalar)) → have_kinds own items ≡ true → (c : ColId) (k : Kind) → kind_at (map (item_column own) items) c ≡ Some k → IsOfKind k (projected items env c)
    item-kinds [] typed c k there = cc
    item-kinds (item ∷ items) typed c k there = by (item.0.0 == c.0) there (item-kinds items split.1 c k)
      where
        split : (is_some (item_kind own item) ≡ true) × (have_kinds own items ≡ true)
        split = both (is_some (item_kind own item)) (have_kinds own items) typed

        by : (here : Bool) → (if here then Some (item_column own item).1 else kind_at (map (item_column own) items) c) ≡ Some k
            → (kind_at (map (item_column own) items) c ≡ Some k → IsOfKind k (projected items env c))
            → IsOfKind k (if here then item_value env item.0 item.1 else projected items env c)
        by true there later = let same : kind_or_int (item_kind own item) ≡ k = cc in subst (λ k. IsOfKind k (item_value env item.0 item.1)) same (item-kind item.0 item.1 split.0)
        by false there later = later there

  pub projected-fit : (items : List (ColId × Option Scalar)) → have_kinds own items ≡ true → (rows : List (List Value)) → AllByRecursion (FitsColumns own) rows
      → AllByRecursion (FitsColumns (rising (map (item_column own) items))) (map (λ row. row_over (rising (map (item_column own) items)) (projected items (cell own row))) rows)
  projected-fit items typed [] all = tt
  projected-fit items typed (row ∷ rows) all =
      (rising-fits (map (item_column own) items) (projected items (cell own row)) (item-kinds (cell own row) (cell-fits own row all.0) items typed), projected-fit items typed rows all.1)
