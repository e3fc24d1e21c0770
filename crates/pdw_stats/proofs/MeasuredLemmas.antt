-- The statistics of a sound appliance are in their ranges, and those of equal bags are equal.
use Rattle.std.proofs.Common.{◌≡◌, ℕ, zero, suc, ◌*◌, ◌<◌, ◌≤◌, ◌==◌, Bool, true, false, List, [], ◌∷◌, ◌++◌, length, map, filter, max, Some, refl, sym, ap, ap₂, subst, arith, cond, sum_by, if◌then◌else◌}
use Rattle.std.specs.Int.{div_ceil}
use Rattle.std.specs.List.{AllByRecursion, enumerate_from, flat_map}
use Rattle.std.specs.List.Sorted.{IsPermutation}
use Rattle.std.proofs.Math.Nat.{lt_of_mul-lt-mul_right}
use Rattle.std.proofs.lemmas.Bool.Decides.{nat_tests}
use Rattle.std.proofs.lemmas.Grind.{div_ceil_times}
use Rattle.std.proofs.lemmas.List.{length-map}
use Rattle.std.proofs.lemmas.List.Sorted.{list_any-IsPermutation, sum_by-IsPermutation}
use Rattle.std.proofs.lemmas.List.Sums.{sum_by-cons}
use Rattle.std.proofs.lemmas.Map.Made.{distinct_count-le}
use Rattle.pdw_base.proofs.SameBagLaws.{IsPermutation-from_SameBag, SameBag-filter, SameBag-length, SameBag-map}
use Rattle.pdw_base.specs.SameBag.{SameBag}
use Rattle.pdw_base.specs.declared.value.Kind.{Kind}
use Rattle.pdw_base.specs.declared.value.Kind.TheVariants as kind
use Rattle.pdw_base.specs.declared.value.Value.{Value}
use Rattle.pdw_base.specs.declared.value.Value.TheVariants.{Null, Int, Text, Wide}
use Rattle.pdw_catalog.proofs.ApplianceLemmas.{Stores-found, whole_of-found}
use Rattle.pdw_catalog.specs.Appliance.{Bags, Contents, IsSound, Stores, at_node, bags_of, whole_of, whole_rows}
use Rattle.pdw_catalog.specs.Catalog.{table_named}
use Rattle.pdw_catalog.specs.Table.{FitsColumn, FitsTable, Row, most_rows, value_at}
use Rattle.pdw_catalog.specs.declared.table.Column.{Column}
use Rattle.pdw_catalog.specs.declared.table.Placing.{Placing}
use Rattle.pdw_catalog.specs.declared.table.Placing.TheVariants.{Hash, Replicate}
use Rattle.pdw_catalog.specs.declared.table.Table.{Table}
use Rattle.pdw_stats.proofs.DistinctLemmas.{distinct_count-alike, same_value-itself, same_value-≡}
use Rattle.pdw_stats.specs.Known.{AreFewBytes}
use Rattle.pdw_stats.specs.Measured.{bytes_of, column_at, is_known, known_values, mean_width, measured, measured_column, same_value}
use Rattle.pdw_stats.specs.Stats.{IsColumnInRange, IsInRange, usual_width}
use Rattle.pdw_stats.specs.declared.stats.ColStat.{ColStat}
use Rattle.pdw_stats.specs.declared.stats.Stats.{Stats}

-- ---- equal bags

module _ (values others : List Value) (same : SameBag values others) where
  moved : IsPermutation values others
  moved = IsPermutation-from_SameBag same_value same_value-≡ same_value-itself values others same

  known_moved : IsPermutation (filter is_known values) (filter is_known others)
  known_moved = IsPermutation-from_SameBag same_value same_value-≡ same_value-itself (filter is_known values) (filter is_known others) (SameBag-filter is_known same)

  known_values-SameBag : known_values values ≡ known_values others
  known_values-SameBag = distinct_count-alike (filter is_known values) (filter is_known others) (λ value. list_any-IsPermutation (same_value value) _ _ known_moved)

  mean_width-SameBag : (k : Kind) → mean_width k values ≡ mean_width k others
  mean_width-SameBag k = ap₂ (λ bytes count. if count == 0 then usual_width k else max 1 (div_ceil bytes count)) (sym (sum_by-IsPermutation bytes_of values others moved)) (SameBag-length same)

  measured_column-SameBag : (k : Kind) → measured_column k values ≡ measured_column k others
  measured_column-SameBag k = ap₂ {C = ColStat} (λ distinct width. record { distinct = max 1 distinct; width = width }) known_values-SameBag (mean_width-SameBag k)

columns-SameBag : (columns : List (ℕ × Column)) (rows others : List Row) → SameBag rows others
    → map (λ numbered. measured_column numbered.1.kind (column_at numbered.0 rows)) columns ≡ map (λ numbered. measured_column numbered.1.kind (column_at numbered.0 others)) columns
columns-SameBag [] rows others same = refl
columns-SameBag (column ∷ columns) rows others same =
    ap₂ (λ first rest. first ∷ rest) (measured_column-SameBag (column_at column.0 rows) (column_at column.0 others) (SameBag-map (value_at column.0) same) column.1.kind)
    (columns-SameBag columns rows others same)

pub measured-SameBag : (columns : List Column) (rows others : List Row) → SameBag rows others → measured columns rows ≡ measured columns others
measured-SameBag columns rows others same =
    ap₂ {C = Stats} (λ count cols. record { rows = count; cols = cols }) (SameBag-length same) (columns-SameBag (enumerate_from 0 columns) rows others same)

-- ---- rows that fit

short_value : (column : Column) (value : Value) → FitsColumn column value → bytes_of value ≤ 1000
short_value column Null fits = omega arith
short_value column (Int n) fits = omega arith
short_value column (Text text) fits = fits.short
short_value column (Wide n) fits = omega arith

short_at : (columns : List Column) (row : Row) (place : ℕ) → FitsTable columns row → bytes_of (value_at place row) ≤ 1000
short_at [] [] place fits = omega arith
short_at [] (value ∷ row) place fits = absurd fits
short_at (column ∷ columns) [] place fits = absurd fits
short_at (column ∷ columns) (value ∷ row) zero fits = short_value column value fits.0
short_at (column ∷ columns) (value ∷ row) (suc place) fits = short_at columns row place fits.1

short_column : (columns : List Column) (rows : List Row) (place : ℕ) → AllByRecursion (FitsTable columns) rows → sum_by bytes_of (column_at place rows) ≤ length rows * 1000
short_column columns [] place fits = omega arith
short_column columns (row ∷ rows) place fits =
    let first = short_at columns row place fits.0 in
    let rest = short_column columns rows place fits.1 in
    let all = sum_by-cons bytes_of (value_at place row) (column_at place rows) in
    omega arith

all_bags : (P : Row → Type 0) (bags : Bags) → ((node : ℕ) → node < length bags → AllByRecursion P (at_node node bags)) → AllByRecursion P (flat_map (λ bag. bag) bags)
all_bags P [] each = tt
all_bags P (bag ∷ bags) each = joined bag (each 0 (omega arith)) (all_bags P bags (λ node within. each (suc node) (omega arith)))
  where
    joined : (rows : List Row) → AllByRecursion P rows → AllByRecursion P (flat_map (λ b. b) bags) → AllByRecursion P (rows ++ flat_map (λ b. b) bags)
    joined [] first rest = rest
    joined (row ∷ rows) first rest = (first.0, joined rows first.1 rest)

whole_fits : (n : ℕ) (table : Table) (bags : Bags) (placing : Placing) → 1 ≤ n → length bags ≡ n
    → ((node : ℕ) → node < n → AllByRecursion (FitsTable table.columns) (at_node node bags)) → AllByRecursion (FitsTable table.columns) (whole_rows placing bags)
whole_fits n table bags (Hash column) some count each = all_bags (FitsTable table.columns) bags (λ node within. each node (omega arith))
whole_fits n table bags Replicate some count each = each 0 (omega arith)

few : (placing : Placing) → most_rows placing ≤ 1000000
few (Hash column) = omega arith
few Replicate = omega arith

-- ---- ranges

module _ (columns : List Column) (rows : List Row) (fits : AllByRecursion (FitsTable columns) rows) (count : length rows ≤ 1000000) where
  AreFewBytes-fitting : AreFewBytes rows
  AreFewBytes-fitting = λ place. let short = short_column columns rows place fits in omega arith

  ceil_in_range : (bytes n : ℕ) → 0 < n → bytes ≤ n * 1000 → div_ceil bytes n ≤ 1000
  ceil_in_range bytes n some most =
      let near = (div_ceil_times bytes n some).1 in
      let less : div_ceil bytes n * n < 1001 * n = omega (arith, near) in
      let below = lt_of_mul-lt-mul_right n less in
      omega arith

  usual_in_range : (k : Kind) → (1 ≤ usual_width k) × (usual_width k ≤ 1000)
  usual_in_range kind.Int = (omega arith, omega arith)
  usual_in_range kind.Text = (omega arith, omega arith)
  usual_in_range kind.Wide = (omega arith, omega arith)

  width_in_range : (k : Kind) (place : ℕ) → (1 ≤ mean_width k (column_at place rows)) × (mean_width k (column_at place rows) ≤ 1000)
  width_in_range k place =
      let short = short_column columns rows place fits in
      by (length (column_at place rows)) (length-map rows (value_at place)) (sum_by bytes_of (column_at place rows)) (omega (arith, length-map rows (value_at place)))
    where
      by : (n : ℕ) → n ≡ length rows → (bytes : ℕ) → bytes ≤ n * 1000
          → (1 ≤ (if n == 0 then usual_width k else max 1 (div_ceil bytes n))) × ((if n == 0 then usual_width k else max 1 (div_ceil bytes n)) ≤ 1000)
      by n same bytes most = chosen (n == 0) refl
        where
          chosen : (b : Bool) → (n == 0) ≡ b → (1 ≤ (if b then usual_width k else max 1 (div_ceil bytes n))) × ((if b then usual_width k else max 1 (div_ceil bytes n)) ≤ 1000)
          chosen true none = usual_in_range k
          chosen false some =
              let positive : 0 < n = grind (arith, nat_tests) in
              let below = ceil_in_range bytes n positive most in
              (omega arith, omega arith)

  distinct_in_range : (place : ℕ) → known_values (column_at place rows) ≤ 1000000
  distinct_in_range place =
      let values = column_at place rows in
      let kept = distinct_count-le same_value (filter is_known values) in
      let fewer = length_filter values in
      let same = length-map rows (value_at place) in
      omega arith
    where
      length_filter : (values : List Value) → length (filter is_known values) ≤ length values
      length_filter [] = omega arith
      length_filter (value ∷ values) = by (is_known value) (length_filter values)
        where
          by : (b : Bool) → length (filter is_known values) ≤ length values → length (cond b (value ∷ filter is_known values) (filter is_known values)) ≤ suc (length values)
          by true rest = omega arith
          by false rest = omega arith

  column_in_range : (k : Kind) (place : ℕ) → IsColumnInRange (measured_column k (column_at place rows))
  column_in_range k place =
      let distinct = distinct_in_range place in
      let width = width_in_range k place in
      record { some_distinct = omega arith; most_distinct = omega arith; some_width = width.0; most_width = width.1 }

  columns_in_range : (numbered : List (ℕ × Column)) → AllByRecursion IsColumnInRange (map (λ one. measured_column one.1.kind (column_at one.0 rows)) numbered)
  columns_in_range [] = tt
  columns_in_range (one ∷ numbered) = (column_in_range one.1.kind one.0, columns_in_range numbered)

  IsInRange-measured : IsInRange (measured columns rows)
  IsInRange-measured = record { rows = omega arith; cols = columns_in_range (enumerate_from 0 columns) }

-- ---- a table of a sound appliance

module _ (contents : Contents) (name : List ℕ) (table : Table) (sound : IsSound contents) (found : table_named name contents.tables ≡ Some table) where
  stores : Stores contents.nodes table (bags_of name contents)
  stores = Stores-found contents name sound table found

  table_fits : AllByRecursion (FitsTable table.columns) (whole_of name contents)
  table_fits =
      subst (AllByRecursion (FitsTable table.columns)) (sym (whole_of-found contents name table found))
      (whole_fits contents.nodes table (bags_of name contents) table.placing sound.nodes.0 stores.each_node stores.fits)

  few_rows : length (whole_of name contents) ≤ 1000000
  few_rows =
      let whole = ap length (whole_of-found contents name table found) in
      let limit = stores.limit in
      let most = few table.placing in
      omega arith

  pub AreFewBytes-whole_of : AreFewBytes (whole_of name contents)
  AreFewBytes-whole_of = AreFewBytes-fitting table.columns (whole_of name contents) table_fits few_rows

  pub IsInRange-whole_of : IsInRange (measured table.columns (whole_of name contents))
  IsInRange-whole_of = IsInRange-measured table.columns (whole_of name contents) table_fits few_rows
