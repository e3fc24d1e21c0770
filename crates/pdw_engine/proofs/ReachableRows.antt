-- What is measured of rows that fit a table is in its ranges, since they could be the rows of an appliance of one node.
use Rattle.std.proofs.Common.{◌≡◌, ◌∙◌, ◌+◌, ◌<◌, ◌≤◌, ◌++◌, ℕ, zero, suc, pos, negsuc, List, [], ◌∷◌, length, true, None, Some, cond, if◌then◌else◌, refl, sym, ap, subst, arith, append-nil}
use Rattle.std.specs.List.{AllByRecursion}
use Rattle.std.specs.Str.{bytes_eq}
use Rattle.std.proofs.lemmas.Cmp.{nat_list_eq_equiv}
use Rattle.std.proofs.lemmas.List.{length-append}
use Rattle.pdw_base.proofs.SameBagLaws.{SameBag-append, SameBag-length, SameBag-refl, SameBag-trans}
use Rattle.pdw_base.specs.Hash.{node_for}
use Rattle.pdw_base.specs.SameBag.{SameBag}
use Rattle.pdw_base.specs.declared.value.Value.{Value}
use Rattle.pdw_base.specs.declared.value.Value.TheVariants.{Null, Int, Text, Wide}
use Rattle.pdw_catalog.proofs.ApplianceLemmas.{whole_of-found}
use Rattle.pdw_catalog.specs.Appliance.{Contents, IsSound, IsTable, StandsWhere, Stores, at_node, bags_of, whole_of, whole_rows}
use Rattle.pdw_catalog.specs.Catalog.{table_named}
use Rattle.pdw_catalog.specs.Table.{FitsTable, Row, most_rows, value_at}
use Rattle.pdw_catalog.specs.declared.table.Placing.{Placing}
use Rattle.pdw_catalog.specs.declared.table.Placing.TheVariants.{Hash, Replicate}
use Rattle.pdw_catalog.specs.declared.table.Table.{Table}
use Rattle.pdw_stats.proofs.MeasuredLemmas.{IsInRange-whole_of, measured-SameBag}
use Rattle.pdw_stats.specs.Measured.{measured}
use Rattle.pdw_stats.specs.Stats.{IsInRange}

-- ---- one node has every row

node_for-one : (value : Value) → node_for 1 value ≡ 0
node_for-one Null = refl
node_for-one (Int (pos n)) = omega arith
node_for-one (Int (negsuc n)) = omega arith
node_for-one (Text bytes) = omega arith
node_for-one (Wide (pos n)) = omega arith
node_for-one (Wide (negsuc n)) = omega arith

all_at_first : (column : ℕ) (rows : List Row) → AllByRecursion (λ row. node_for 1 (value_at column row) ≡ 0) rows
all_at_first column [] = tt
all_at_first column (row ∷ rows) = (node_for-one (value_at column row), all_at_first column rows)

only_first : (P : ℕ → Type 0) → P 0 → (node : ℕ) → node < 1 → P node
only_first P first zero within = first
only_first P first (suc node) within = absurd (omega arith)

stands : (placing : Placing) (rows : List Row) → StandsWhere 1 placing (rows ∷ [])
stands (Hash column) rows = only_first (λ node. AllByRecursion (λ row. node_for 1 (value_at column row) ≡ node) (at_node node (rows ∷ []))) (all_at_first column rows)
stands Replicate rows = only_first (λ node. SameBag (at_node node (rows ∷ [])) rows) (SameBag-refl rows)

whole_is : (placing : Placing) (rows : List Row) → whole_rows placing (rows ∷ []) ≡ rows
whole_is (Hash column) rows = append-nil rows
whole_is Replicate rows = refl

-- ---- the appliance

module _ (table : Table) (rows : List Row) where
  abbrev alone : Contents
  alone = record { nodes = 1; tables = (table.name, table) ∷ []; bags = (rows ∷ []) ∷ [] }

  itself : bytes_eq table.name table.name ≡ true
  itself = nat_list_eq_equiv.refl table.name

  named : table_named table.name alone.tables ≡ Some table
  named = ap (λ test. cond test (Some table) None) itself

  its_bags : bags_of table.name alone ≡ rows ∷ []
  its_bags = ap (λ test. if test then rows ∷ [] else []) itself

  its_rows : whole_of table.name alone ≡ rows
  its_rows = whole_of-found alone table.name table named ∙ ap (whole_rows table.placing) its_bags ∙ whole_is table.placing rows

  module _ (shape : IsTable table) (fits : AllByRecursion (FitsTable table.columns) rows) (limit : length rows ≤ most_rows table.placing) where
    stores : Stores 1 table (rows ∷ [])
    stores = record {
      shape = shape;
      each_node = refl;
      stands = stands table.placing rows;
      fits = only_first (λ node. AllByRecursion (FitsTable table.columns) (at_node node (rows ∷ []))) fits;
      limit = subst (λ (all : List Row). length all ≤ most_rows table.placing) (sym (whole_is table.placing rows)) limit;
    }

    sound : IsSound alone
    sound = record { nodes = (omega arith, omega arith); stored = (refl, stores, tt); limit = omega arith }

    pub IsInRange-fitting : IsInRange (measured table.columns rows)
    IsInRange-fitting = subst (λ all. IsInRange (measured table.columns all)) its_rows (IsInRange-whole_of alone table.name table sound named)

-- ---- the rows of a table, in any order

-- a table that an appliance may have, and rows of it: in some order they fit its columns, and they keep its limit
pub record HoldsRows (table : Table) (rows : List Row) : Type 0 where
  pub shape : IsTable table
  pub fitting : List Row
  pub same : SameBag rows fitting
  pub fits : AllByRecursion (FitsTable table.columns) fitting
  pub limit : length fitting ≤ most_rows table.placing

pub HoldsRows-none : (table : Table) → IsTable table → HoldsRows table []
HoldsRows-none table shape = record { shape = shape; fitting = []; same = SameBag-refl []; fits = tt; limit = omega arith }

pub HoldsRows-same : (table : Table) (rows others : List Row) → SameBag others rows → HoldsRows table rows → HoldsRows table others
HoldsRows-same table rows others same held = record { shape = held.shape; fitting = held.fitting; same = SameBag-trans same held.same; fits = held.fits; limit = held.limit }

all_more : (P : Row → Type 0) (rows more : List Row) → AllByRecursion P rows → AllByRecursion P more → AllByRecursion P (rows ++ more)
all_more P [] more first rest = rest
all_more P (row ∷ rows) more first rest = (first.0, all_more P rows more first.1 rest)

pub HoldsRows-more : (table : Table) (rows more : List Row) → AllByRecursion (FitsTable table.columns) more → length rows + length more ≤ most_rows table.placing → HoldsRows table rows → HoldsRows table (rows ++ more)
HoldsRows-more table rows more fits room held =
    let count = SameBag-length held.same in
    let longer = length-append held.fitting more in
    record {
      shape = held.shape;
      fitting = held.fitting ++ more;
      same = SameBag-append held.same (SameBag-refl more);
      fits = all_more (FitsTable table.columns) held.fitting more held.fits fits;
      limit = omega arith;
    }

-- they are measured to statistics in their ranges
pub IsInRange-held : (table : Table) (rows : List Row) → HoldsRows table rows → IsInRange (measured table.columns rows)
IsInRange-held table rows held =
    subst IsInRange (sym (measured-SameBag table.columns rows held.fitting held.same)) (IsInRange-fitting table held.fitting held.shape held.fits held.limit)
