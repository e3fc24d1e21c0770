-- Over tables whose columns are INT or TEXT the columns of every tree are so too.
use Rattle.std.proofs.Common.{◌≡◌, ℕ, zero, suc, ◌==◌, Bool, true, false, true≢false, List, [], ◌∷◌, map, length, Option, Some, None, is_some, refl, sym, ap, subst, ◌∙◌, if◌then◌else◌, leb}
use Rattle.std.specs.List.{AllByRecursion}
use Rattle.std.specs.Option.{option_map}
use Rattle.std.specs.Str.{bytes_eq}
use Rattle.pdw_agg.specs.Fitting.{is_plain}
use Rattle.pdw_algebra.proofs.AllLaws.{all-append}
use Rattle.pdw_algebra.proofs.TreeFolds.{by_trees, fold-block, fold-filter, fold-group, fold-join, fold-project, fold-scan}
use Rattle.pdw_algebra.specs.Schema.{kind_at}
use Rattle.pdw_algebra.specs.Shape.{Shape, aggregate_column, block_columns, column_kind, columns_in, columns_of, item_column, item_kind, joined_columns, key_column, kind_or_int, scan_column, shape_of, shape_step}
use Rattle.pdw_algebra.specs.Types.{aggregate_kind, aggregate_kind_by, item_kind_by, literal_kind, number_if, scalar_kind, scalar_kind_step}
use Rattle.pdw_algebra.specs.declared.tree.Tree.{Tree}
use Rattle.pdw_base.specs.Schema.{Columns}
use Rattle.pdw_base.specs.declared.schema.ColId.{ColId}
use Rattle.pdw_base.specs.declared.value.Kind.TheVariants as kind
use Rattle.pdw_base.specs.declared.value.Kind.{Kind}
use Rattle.pdw_base.specs.declared.value.Value.TheVariants.{Null, Int, Text, Wide}
use Rattle.pdw_base.specs.declared.value.Value.{Value}
use Rattle.pdw_catalog.specs.Catalog.{Tables, table_named}
use Rattle.pdw_catalog.specs.Table.{IsStoredKind}
use Rattle.pdw_catalog.specs.declared.table.Column.{Column}
use Rattle.pdw_catalog.specs.declared.table.Table.{Table}
use Rattle.pdw_catalog.specs.declared.table.TheConstants.{MOST_TEXT_BYTES}
use Rattle.pdw_dsql.specs.Typed.{AreStored, HasTablesOf}
use Rattle.pdw_expr.specs.declared.agg.Agg.{Agg}
use Rattle.pdw_expr.specs.declared.agg.AggKind.TheVariants as aggregate
use Rattle.pdw_expr.specs.declared.agg.AggKind.{AggKind}
use Rattle.pdw_expr.specs.declared.agg.JoinKind.TheVariants as join
use Rattle.pdw_expr.specs.declared.agg.JoinKind.{JoinKind}
use Rattle.pdw_expr.specs.declared.scalar.Scalar.TheFolds.{fold-roll-Scalar, ind-Scalar, map-Scalar}
use Rattle.pdw_expr.specs.declared.scalar.Scalar.TheOpen.{Scalar-F}
use Rattle.pdw_expr.specs.declared.scalar.Scalar.TheViews.{roll-Scalar}
use Rattle.pdw_expr.specs.declared.scalar.Scalar.{Scalar}
use Rattle.pdw_memo.proofs.EachGroup.{some-same}

-- a kind, if there is one, is INT or TEXT
abbrev pub PlainIf : Option Kind → Type 0
PlainIf o = is_some o ≡ true → is_plain o ≡ true

abbrev IsPlain : ColId × Kind → Type 0
IsPlain column = is_plain (Some column.1) ≡ true

abbrev pub ArePlain : Columns → Type 0
ArePlain columns = AllByRecursion IsPlain columns

plain-none : PlainIf None
plain-none there = absurd (true≢false (sym there))

plain-or : (o : Option Kind) → PlainIf o → is_plain (Some (kind_or_int o)) ≡ true
plain-or None plain = refl
plain-or (Some k) plain = plain refl

plain-number : (b : Bool) → PlainIf (number_if b)
plain-number true there = refl
plain-number false there = plain-none there

-- ---- expressions over plain columns

module _ (columns : Columns) (plain : ArePlain columns) where
  plain-kind : (c : ColId) → PlainIf (kind_at columns c)
  plain-kind c = each columns plain
    where
      each : (columns : Columns) → ArePlain columns → PlainIf (kind_at columns c)
      each [] plain = plain-none
      each (column ∷ columns) plain = by (column.0.0 == c.0) (each columns plain.1)
        where
          by : (here : Bool) → PlainIf (kind_at columns c) → PlainIf (if here then Some column.1 else kind_at columns c)
          by true rest = λ there. plain.0
          by false rest = rest

  plain-literal : (v : Value) → PlainIf (literal_kind v)
  plain-literal Null = plain-none
  plain-literal (Int n) = λ there. refl
  plain-literal (Wide n) = plain-none
  plain-literal (Text t) = by (leb (length t) MOST_TEXT_BYTES)
    where
      by : (b : Bool) → PlainIf (if b then Some kind.Text else None)
      by true = λ there. refl
      by false = plain-none

  abbrev ScalarPlain : Scalar → Type 0
  ScalarPlain x = PlainIf (scalar_kind columns x)

  abbrev Known : Type 0
  Known = (x : Scalar) × ScalarPlain x

  abbrev known : Scalar-F Known → Scalar-F Scalar
  known = map-Scalar Known Scalar (λ x. x.0)

  layer : (y : Scalar-F Known) → PlainIf (scalar_kind_step columns (map-Scalar Scalar (Option Kind) (scalar_kind columns) (known y)))
  layer (Scalar-F.Col c) = plain-kind c
  layer (Scalar-F.Lit value) = plain-literal value
  layer (Scalar-F.Neg operand) = plain-number _
  layer (Scalar-F.Chain first rest) = plain-number _

  plain-scalar : (x : Scalar) → ScalarPlain x
  plain-scalar = ind-Scalar ScalarPlain (λ x y is. subst (λ z. ScalarPlain (roll-Scalar z)) is (subst PlainIf (sym (fold-roll-Scalar (Option Kind) (scalar_kind_step columns) (known y))) (layer y)))

  pub plain-aggregate : (agg : Agg) → PlainIf (aggregate_kind columns agg)
  plain-aggregate agg = by agg.kind agg.arg
    where
      by : (k : AggKind) (arg : Option Scalar) → PlainIf (aggregate_kind_by columns k arg)
      by aggregate.CountStar None = λ there. refl
      by aggregate.Count None = plain-none
      by aggregate.Sum None = plain-none
      by aggregate.Min None = plain-none
      by aggregate.Max None = plain-none
      by aggregate.CountStar (Some x) = plain-none
      by aggregate.Count (Some x) = plain-number _
      by aggregate.Sum (Some x) = plain-number _
      by aggregate.Min (Some x) = plain-scalar x
      by aggregate.Max (Some x) = plain-scalar x

  plain-item : (item : ColId × Option Scalar) → PlainIf (item_kind columns item)
  plain-item item = by item.1
    where
      by : (make : Option Scalar) → PlainIf (item_kind_by columns (kind_at columns item.0) make)
      by None = plain-kind item.0
      by (Some x) = plain-scalar x

  plain-items : (items : List (ColId × Option Scalar)) → ArePlain (map (item_column columns) items)
  plain-items [] = tt
  plain-items (item ∷ items) = (plain-or (item_kind columns item) (plain-item item), plain-items items)

  plain-keys : (keys : List ColId) → ArePlain (map (key_column columns) keys)
  plain-keys [] = tt
  plain-keys (key ∷ keys) = (plain-or (kind_at columns key) (plain-kind key), plain-keys keys)

  plain-aggs : (aggs : List Agg) → ArePlain (map (aggregate_column columns) aggs)
  plain-aggs [] = tt
  plain-aggs (agg ∷ aggs) = (plain-or (aggregate_kind columns agg) (plain-aggregate agg), plain-aggs aggs)

-- ---- tables

abbrev AreStoredColumns : List Column → Type 0
AreStoredColumns columns = AllByRecursion (λ (column : Column). IsStoredKind column.kind) columns

stored-plain : (k : Kind) → IsStoredKind k → is_plain (Some k) ≡ true
stored-plain kind.Int stored = refl
stored-plain kind.Text stored = refl
stored-plain kind.Wide stored = absurd stored

-- the columns of each table by its name
abbrev pub AreStoredNamed : Tables → Type 0
AreStoredNamed tables = (name : List ℕ) → AreStoredColumns (columns_in (table_named name tables))

pub stored-named : (tables : Tables) → AreStored tables → AreStoredNamed tables
stored-named [] stored name = tt
stored-named (entry ∷ tables) stored name = by (bytes_eq name entry.0) (stored-named tables stored.1 name)
  where
    by : (here : Bool) → AreStoredColumns (columns_in (table_named name tables)) → AreStoredColumns (columns_in (if here then Some entry.1 else table_named name tables))
    by true rest = stored.0
    by false rest = rest

-- where a catalogue has the tables of another
pub columns-same : (known tables : Tables) → HasTablesOf known tables → (name : List ℕ) → is_some (table_named name known) ≡ true
    → columns_in (table_named name tables) ≡ columns_in (table_named name known)
columns-same known tables has name = by (table_named name known) refl
  where
    other : (o : Option Table) (columns : List Column) → option_map (λ (t : Table). t.columns) o ≡ Some columns → columns_in o ≡ columns
    other None columns is = absurd (true≢false (ap is_some (sym is)))
    other (Some table) columns is = some-same table.columns columns is

    by : (o : Option Table) → table_named name known ≡ o → is_some o ≡ true → columns_in (table_named name tables) ≡ columns_in o
    by None is there = absurd (true≢false (sym there))
    by (Some table) is there = other (table_named name tables) table.columns (has name table is)

pub known-stored : (known tables : Tables) → HasTablesOf known tables → AreStored tables → AreStoredNamed known
known-stored known tables has stored name = by (table_named name known) refl
  where
    by : (o : Option Table) → table_named name known ≡ o → AreStoredColumns (columns_in o)
    by None is = tt
    by (Some table) is =
        subst AreStoredColumns (columns-same known tables has name (ap is_some is) ∙ ap columns_in is) (stored-named tables stored name)

plain-at : (columns : List Column) (place : ℕ) → AreStoredColumns columns → PlainIf (column_kind columns place)
plain-at [] place stored = plain-none
plain-at (column ∷ columns) zero stored = λ there. stored-plain column.kind stored.0
plain-at (column ∷ columns) (suc place) stored = plain-at columns place stored.1

plain-scan : (columns : List Column) (cols : List (ColId × ℕ)) → AreStoredColumns columns → ArePlain (map (scan_column columns) cols)
plain-scan columns [] stored = tt
plain-scan columns (col ∷ cols) stored = (plain-or (column_kind columns col.1) (plain-at columns col.1 stored), plain-scan columns cols stored)

-- ---- trees

module _ (tables : Tables) (stored : AreStoredNamed tables) where
  abbrev shape : Tree → Shape
  shape = shape_of tables

  abbrev Plain : Shape → Type 0
  Plain s = ArePlain s.columns

  plain-leaves : (leaves : List Tree) → AllByRecursion (λ t. Plain (shape t)) leaves → ArePlain (block_columns (map shape leaves))
  plain-leaves [] all = tt
  plain-leaves (leaf ∷ leaves) all = all-append IsPlain (shape leaf).columns (block_columns (map shape leaves)) all.0 (plain-leaves leaves all.1)

  plain-join : (k : JoinKind) (left right : Columns) → ArePlain left → ArePlain right → ArePlain (joined_columns k left right)
  plain-join join.Inner left right first second = all-append IsPlain left right first second
  plain-join join.Left left right first second = all-append IsPlain left right first second
  plain-join join.Full left right first second = all-append IsPlain left right first second
  plain-join join.Semi left right first second = first
  plain-join join.Anti left right first second = first

  pub plain-tree : (t : Tree) → ArePlain (columns_of tables t)
  plain-tree = by_trees (λ t. Plain (shape t)) (record {
    scan = λ table alias cols. subst Plain (sym (fold-scan (shape_step tables) table alias cols)) (plain-scan (columns_in (table_named table tables)) cols (stored table));
    filter = λ conds child plain. subst Plain (sym (fold-filter (shape_step tables) conds child)) plain;
    project = λ items child plain. subst Plain (sym (fold-project (shape_step tables) items child)) (plain-items (shape child).columns plain items);
    block = λ leaves conds all. subst Plain (sym (fold-block (shape_step tables) leaves conds)) (plain-leaves leaves all);
    join = λ k conds left right first second. subst Plain (sym (fold-join (shape_step tables) k conds left right)) (plain-join k (shape left).columns (shape right).columns first second);
    group = λ keys aggs child plain.
        subst Plain (sym (fold-group (shape_step tables) keys aggs child))
        (all-append IsPlain (map (key_column (shape child).columns) keys) (map (aggregate_column (shape child).columns) aggs) (plain-keys (shape child).columns plain keys) (plain-aggs (shape child).columns plain aggs));
  })
