-- The rows of a tree have NULL outside its columns.
use Rattle.std.proofs.Common.{◌≡◌, ℕ, ◌==◌, Bool, true, false, true≢false, ◌||◌, List, [], ◌∷◌, ◌++◌, map, Option, sym, ap, subst, subst₂, ◌∙◌, refl, if◌then◌else◌, slice_index_or}
use Rattle.std.specs.List.{AllByRecursion, flat_map, list_any}
use Rattle.std.proofs.lemmas.List.Folds.{flat_map-map}
use Rattle.pdw_algebra.proofs.Products.{all-filter, inner-crossed, products-cons, within-crossed, within-full_joined, within-left_joined}
use Rattle.pdw_algebra.proofs.TreeFolds.{Inductive, by_trees, fold-block, fold-filter, fold-group, fold-join, fold-project, fold-scan}
use Rattle.pdw_algebra.proofs.Used.{within-union}
use Rattle.pdw_algebra.specs.Meaning.{rows_of, rows_step}
use Rattle.pdw_algebra.specs.Shape.{Shape, aggregate_column, columns_in, columns_of, has_number, item_column, join_shape, joined_columns, key_column, scan_column, shape_of, shape_step}
use Rattle.pdw_algebra.specs.Within.{AllWithin, IsWithin}
use Rattle.pdw_algebra.specs.declared.tree.Tree.{Tree}
use Rattle.pdw_algebra.specs.declared.tree.Tree.TheVariants as tree
use Rattle.pdw_base.specs.Schema.{Columns, Env}
use Rattle.pdw_base.specs.declared.schema.ColId.{ColId}
use Rattle.pdw_base.specs.declared.value.Value.{Value}
use Rattle.pdw_base.specs.declared.value.Value.TheVariants.{Null}
use Rattle.pdw_catalog.specs.Catalog.{Tables, table_named}
use Rattle.pdw_catalog.specs.Database.{Database}
use Rattle.pdw_catalog.specs.declared.table.Column.{Column}
use Rattle.pdw_expr.specs.Aggregate.{aggregated}
use Rattle.pdw_expr.specs.Env.{union}
use Rattle.pdw_expr.specs.Join.{crossed}
use Rattle.pdw_expr.specs.Rows.{aggregate_cells, argument, filtered, first_row, group_row, grouped, item_value, joined, key_cells, key_of, meets, products, projected, scanned}
use Rattle.pdw_expr.specs.Parts.{groups}
use Rattle.pdw_expr.specs.declared.agg.Agg.{Agg}
use Rattle.pdw_expr.specs.declared.agg.JoinKind.{JoinKind}
use Rattle.pdw_expr.specs.declared.agg.JoinKind.TheVariants as kind
use Rattle.pdw_expr.specs.declared.cond.Cond.{Cond}
use Rattle.pdw_expr.specs.declared.scalar.Scalar.{Scalar}

-- ---- rows that are made

each-within : {X : Type 0} (columns : Columns) (f : X → Env) → ((x : X) → IsWithin columns (f x)) → (xs : List X) → AllWithin columns (map f xs)
each-within columns f within [] = tt
each-within columns f within (x ∷ xs) = (within x, each-within columns f within xs)

scanned-within : (columns : List Column) (cols : List (ColId × ℕ)) (row : List Value) → IsWithin (map (scan_column columns) cols) (scanned cols row)
scanned-within columns cols row = record { elsewhere = λ c absent. each cols c absent }
  where
    each : (cols : List (ColId × ℕ)) (c : ColId) → has_number c (map (scan_column columns) cols) ≡ false → scanned cols row c ≡ Null
    each [] c = λ absent. refl
    each (col ∷ cols) c = by (col.0.0 == c.0) (each cols c)
      where
        by : (here : Bool) → (has_number c (map (scan_column columns) cols) ≡ false → scanned cols row c ≡ Null)
            → (here || has_number c (map (scan_column columns) cols)) ≡ false → (if here then slice_index_or row col.1 Null else scanned cols row c) ≡ Null
        by true rest absent = absurd (true≢false absent)
        by false rest absent = rest absent

projected-within : (columns : Columns) (items : List (ColId × Option Scalar)) (row : Env) → IsWithin (map (item_column columns) items) (projected items row)
projected-within columns items row = record { elsewhere = λ c absent. each items c absent }
  where
    each : (items : List (ColId × Option Scalar)) (c : ColId) → has_number c (map (item_column columns) items) ≡ false → projected items row c ≡ Null
    each [] c = λ absent. refl
    each (item ∷ items) c = by (item.0.0 == c.0) (each items c)
      where
        by : (here : Bool) → (has_number c (map (item_column columns) items) ≡ false → projected items row c ≡ Null)
            → (here || has_number c (map (item_column columns) items)) ≡ false → (if here then item_value row item.0 item.1 else projected items row c) ≡ Null
        by true rest absent = absurd (true≢false absent)
        by false rest absent = rest absent

-- ---- groups

pub keys-there : (columns : Columns) (keys : List ColId) (c : ColId) → has_number c (map (key_column columns) keys) ≡ list_any (λ key. key.0 == c.0) keys
keys-there columns [] c = refl
keys-there columns (key ∷ keys) c = ap (λ rest. (key.0 == c.0) || rest) (keys-there columns keys c)

keys-within : (columns : Columns) (keys : List ColId) (row : Env) → IsWithin (map (key_column columns) keys) (key_cells keys row)
keys-within columns keys row = record {
  elsewhere = λ c absent. ap (λ (there : Bool). if there then row c else Null) (sym (keys-there columns keys c) ∙ absent);
}

aggregates-within : (columns : Columns) (aggs : List Agg) (rows : List Env) → IsWithin (map (aggregate_column columns) aggs) (aggregate_cells aggs rows)
aggregates-within columns aggs rows = record { elsewhere = λ c absent. each aggs c absent }
  where
    each : (aggs : List Agg) (c : ColId) → has_number c (map (aggregate_column columns) aggs) ≡ false → aggregate_cells aggs rows c ≡ Null
    each [] c = λ absent. refl
    each (agg ∷ aggs) c = by (agg.out.0 == c.0) (each aggs c)
      where
        by : (here : Bool) → (has_number c (map (aggregate_column columns) aggs) ≡ false → aggregate_cells aggs rows c ≡ Null)
            → (here || has_number c (map (aggregate_column columns) aggs)) ≡ false
            → (if here then aggregated agg.kind (map (argument agg.arg) rows) else aggregate_cells aggs rows c) ≡ Null
        by true rest absent = absurd (true≢false absent)
        by false rest absent = rest absent

group-within : (columns : Columns) (keys : List ColId) (aggs : List Agg) (rows : List Env)
    → IsWithin (map (key_column columns) keys ++ map (aggregate_column columns) aggs) (group_row keys aggs rows)
group-within columns keys aggs rows =
    within-union (map (key_column columns) keys) (map (aggregate_column columns) aggs) (key_cells keys (first_row rows)) (aggregate_cells aggs rows)
    (keys-within columns keys (first_row rows)) (aggregates-within columns aggs rows)

-- ---- joins

joined-within : (k : JoinKind) (conds : List Cond) (left right : Columns) (ls rs : List Env) → AllWithin left ls → AllWithin right rs
    → AllWithin (joined_columns k left right) (joined k conds ls rs)
joined-within kind.Inner conds left right ls rs first second =
    subst (AllWithin (left ++ right)) (sym (inner-crossed (meets conds) ls rs))
    (all-filter (IsWithin (left ++ right)) (meets conds) (crossed union ls rs) (within-crossed left right ls rs first second))
joined-within kind.Left conds left right ls rs first second = within-left_joined left right (meets conds) ls rs first second
joined-within kind.Full conds left right ls rs first second = within-full_joined left right (meets conds) ls rs first second
joined-within kind.Semi conds left right ls rs first second = all-filter (IsWithin left) _ ls first
joined-within kind.Anti conds left right ls rs first second = all-filter (IsWithin left) _ ls first

join-columns : (k : JoinKind) (conds : List Cond) (left right : Shape) → (join_shape k conds left right).columns ≡ joined_columns k left.columns right.columns
join-columns k conds left right = refl

-- ---- any tree

module _ (tables : Tables) (database : Database) where
  abbrev RowsWithin : Tree → Type 0
  RowsWithin t = AllWithin (columns_of tables t) (rows_of database t)

  -- by the columns and the rows of a layer
  from_layer : (t : Tree) (shape : Shape) (rows : List Env) → shape_of tables t ≡ shape → rows_of database t ≡ rows → AllWithin shape.columns rows → RowsWithin t
  from_layer t shape rows is_shape is_rows within = subst₂ (λ (s : Shape) rows. AllWithin s.columns rows) (sym is_shape) (sym is_rows) within

  leaves-within : (leaves : List Tree) → AllByRecursion RowsWithin leaves → AllWithin (flat_map (columns_of tables) leaves) (products (map (rows_of database) leaves))
  leaves-within [] all = (record { elsewhere = λ c absent. refl }, tt)
  leaves-within (leaf ∷ leaves) all =
      subst (AllWithin (columns_of tables leaf ++ flat_map (columns_of tables) leaves)) (sym (products-cons (rows_of database leaf) (map (rows_of database) leaves)))
      (within-crossed (columns_of tables leaf) (flat_map (columns_of tables) leaves) (rows_of database leaf) (products (map (rows_of database) leaves)) all.0 (leaves-within leaves all.1))

  cases : Inductive RowsWithin
  cases = record {
    scan = λ table alias cols.
        from_layer (tree.Scan table alias cols) _ _ (fold-scan (shape_step tables) table alias cols) (fold-scan (rows_step database) table alias cols)
        (each-within (map (scan_column (columns_in (table_named table tables))) cols) (scanned cols) (scanned-within (columns_in (table_named table tables)) cols) (database.rows table));
    filter = λ conds child within.
        from_layer (tree.Filter conds child) _ _ (fold-filter (shape_step tables) conds child) (fold-filter (rows_step database) conds child)
        (all-filter (IsWithin (columns_of tables child)) (meets conds) (rows_of database child) within);
    project = λ items child within.
        from_layer (tree.Project items child) _ _ (fold-project (shape_step tables) items child) (fold-project (rows_step database) items child)
        (each-within (map (item_column (columns_of tables child)) items) (projected items) (projected-within (columns_of tables child) items) (rows_of database child));
    block = λ leaves conds all.
        from_layer (tree.Block leaves conds) _ _ (fold-block (shape_step tables) leaves conds) (fold-block (rows_step database) leaves conds)
        (subst (λ columns. AllWithin columns (filtered conds (products (map (rows_of database) leaves)))) (sym (flat_map-map (λ (s : Shape). s.columns) (shape_of tables) leaves))
        (all-filter (IsWithin (flat_map (columns_of tables) leaves)) (meets conds) (products (map (rows_of database) leaves)) (leaves-within leaves all)));
    join = λ k conds left right first second.
        from_layer (tree.Join k conds left right) _ _ (fold-join (shape_step tables) k conds left right) (fold-join (rows_step database) k conds left right)
        (joined-within k conds (columns_of tables left) (columns_of tables right) (rows_of database left) (rows_of database right) first second);
    group = λ keys aggs child within.
        from_layer (tree.GroupBy keys aggs child) _ _ (fold-group (shape_step tables) keys aggs child) (fold-group (rows_step database) keys aggs child)
        (each-within (map (key_column (columns_of tables child)) keys ++ map (aggregate_column (columns_of tables child)) aggs) (group_row keys aggs)
        (group-within (columns_of tables child) keys aggs) (groups keys (key_of keys) (rows_of database child)));
  }

  pub rows-within : (t : Tree) → RowsWithin t
  rows-within = by_trees RowsWithin cases
