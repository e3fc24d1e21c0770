-- A sound tree that makes columns of low numbers alone gives such columns alone.
use Rattle.std.proofs.Common.{◌≡◌, ◌==◌, ◌<◌, ◌&&◌, ◌⊎◌, ℕ, Bool, true, true≢false, inl, inr, List, [], ◌∷◌, ◌++◌, map, is_some, Option, Some, None, refl, sym, subst}
use Rattle.std.proofs.lemmas.Bool.{and_parts, or_cases}
use Rattle.std.specs.List.{AllByRecursion, flat_map, list_all}
use Rattle.pdw_algebra.proofs.AllLaws.{all-append, all-left, all-right, numbers-same}
use Rattle.pdw_algebra.proofs.TreeFolds.{Inductive, by_trees, fold-block, fold-filter, fold-group, fold-join, fold-project, fold-scan}
use Rattle.pdw_algebra.proofs.Used.{kind-there}
use Rattle.pdw_algebra.specs.Shape.{Shape, aggregate_column, block_columns, block_shape, columns_in, group_shape, has_number, item_column, item_kind, join_shape, joined_columns, key_column, made_by, project_shape, scan_column, scan_shape, shape_of, shape_step}
use Rattle.pdw_algebra.specs.Types.{aggregate_kind}
use Rattle.pdw_algebra.specs.declared.tree.Tree.{Tree}
use Rattle.pdw_base.specs.Schema.{Columns}
use Rattle.pdw_base.specs.declared.schema.ColId.{ColId}
use Rattle.pdw_base.specs.declared.value.Kind.{Kind}
use Rattle.pdw_catalog.specs.Catalog.{Tables, table_named}
use Rattle.pdw_catalog.specs.declared.table.Table.{Table}
use Rattle.pdw_expr.specs.declared.agg.Agg.{Agg}
use Rattle.pdw_expr.specs.declared.agg.JoinKind.{JoinKind}
use Rattle.pdw_expr.specs.declared.agg.JoinKind.TheVariants as kind
use Rattle.pdw_expr.specs.declared.cond.Cond.{Cond}
use Rattle.pdw_expr.specs.declared.scalar.Scalar.{Scalar}
use Rattle.pdw_memo.proofs.Counts.{map-all}

module _ (limit : ℕ) where
  abbrev pub IsLow : ColId → Type 0
  IsLow c = c.0 < limit

  abbrev pub ColumnLow : ColId × Kind → Type 0
  ColumnLow column = IsLow column.0

  abbrev pub AllLow : List ColId → Type 0
  AllLow numbers = AllByRecursion IsLow numbers

  abbrev pub AreLow : Columns → Type 0
  AreLow columns = AllByRecursion ColumnLow columns

  low-there : (columns : Columns) → AreLow columns → (c : ColId) → has_number c columns ≡ true → IsLow c
  low-there [] low c there = absurd (true≢false (sym there))
  low-there (column ∷ columns) low c there = by (or_cases (column.0.0 == c.0) (has_number c columns) there) (low-there columns low.1 c)
    where
      by : ((column.0.0 == c.0) ≡ true) ⊎ (has_number c columns ≡ true) → (has_number c columns ≡ true → IsLow c) → IsLow c
      by (inl same) later = subst IsLow (numbers-same column.0 c same) low.0
      by (inr there) later = later there

  -- ---- sound shapes that make low numbers alone

  pub record Makes (shape : Shape) : Type 0 where
    pub sound : shape.sound ≡ true
    pub made : AllLow shape.made

  pub makes-filter : (child : Shape) (rest : Bool) → Makes (record { columns = child.columns; made = child.made; sound = child.sound && rest }) → Makes child
  makes-filter child rest makes = record { sound = (and_parts child.sound rest makes.sound).0; made = makes.made }

  pub makes-project : (items : List (ColId × Option Scalar)) (child : Shape) → Makes (project_shape items child) → Makes child
  makes-project items child makes = record { sound = (and_parts child.sound _ makes.sound).0; made = all-left IsLow child.made (flat_map made_by items) makes.made }

  each-makes : (leaves : List Shape) → list_all (λ leaf. leaf.sound) leaves ≡ true → AllLow (flat_map (λ leaf. leaf.made) leaves) → AllByRecursion Makes leaves
  each-makes [] sound made = tt
  each-makes (leaf ∷ leaves) sound made =
      let both = and_parts leaf.sound (list_all (λ (leaf : Shape). leaf.sound) leaves) sound in
      let later = flat_map (λ (leaf : Shape). leaf.made) leaves in
      (record { sound = both.0; made = all-left IsLow leaf.made later made }, each-makes leaves both.1 (all-right IsLow leaf.made later made))

  pub makes-leaves : (leaves : List Shape) (conds : List Cond) → Makes (block_shape leaves conds) → AllByRecursion Makes leaves
  makes-leaves leaves conds makes = each-makes leaves (and_parts (list_all (λ leaf. leaf.sound) leaves) _ makes.sound).0 makes.made

  pub makes-sides : (k : JoinKind) (conds : List Cond) (left right : Shape) → Makes (join_shape k conds left right) → Makes left × Makes right
  makes-sides k conds left right makes =
      let both = and_parts left.sound right.sound (and_parts (left.sound && right.sound) _ makes.sound).0 in
      (record { sound = both.0; made = all-left IsLow left.made right.made makes.made }, record { sound = both.1; made = all-right IsLow left.made right.made makes.made })

  pub makes-child : (keys : List ColId) (aggs : List Agg) (child : Shape) → Makes (group_shape keys aggs child) → Makes child
  makes-child keys aggs child makes = record { sound = (and_parts child.sound _ makes.sound).0; made = all-left IsLow child.made (map (λ (agg : Agg). agg.out) aggs) makes.made }

  -- ---- the columns of a shape

  abbrev GivesLow : Shape → Type 0
  GivesLow shape = Makes shape → AreLow shape.columns

  scan-low : (table : Option Table) (cols : List (ColId × ℕ)) → GivesLow (scan_shape table cols)
  scan-low table cols makes = each cols makes.made
    where
      each : (cols : List (ColId × ℕ)) → AllLow (map (λ col. col.0) cols) → AreLow (map (scan_column (columns_in table)) cols)
      each [] low = tt
      each (col ∷ cols) low = (low.0, each cols low.1)

  -- an item that has no expression is a column of the child
  item-low : (columns : Columns) → AreLow columns → (item : ColId × Option Scalar) → is_some (item_kind columns item) ≡ true → AllLow (made_by item) → IsLow item.0
  item-low columns low (c, None) some made = low-there columns low c (kind-there columns c some)
  item-low columns low (c, Some x) some made = made.0

  items-low : (columns : Columns) → AreLow columns → (items : List (ColId × Option Scalar)) → list_all (λ item. is_some (item_kind columns item)) items ≡ true → AllLow (flat_map made_by items) → AreLow (map (item_column columns) items)
  items-low columns low [] some made = tt
  items-low columns low (item ∷ items) some made =
      let both = and_parts (is_some (item_kind columns item)) (list_all (λ item. is_some (item_kind columns item)) items) some in
      let later = flat_map made_by items in
      (item-low columns low item both.0 (all-left IsLow (made_by item) later made), items-low columns low items both.1 (all-right IsLow (made_by item) later made))

  project-low : (items : List (ColId × Option Scalar)) (child : Shape) → GivesLow child → GivesLow (project_shape items child)
  project-low items child low makes =
      items-low child.columns (low (makes-project items child makes)) items (and_parts child.sound (list_all (λ item. is_some (item_kind child.columns item)) items) makes.sound).1
      (all-right IsLow child.made (flat_map made_by items) makes.made)

  leaves-low : (leaves : List Shape) → AllByRecursion GivesLow leaves → AllByRecursion Makes leaves → AreLow (block_columns leaves)
  leaves-low [] low makes = tt
  leaves-low (leaf ∷ leaves) low makes = all-append ColumnLow leaf.columns (block_columns leaves) (low.0 makes.0) (leaves-low leaves low.1 makes.1)

  join-low : (k : JoinKind) (conds : List Cond) (left right : Shape) → GivesLow left → GivesLow right → GivesLow (join_shape k conds left right)
  join-low k conds left right first second makes = by k
    where
      both : Makes left × Makes right
      both = makes-sides k conds left right makes

      sides : AreLow (left.columns ++ right.columns)
      sides = all-append ColumnLow left.columns right.columns (first both.0) (second both.1)

      by : (k : JoinKind) → AreLow (joined_columns k left.columns right.columns)
      by kind.Inner = sides
      by kind.Left = sides
      by kind.Full = sides
      by kind.Semi = first both.0
      by kind.Anti = first both.0

  -- keys are columns of the child
  keys-there : (columns : Columns) → AreLow columns → (keys : List ColId) → list_all (λ key. has_number key columns) keys ≡ true → AllLow keys
  keys-there columns low [] there = tt
  keys-there columns low (key ∷ keys) there =
      let both = and_parts (has_number key columns) (list_all (λ key. has_number key columns) keys) there in
      (low-there columns low key both.0, keys-there columns low keys both.1)

  outs-low : (aggs : List Agg) → AllLow (map (λ agg. agg.out) aggs) → AllByRecursion (λ (agg : Agg). IsLow agg.out) aggs
  outs-low [] low = tt
  outs-low (agg ∷ aggs) low = (low.0, outs-low aggs low.1)

  -- the keys and the aggregates of a grouping, with any kinds
  module _ (keys : List ColId) (aggs : List Agg) (child : Shape) (low : GivesLow child) (makes : Makes (group_shape keys aggs child)) where
    keys-low : AllLow keys
    keys-low =
        let keyed = and_parts child.sound _ makes.sound in
        keys-there child.columns (low (makes-child keys aggs child makes)) keys
        (and_parts (list_all (λ key. has_number key child.columns) keys) (list_all (λ agg. is_some (aggregate_kind child.columns agg)) aggs) keyed.1).0

    pub grouped-low : (key_of : ColId → ColId × Kind) → ((key : ColId) → (key_of key).0 ≡ key) → (out_of : Agg → ColId × Kind) → ((agg : Agg) → (out_of agg).0 ≡ agg.out) → AreLow (map key_of keys ++ map out_of aggs)
    grouped-low key_of same_key out_of same_out =
        all-append ColumnLow (map key_of keys) (map out_of aggs)
        (map-all IsLow ColumnLow key_of (λ key low. subst IsLow (sym (same_key key)) low) keys keys-low)
        (map-all (λ (agg : Agg). IsLow agg.out) ColumnLow out_of (λ agg low. subst IsLow (sym (same_out agg)) low) aggs (outs-low aggs (all-right IsLow child.made (map (λ (agg : Agg). agg.out) aggs) makes.made)))

  group-low : (keys : List ColId) (aggs : List Agg) (child : Shape) → GivesLow child → GivesLow (group_shape keys aggs child)
  group-low keys aggs child low makes = grouped-low keys aggs child low makes (key_column child.columns) (λ key. refl) (aggregate_column child.columns) (λ agg. refl)

  -- ---- any tree

  module _ (tables : Tables) where
    abbrev TreeLow : Tree → Type 0
    TreeLow t = GivesLow (shape_of tables t)

    each-low : (leaves : List Tree) → AllByRecursion TreeLow leaves → AllByRecursion GivesLow (map (shape_of tables) leaves)
    each-low [] all = tt
    each-low (leaf ∷ leaves) all = (all.0, each-low leaves all.1)

    low-cases : Inductive TreeLow
    low-cases = record {
      scan = λ table alias cols. subst GivesLow (sym (fold-scan (shape_step tables) table alias cols)) (scan-low (table_named table tables) cols);
      filter = λ conds child low. subst GivesLow (sym (fold-filter (shape_step tables) conds child)) (λ makes. low (makes-filter (shape_of tables child) _ makes));
      project = λ items child low. subst GivesLow (sym (fold-project (shape_step tables) items child)) (project-low items (shape_of tables child) low);
      block = λ leaves conds all.
          let shapes = map (shape_of tables) leaves in
          subst GivesLow (sym (fold-block (shape_step tables) leaves conds)) (λ makes. leaves-low shapes (each-low leaves all) (makes-leaves shapes conds makes));
      join = λ k conds left right first second. subst GivesLow (sym (fold-join (shape_step tables) k conds left right)) (join-low k conds (shape_of tables left) (shape_of tables right) first second);
      group = λ keys aggs child low. subst GivesLow (sym (fold-group (shape_step tables) keys aggs child)) (group-low keys aggs (shape_of tables child) low);
    }

    pub tree-low : (t : Tree) → Makes (shape_of tables t) → AreLow (shape_of tables t).columns
    tree-low = by_trees TreeLow low-cases
