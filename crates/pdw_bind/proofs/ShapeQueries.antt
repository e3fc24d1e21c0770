-- The shapes of the trees of a query: FROM and WHERE, groups, output columns and DISTINCT.
use Rattle.std.proofs.Common.{◌≡◌, ◌&&◌, Bool, true, false, List, [], ◌∷◌, ◌++◌, map, fold, Option, Some, None, is_some, refl, sym, ap, subst, ◌∙◌, if◌then◌else◌}
use Rattle.std.specs.List.{list_all}
use Rattle.std.proofs.lemmas.Bool.{and_parts, and_from}
use Rattle.std.proofs.lemmas.List.{append-nil}
use Rattle.std.proofs.lemmas.Option.{none-some, same_Some}
use Rattle.pdw_algebra.specs.Shape.{all_typed, group_shape, has_number, item_kind, key_column, kind_or_int, shape_of}
use Rattle.pdw_algebra.specs.Types.{aggregate_kind, scalar_kind}
use Rattle.pdw_algebra.specs.declared.tree.Tree.TheVariants as tree
use Rattle.pdw_algebra.specs.declared.tree.Tree.{Tree}
use Rattle.pdw_base.specs.Schema.{Columns}
use Rattle.pdw_base.specs.declared.schema.ColId.{ColId}
use Rattle.pdw_base.specs.declared.value.Kind.{Kind}
use Rattle.pdw_bind.proofs.ShapeFrom.{ElementFits, block-columns, block-made, from_block_sound}
use Rattle.pdw_bind.proofs.ShapeKeys.{first-output, items_hold, keys-columns, keys_there, numbers_hold, outputs-numbers, outputs_once}
use Rattle.pdw_bind.proofs.ShapeSteps.{kind-column, shape-filter, shape-groups, shape-project}
use Rattle.pdw_bind.proofs.ShapeSubqueries.{QueryFits, SubqueryFits, TreesSound}
use Rattle.pdw_bind.specs.Bind as bind
use Rattle.pdw_bind.specs.Bind.{Bound, Part, block_of, distinct_if, filtered, grouped, item_scalar}
use Rattle.pdw_form.specs.Columns.{each_item_once, each_number_once, first_of}
use Rattle.pdw_form.specs.Sound as sound
use Rattle.pdw_form.specs.Sound.{ElementShape, QueryShape, SubqueryShape, from_columns, from_sound, group_columns, group_made, group_sound, items_made, judged_kind, kind_of_first, output_columns, where_sound}
use Rattle.pdw_catalog.specs.Catalog.{Tables}
use Rattle.pdw_expr.specs.declared.cond.Cond.{Cond}
use Rattle.pdw_expr.specs.declared.scalar.Scalar.{Scalar}
use Rattle.pdw_form.proofs.Related.{Related, none, more}
use Rattle.pdw_form.specs.declared.judged.JFrom.TheOpen.{JudgedQuery-F}
use Rattle.pdw_form.specs.declared.judged.JGroup.{JGroup}
use Rattle.pdw_form.specs.declared.judged.JItem.{JItem}

module _ (tables : Tables) where
  -- ---- the subqueries, one after another

  abbrev pub all_joined : Tree → List (Tree → Tree) → Tree
  all_joined t joins = fold (λ t join. join t) t joins

  joins-columns : {joins : List (Tree → Tree)} {subs : List SubqueryShape} → Related (SubqueryFits tables) joins subs → (t : Tree)
      → (shape_of tables (all_joined t joins)).columns ≡ (shape_of tables t).columns
  joins-columns none t = refl
  joins-columns (more {x = join} first rest) t = joins-columns rest (join t) ∙ first.columns t

  joins-made : {joins : List (Tree → Tree)} {subs : List SubqueryShape} → Related (SubqueryFits tables) joins subs → (t : Tree)
      → (shape_of tables (all_joined t joins)).made ≡ fold (λ made sub. made ++ sub.made) (shape_of tables t).made subs
  joins-made none t = refl
  joins-made (more {x = join} {ys = subs} first rest) t =
      joins-made rest (join t) ∙ ap (λ (made : List ColId). fold (λ made (sub : SubqueryShape). made ++ sub.made) made subs) (first.made t)

  joins_sound : {joins : List (Tree → Tree)} {subs : List SubqueryShape} → Related (SubqueryFits tables) joins subs → (t : Tree) (columns : Columns)
      → (shape_of tables t).columns ≡ columns → (shape_of tables t).sound ≡ true → list_all (λ sub. sub.sound_in columns) subs ≡ true
      → (shape_of tables (all_joined t joins)).sound ≡ true
  joins_sound none t columns is here each = here
  joins_sound (more {x = join} {y = sub} first rest) t columns is here each =
      let both = and_parts _ _ each in
      joins_sound rest (join t) columns (first.columns t ∙ is) (first.sound t here (ap sub.sound_in is ∙ both.0)) both.1

  -- ---- groups

  filtered-columns : (having : List Cond) (t : Tree) → (shape_of tables (filtered having t)).columns ≡ (shape_of tables t).columns
  filtered-columns [] t = refl
  filtered-columns (first ∷ rest) t = ap (λ shape. shape.columns) (shape-filter tables (first ∷ rest) t)

  filtered-made : (having : List Cond) (t : Tree) → (shape_of tables (filtered having t)).made ≡ (shape_of tables t).made
  filtered-made [] t = refl
  filtered-made (first ∷ rest) t = ap (λ shape. shape.made) (shape-filter tables (first ∷ rest) t)

  filtered_sound : (having : List Cond) (t : Tree) → (shape_of tables t).sound ≡ true → all_typed (shape_of tables t).columns having ≡ true → (shape_of tables (filtered having t)).sound ≡ true
  filtered_sound [] t here typed = here
  filtered_sound (first ∷ rest) t here typed = ap (λ shape. shape.sound) (shape-filter tables (first ∷ rest) t) ∙ and_from _ _ here typed

  module _ (t : Tree) (rows : Columns) (is : (shape_of tables t).columns ≡ rows) where
    abbrev groups : JGroup → Tree
    groups group = tree.GroupBy (each_number_once group.keys) group.aggs t

    groups-columns : (group : JGroup) → (shape_of tables (groups group)).columns ≡ group_columns (Some group) rows
    groups-columns group =
        ap (λ shape. shape.columns) (shape-groups tables (each_number_once group.keys) group.aggs t) ∙ ap (group_columns (Some group)) is

    groups_sound : (group : JGroup) → (shape_of tables t).sound ≡ true → list_all (λ key. has_number key rows) group.keys ≡ true
        → list_all (λ agg. is_some (aggregate_kind rows agg)) group.aggs ≡ true → (shape_of tables (groups group)).sound ≡ true
    groups_sound group here keys aggs =
        let once = numbers_hold (λ key. has_number key rows) group.keys keys in
        let fit = ap (λ (columns : Columns). list_all (λ key. has_number key columns) (each_number_once group.keys) && list_all (λ agg. is_some (aggregate_kind columns agg)) group.aggs) is in
        ap (λ shape. shape.sound) (shape-groups tables (each_number_once group.keys) group.aggs t) ∙ and_from _ _ here (fit ∙ and_from _ _ once aggs)

    grouped-columns : (group : Option JGroup) → (shape_of tables (grouped group t)).columns ≡ group_columns group rows
    grouped-columns None = is
    grouped-columns (Some group) = filtered-columns group.having (groups group) ∙ groups-columns group

    grouped-made : (group : Option JGroup) → (shape_of tables (grouped group t)).made ≡ (shape_of tables t).made ++ group_made group
    grouped-made None = sym (append-nil (shape_of tables t).made)
    grouped-made (Some group) = filtered-made group.having (groups group) ∙ ap (λ shape. shape.made) (shape-groups tables (each_number_once group.keys) group.aggs t)

    grouped_sound : (group : Option JGroup) → (shape_of tables t).sound ≡ true → group_sound group rows ≡ true → (shape_of tables (grouped group t)).sound ≡ true
    grouped_sound None here holds = here
    grouped_sound (Some group) here holds =
        let first = and_parts _ _ holds in
        let second = and_parts _ _ first.1 in
        filtered_sound group.having (groups group) (groups_sound group here first.0 second.0)
        (ap (λ (columns : Columns). all_typed columns group.having) (groups-columns group) ∙ second.1)

  -- ---- output columns

  module _ (items : List JItem) (t : Tree) (columns : Columns) (is : (shape_of tables t).columns ≡ columns) where
    abbrev outputs : Tree
    outputs = tree.Project (each_item_once items) t

    outputs-columns : (shape_of tables outputs).columns ≡ output_columns items columns
    outputs-columns = ap (λ shape. shape.columns) (shape-project tables (each_item_once items) t) ∙ ap (output_columns items) is

    outputs_sound : (shape_of tables t).sound ≡ true → list_all (λ item. is_some (judged_kind columns item)) items ≡ true → (shape_of tables outputs).sound ≡ true
    outputs_sound here kinds =
        let once = items_hold (λ item. is_some (item_kind columns item)) items kinds in
        let fit = ap (λ (all : Columns). list_all (λ item. is_some (item_kind all item)) (each_item_once items)) is in
        ap (λ shape. shape.sound) (shape-project tables (each_item_once items) t) ∙ and_from _ _ here (fit ∙ once)

  outputs-made : (items : List JItem) (t : Tree) → (shape_of tables (tree.Project (each_item_once items) t)).made ≡ (shape_of tables t).made ++ items_made items
  outputs-made items t = ap (λ shape. shape.made) (shape-project tables (each_item_once items) t)

  -- ---- DISTINCT

  module _ (items : List JItem) (t : Tree) (columns : Columns) (is : (shape_of tables t).columns ≡ output_columns items columns) where
    abbrev keys : List ColId
    keys = each_number_once (map (λ item. item.out) items)

    distinct-shape : shape_of tables (tree.GroupBy keys [] t) ≡ group_shape keys [] (shape_of tables t)
    distinct-shape = shape-groups tables keys [] t

    keys-all : (all : Columns) → all ≡ output_columns items columns → map (key_column all) keys ≡ all
    keys-all all same =
        ap (λ (all : Columns). map (key_column all) keys) same
        ∙ ap (map (key_column (output_columns items columns))) (outputs-numbers columns items)
        ∙ keys-columns (output_columns items columns) (outputs_once columns items)
        ∙ sym same

    keys_all_there : list_all (λ key. has_number key (shape_of tables t).columns) keys ≡ true
    keys_all_there =
        ap (λ (all : Columns). list_all (λ key. has_number key all) keys) is
        ∙ ap (list_all (λ key. has_number key (output_columns items columns))) (outputs-numbers columns items)
        ∙ keys_there (output_columns items columns)

    distinct-columns : (distinct : Bool) → (shape_of tables (distinct_if distinct items t)).columns ≡ (shape_of tables t).columns
    distinct-columns true = ap (λ shape. shape.columns) distinct-shape ∙ append-nil _ ∙ keys-all (shape_of tables t).columns is
    distinct-columns false = refl

    distinct-made : (distinct : Bool) → (shape_of tables (distinct_if distinct items t)).made ≡ (shape_of tables t).made
    distinct-made true = ap (λ shape. shape.made) distinct-shape ∙ append-nil _
    distinct-made false = refl

    distinct_sound : (distinct : Bool) → (shape_of tables t).sound ≡ true → (shape_of tables (distinct_if distinct items t)).sound ≡ true
    distinct_sound true here = ap (λ shape. shape.sound) distinct-shape ∙ and_from _ _ here (and_from _ _ keys_all_there refl)
    distinct_sound false here = here

-- ---- the first item

kind_is : (kind : Option Kind) → is_some kind ≡ true → Some (kind_or_int kind) ≡ kind
kind_is None holds = absurd (cc)
kind_is (Some kind) holds = refl

-- within a query without groups the item's expression has the kind of its output column
plain-item : (rows : Columns) (item : JItem) → scalar_kind rows (item_scalar false item) ≡ judged_kind rows item
plain-item rows item = by item.make
  where
    by : (make : Option Scalar) → scalar_kind rows (item_scalar false (record item { make = make })) ≡ judged_kind rows (record item { make = make })
    by None = kind-column rows item.out
    by (Some x) = refl

-- with groups it is the output column
grouped-item : (columns : Columns) (item : JItem) (rest : List JItem) → is_some (judged_kind columns item) ≡ true
    → scalar_kind (output_columns (item ∷ rest) columns) (item_scalar true item) ≡ judged_kind columns item
grouped-item columns item rest holds =
    kind-column (output_columns (item ∷ rest) columns) item.out ∙ first-output columns item rest ∙ kind_is (judged_kind columns item) holds

first_item : (group : Option JGroup) (items : List JItem) (rows : Columns) → list_all (λ item. is_some (judged_kind (group_columns group rows) item)) items ≡ true
    → (item : JItem) → first_of items ≡ Some item
    → scalar_kind (if is_some group then output_columns items (group_columns group rows) else rows) (item_scalar (is_some group) item) ≡ kind_of_first (group_columns group rows) (first_of items)
first_item group [] rows known item is = absurd (none-some item is)
first_item None (first ∷ rest) rows known item is =
    subst (λ (same : JItem). scalar_kind rows (item_scalar false same) ≡ judged_kind rows first) (same_Some first item is) (plain-item rows first)
first_item (Some group) (first ∷ rest) rows known item is =
    let columns = group_columns (Some group) rows in
    subst (λ (same : JItem). scalar_kind (output_columns (first ∷ rest) columns) (item_scalar true same) ≡ judged_kind columns first) (same_Some first item is)
    (grouped-item columns first rest (and_parts _ _ known).0)

-- ---- a query

module _ (tables : Tables) (parts : List Part) (elements : List ElementShape) (from : Related (ElementFits tables) parts elements)
    (joins : List (Tree → Tree)) (subs : List SubqueryShape) (conjuncts : Related (SubqueryFits tables) joins subs)
    (plain outer : List Cond) (group : Option JGroup) (items : List JItem) (distinct : Bool) where
  abbrev trees_layer : JudgedQuery-F Part (Tree → Tree) Bound
  trees_layer = record { from = parts; plain = plain; outer = outer; subs = joins; group = group; items = items; distinct = distinct }

  abbrev shapes_layer : JudgedQuery-F ElementShape SubqueryShape QueryShape
  shapes_layer = record { from = elements; plain = plain; outer = outer; subs = subs; group = group; items = items; distinct = distinct }

  abbrev query : Bound
  query = bind.query_step trees_layer

  abbrev shape : QueryShape
  shape = sound.query_step shapes_layer

  abbrev rows : Columns
  rows = from_columns elements

  abbrev columns : Columns
  columns = group_columns group rows

  rows-columns : (shape_of tables query.rows).columns ≡ rows
  rows-columns = joins-columns tables conjuncts (block_of parts plain) ∙ block-columns tables from plain

  rows-made : (shape_of tables query.rows).made ≡ shape.rows_made
  rows-made =
      joins-made tables conjuncts (block_of parts plain)
      ∙ ap (λ (made : List ColId). fold (λ made (sub : SubqueryShape). made ++ sub.made) made subs) (block-made tables from plain)

  columns-columns : (shape_of tables query.columns).columns ≡ shape.columns
  columns-columns = outputs-columns tables items (grouped group query.rows) columns (grouped-columns tables query.rows rows rows-columns group)

  columns-made : (shape_of tables query.columns).made ≡ shape.columns_made
  columns-made =
      outputs-made tables items (grouped group query.rows)
      ∙ ap (λ (made : List ColId). made ++ items_made items) (grouped-made tables query.rows rows rows-columns group ∙ ap (λ (made : List ColId). made ++ group_made group) rows-made)

  -- what is asked of a sound query
  asked : (enclosing : Columns) → shape.sound_in enclosing ≡ true
      → (from_sound elements ≡ true) × (all_typed rows plain ≡ true) × (all_typed (enclosing ++ rows) outer ≡ true) × (list_all (λ sub. sub.sound_in rows) subs ≡ true)
      × (group_sound group rows ≡ true) × (list_all (λ item. is_some (judged_kind columns item)) items ≡ true)
  asked enclosing holds =
      let first = and_parts (from_sound elements) _ holds in
      let second = and_parts (where_sound shapes_layer rows enclosing) _ first.1 in
      let third = and_parts (group_sound group rows) _ second.1 in
      let conditions = and_parts (all_typed rows plain) _ second.0 in
      let subqueries = and_parts (all_typed (enclosing ++ rows) outer) _ conditions.1 in
      (first.0, conditions.0, subqueries.0, subqueries.1, third.0, third.1)

  trees_sound : (enclosing : Columns) → shape.sound_in enclosing ≡ true → TreesSound tables query
  trees_sound enclosing holds =
      let all = asked enclosing holds in
      let block = from_block_sound tables from plain all.0 all.1 in
      let rows_sound = joins_sound tables conjuncts (block_of parts plain) rows (block-columns tables from plain) block all.3 in
      let groups = grouped_sound tables query.rows rows rows-columns group rows_sound all.4 in
      let columns_sound = outputs_sound tables items (grouped group query.rows) columns (grouped-columns tables query.rows rows rows-columns group) groups all.5 in
      record { rows = rows_sound; columns = columns_sound; whole = distinct_sound tables items query.columns columns columns-columns distinct columns_sound }

  pub query_fits : QueryFits tables query shape
  query_fits = record {
    rows = rows-columns;
    rows_made = rows-made;
    columns = columns-columns;
    columns_made = columns-made;
    whole = distinct-columns tables items query.columns columns columns-columns distinct ∙ columns-columns;
    whole_made = distinct-made tables items query.columns columns columns-columns distinct ∙ columns-made;
    sound = trees_sound;
    grouped = refl;
    reaches = refl;
    outer = λ enclosing holds. (asked enclosing holds).2;
    item = λ enclosing holds item is. first_item group items rows (asked enclosing holds).5 item is;
  }
