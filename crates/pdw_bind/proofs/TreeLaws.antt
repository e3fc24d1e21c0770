-- Queries: the tree of a query gives the rows of its numbered form.
use Rattle.std.proofs.Common.{◌≡◌, ◌==◌, Bool, true, false, true≢false, not, ◌&&◌, ◌||◌, List, [], ◌∷◌, ◌++◌, map, filter, fold, Option, Some, None, is_some, refl, sym, ap, ap₂, subst, eq-eqb, ◌∙◌, if◌then◌else◌}
use Rattle.std.specs.List.{list_all, list_any}
use Rattle.std.proofs.lemmas.Bool.{and_parts}
use Rattle.std.proofs.lemmas.List.{map-append}
use Rattle.pdw_algebra.specs.Meaning.{rows_of, rows_step}
use Rattle.pdw_algebra.specs.Shape.{all_apart, all_typed, are_apart, has_number, is_empty, item_column}
use Rattle.pdw_algebra.specs.Types.{item_kind_by, scalar_kind}
use Rattle.pdw_algebra.specs.Schema.{kind_at}
use Rattle.pdw_algebra.specs.declared.tree.Tree.{Tree}
use Rattle.pdw_algebra.specs.declared.tree.Tree.TheOpen.{Tree-F}
use Rattle.pdw_algebra.specs.declared.tree.Tree.TheFolds.{fold-roll-Tree}
use Rattle.pdw_algebra.specs.declared.tree.Tree.TheVariants as tree
use Rattle.pdw_base.specs.Schema.{Columns, Env}
use Rattle.pdw_base.specs.declared.schema.ColId.{ColId}
use Rattle.pdw_base.specs.declared.value.Value.{Value}
use Rattle.pdw_base.specs.declared.value.Value.TheVariants.{Null}
use Rattle.pdw_bind.specs.Bind as bind
use Rattle.pdw_bind.specs.Bind.{Bound, Part, block_of, distinct_if, in_condition, subquery_join, subquery_kind, subquery_tree}
use Rattle.pdw_form.specs.Columns.{each_item_once, each_number_once, first_of, new_item}
use Rattle.pdw_form.specs.Sound as sound
use Rattle.pdw_form.specs.Sound.{ElementShape, QueryShape, SubqueryShape, fit_block, from_columns, from_leaves, from_sound, group_columns, group_sound, judged_kind, kind_of_first, left_fits, output_columns, stands_alone, subquery_columns, subquery_sound, where_sound}
use Rattle.pdw_catalog.specs.Database.{Database}
use Rattle.pdw_expr.specs.Env.{nulls, or_else, union}
use Rattle.pdw_expr.specs.Parts.{each_once, same_row}
use Rattle.pdw_expr.specs.Rows.{filtered, item_value, first_row, group_row, grouped, joined, key_of, meets, products, projected}
use Rattle.pdw_expr.specs.declared.agg.Agg.{Agg}
use Rattle.pdw_expr.specs.declared.cond.Cond.{Cond}
use Rattle.pdw_expr.specs.declared.scalar.Scalar.{Scalar}
use Rattle.pdw_form.specs.Numbered as numbered
use Rattle.pdw_form.specs.Numbered.{NumberedMeaning, distinct_rows, group_rows, items_of, outs_of, subquery_holds}
use Rattle.pdw_form.specs.declared.judged.JFrom.TheOpen.{JudgedQuery-F}
use Rattle.pdw_form.specs.declared.judged.JGroup.{JGroup}
use Rattle.pdw_form.specs.declared.judged.JItem.{JItem}
use Rattle.pdw_bind.proofs.OnceLaws.{distinct_once, items_once, keys_once}
use Rattle.pdw_algebra.proofs.Products.{all-filter, filter-all, filter-filter}
use Rattle.pdw_bind.proofs.SubqueryRows.{SidesWithin, item_columns, subquery_meaning, subquery_rows, subquery_side}
use Rattle.pdw_bind.proofs.TreeFromLaws.{Elements, block-rows, rows-join}
use Rattle.pdw_algebra.proofs.Used.{has_number-left, kind-there, same-first, same-second, scalar-within}
use Rattle.pdw_algebra.proofs.WithinLaws.{UsesOnly}
use Rattle.pdw_algebra.specs.Within.{AllWithin, IsWithin}

-- ---- output columns

-- a projected row has nothing outside its output columns
projected-within : (columns : Columns) (items : List (ColId × Option Scalar)) (row : Env) → IsWithin (map (item_column columns) items) (projected items row)
projected-within columns items row = record { elsewhere = λ c absent. each items c absent }
  where
    each : (items : List (ColId × Option Scalar)) (c : ColId) → has_number c (map (item_column columns) items) ≡ false → projected items row c ≡ Null
    each [] c = λ absent. refl
    each (item ∷ items) c = by (item.0.0 == c.0) (each items c)
      where
        by : (here : Bool) → (has_number c (map (item_column columns) items) ≡ false → projected items row c ≡ Null)
            → (here || has_number c (map (item_column columns) items)) ≡ false → (if here then item_value row item.0 item.1 else projected items row c) ≡ Null
        by true rest absent = absurd (true≢false absent)
        by false rest absent = rest absent

outputs-within : (items : List JItem) (columns : Columns) (rows : List Env) → AllWithin (output_columns items columns) (map (projected (each_item_once items)) rows)
outputs-within items columns [] = tt
outputs-within items columns (row ∷ rows) = (projected-within columns (each_item_once items) row, outputs-within items columns rows)

-- the number of an item stays among those that are there once
module _ (columns : Columns) (c : ColId) where
  number-stays : (before : List (ColId × Option Scalar)) (items : List JItem) → has_number c (map (item_column columns) before) ≡ true → has_number c (map (item_column columns) (fold new_item before items)) ≡ true
  number-stays before [] there = there
  number-stays before (item ∷ items) there = number-stays (new_item before item) items (by (list_any (λ other. other.0.0 == item.out.0) before))
    where
      by : (again : Bool) → has_number c (map (item_column columns) (if again then before else before ++ (item.out, item.make) ∷ [])) ≡ true
      by true = there
      by false =
          ap (has_number c) (map-append (item_column columns) before ((item.out, item.make) ∷ []))
          ∙ has_number-left (map (item_column columns) before) (map (item_column columns) ((item.out, item.make) ∷ [])) c there

first-there : (columns : Columns) (item : JItem) (items : List JItem) → has_number item.out (output_columns (item ∷ items) columns) ≡ true
first-there columns item items = number-stays columns item.out ((item.out, item.make) ∷ []) items (ap (λ b. b || false) (eq-eqb item.out.0 item.out.0 refl))

-- an item without groups uses the columns of FROM
item-uses : (columns : Columns) (item : JItem) → is_some (judged_kind columns item) ≡ true → UsesOnly columns (item_columns false item)
item-uses columns item there = by item.make there
  where
    by : (make : Option Scalar) → is_some (item_kind_by columns (kind_at columns item.out) make) ≡ true → UsesOnly columns (item_columns false (record item { make = make }))
    by None there = (kind-there columns item.out there, tt)
    by (Some x) there = scalar-within columns x there

-- ---- rows each once

first-within : (columns : Columns) (rows : List Env) → AllWithin columns rows → IsWithin columns (first_row rows)
first-within columns [] all = record { elsewhere = λ c absent. refl }
first-within columns (row ∷ rows) all = all.0

group-within : (columns : Columns) (outs : List ColId) (rows : List Env) → AllWithin columns rows → IsWithin columns (group_row outs [] rows)
group-within columns outs rows all = record { elsewhere = λ c absent. by (list_any (λ key. key.0 == c.0) outs) (first_row rows c) ((first-within columns rows all).elsewhere c absent) }
  where
    by : (key : Bool) (value : Value) → value ≡ Null → or_else (if key then value else Null) Null ≡ Null
    by true value none = ap (λ v. or_else v Null) none
    by false value none = refl

distinct-within : (columns : Columns) (distinct : Bool) (outs : List ColId) (rows : List Env) → AllWithin columns rows → AllWithin columns (distinct_rows distinct outs rows)
distinct-within columns false outs rows all = all
distinct-within columns true outs rows all = each (each_once (map (key_of outs) rows))
  where
    each : (keys : List (List Value)) → AllWithin columns (map (group_row outs []) (map (λ k. filter (λ row. same_row (key_of outs row) k) rows) keys))
    each [] = tt
    each (k ∷ keys) =
        (group-within columns outs (filter (λ row. same_row (key_of outs row) k) rows) (all-filter (IsWithin columns) (λ row. same_row (key_of outs row) k) rows all), each keys)

-- ---- no conjunct with a column of the enclosing query

none-outer : (a : Bool) (conds : List Cond) → not (a && not (is_empty conds)) ≡ true → a ≡ true → conds ≡ []
none-outer a [] e is = refl
none-outer true (c ∷ conds) e is = absurd (true≢false (sym e))
none-outer false (c ∷ conds) e is = absurd (true≢false (sym is))

-- what a query makes of the rows that FROM and WHERE keep, whatever the enclosing query's row
pub record QueryParts : Type 0 where
  pub distinct : Bool
  pub items : List JItem
  pub group : Option JGroup
  pub kept : List Env

module _ (database : Database) where
  -- ---- rows of trees

  rows-filtered : (having : List Cond) (t : Tree) → rows_of database (bind.filtered having t) ≡ filtered having (rows_of database t)
  rows-filtered [] t = sym (filter-all (meets []) (λ row. refl) (rows_of database t))
  rows-filtered (c ∷ conds) t = ap (rows_of database) (sym (tree.rolls-Filter (c ∷ conds) t)) ∙ fold-roll-Tree (List Env) (rows_step database) (Tree-F.Filter (c ∷ conds) t)

  rows-groups : (keys : List ColId) (aggs : List Agg) (t : Tree) → rows_of database (tree.GroupBy keys aggs t) ≡ grouped keys aggs (rows_of database t)
  rows-groups keys aggs t = ap (rows_of database) (sym (tree.rolls-GroupBy keys aggs t)) ∙ fold-roll-Tree (List Env) (rows_step database) (Tree-F.GroupBy keys aggs t)

  rows-project : (items : List (ColId × Option Scalar)) (t : Tree) → rows_of database (tree.Project items t) ≡ map (projected items) (rows_of database t)
  rows-project items t = ap (rows_of database) (sym (tree.rolls-Project items t)) ∙ fold-roll-Tree (List Env) (rows_step database) (Tree-F.Project items t)

  rows-grouped : (group : Option JGroup) (t : Tree) → rows_of database (bind.grouped group t) ≡ group_rows group (rows_of database t)
  rows-grouped None t = refl
  rows-grouped (Some group) t =
      rows-filtered group.having (tree.GroupBy (each_number_once group.keys) group.aggs t)
      ∙ ap (filtered group.having) (rows-groups (each_number_once group.keys) group.aggs t ∙ keys_once group.keys group.aggs (rows_of database t))

  rows-outputs : (items : List JItem) (group : Option JGroup) (t : Tree) (kept : List Env) → rows_of database t ≡ kept
      → rows_of database (tree.Project (each_item_once items) (bind.grouped group t)) ≡ map (projected (items_of items)) (group_rows group kept)
  rows-outputs items group t kept is =
      rows-project (each_item_once items) (bind.grouped group t)
      ∙ ap₂ (λ row rows. map row rows) (items_once items) (rows-grouped group t ∙ ap (group_rows group) is)

  rows-distinct : (distinct : Bool) (items : List JItem) (t : Tree) → is_some (first_of items) ≡ true
      → rows_of database (distinct_if distinct items t) ≡ distinct_rows distinct (outs_of items) (rows_of database t)
  rows-distinct true items t there = rows-groups (each_number_once (map (λ item. item.out) items)) [] t ∙ distinct_once items there (rows_of database t)
  rows-distinct false items t there = refl

  -- ---- what is known of a query

  -- the rows of its trees
  pub record TreesMean (parts : QueryParts) (shape : QueryShape) (query : Bound) : Type 0 where
    pub rows : rows_of database query.rows ≡ parts.kept
    pub within : AllWithin shape.rows parts.kept
    pub columns : rows_of database query.columns ≡ map (projected (items_of parts.items)) (group_rows parts.group parts.kept)
    pub whole : is_some (first_of parts.items) ≡ true → rows_of database query.whole ≡ distinct_rows parts.distinct (outs_of parts.items) (rows_of database query.columns)

  -- its numbered form, its shape and, where it is sound, its trees have the same parts
  pub record QueryMeans (parts : QueryParts) (shape : QueryShape) (meaning : NumberedMeaning) (query : Bound) : Type 0 where
    pub numbered : meaning ≡ subquery_meaning parts.distinct parts.items parts.group query.outer parts.kept
    pub grouped : query.is_grouped ≡ is_some parts.group
    pub item : query.item ≡ first_of parts.items
    pub shape_grouped : shape.is_grouped ≡ is_some parts.group
    pub shape_kind : shape.first_kind ≡ kind_of_first (group_columns parts.group shape.rows) (first_of parts.items)
    pub shape_items : shape.has_items ≡ is_some (first_of parts.items)
    pub shape_columns : shape.columns ≡ output_columns parts.items (group_columns parts.group shape.rows)
    pub reaches : shape.reaches ≡ not (is_empty query.outer)
    pub trees : (outer : Columns) → shape.sound_in outer ≡ true → TreesMean parts shape query

  -- ---- a query that stands by itself

  unreached : (conds : List Cond) (rows : List Env) → conds ≡ [] → filter (λ r. meets conds (union r nulls)) rows ≡ rows
  unreached conds rows none = ap (λ conds. filter (λ r. meets conds (union r nulls)) rows) none ∙ filter-all (λ r. meets [] (union r nulls)) (λ r. refl) rows

  module _ (parts : QueryParts) (shape : QueryShape) (meaning : NumberedMeaning) (query : Bound) (means : QueryMeans parts shape meaning query) (stands : stands_alone shape ≡ true) where
    alone : (shape.sound_in [] ≡ true) × (query.outer ≡ []) × (is_some (first_of parts.items) ≡ true)
    alone =
        let all = and_parts (shape.sound_in []) (not shape.reaches && shape.has_items) stands in
        let rest = and_parts (not shape.reaches) shape.has_items all.1 in
        (all.0, none-outer true query.outer (ap not (sym means.reaches) ∙ rest.0) refl, sym means.shape_items ∙ rest.1)

    meaning-rows : meaning.rows nulls ≡ distinct_rows parts.distinct (outs_of parts.items) (map (projected (items_of parts.items)) (group_rows parts.group parts.kept))
    meaning-rows =
        ap (λ m. m.rows nulls) means.numbered
        ∙ ap (λ kept. distinct_rows parts.distinct (outs_of parts.items) (map (projected (items_of parts.items)) (group_rows parts.group kept))) (unreached query.outer parts.kept alone.1)

    pub whole-rows : rows_of database query.whole ≡ meaning.rows nulls
    whole-rows =
        let trees = means.trees [] alone.0 in
        trees.whole alone.2 ∙ ap (distinct_rows parts.distinct (outs_of parts.items)) trees.columns ∙ sym meaning-rows

    pub whole-within : AllWithin shape.columns (meaning.rows nulls)
    whole-within =
        let columns = group_columns parts.group shape.rows in
        let rows = group_rows parts.group parts.kept in
        let outputs = subst (λ row. AllWithin (output_columns parts.items columns) (map row rows)) (items_once parts.items) (outputs-within parts.items columns rows) in
        subst (λ c. AllWithin c (meaning.rows nulls)) (sym means.shape_columns)
        (subst (AllWithin (output_columns parts.items columns)) (sym meaning-rows)
        (distinct-within (output_columns parts.items columns) parts.distinct (outs_of parts.items) (map (projected (items_of parts.items)) rows) outputs))

  -- ---- subqueries

  -- where a subquery conjunct is sound within the columns of the tree so far, its join keeps the rows for which it holds
  abbrev pub SubqueryLaw : SubqueryShape → (Env → Bool) → (Tree → Tree) → Type 0
  SubqueryLaw shape holds join =
      (outer : Columns) → shape.sound_in outer ≡ true → (t : Tree) → AllWithin outer (rows_of database t) → rows_of database (join t) ≡ filter holds (rows_of database t)

  module _ (parts : QueryParts) (shape : QueryShape) (meaning : NumberedMeaning) (query : Bound) (means : QueryMeans parts shape meaning query) where
    side-rows : TreesMean parts shape query → rows_of database (subquery_tree query) ≡ subquery_side parts.group parts.items parts.kept
    side-rows trees = ap (λ (b : Bool). rows_of database (if b then query.columns else query.rows)) means.grouped ∙ by parts.group trees.columns
      where
        by : (group : Option JGroup) → rows_of database query.columns ≡ map (projected (items_of parts.items)) (group_rows group parts.kept)
            → rows_of database (if is_some group then query.columns else query.rows) ≡ subquery_side group parts.items parts.kept
        by None columns = trees.rows
        by (Some group) columns = columns ∙ sym (ap (λ row. map row (group_rows (Some group) parts.kept)) (items_once parts.items))

    abbrev side_columns : Option JGroup → Columns
    side_columns group = if is_some group then shape.columns else shape.rows

    side-columns : subquery_columns shape ≡ side_columns parts.group
    side-columns = ap (λ (b : Bool). if b then shape.columns else shape.rows) means.shape_grouped

    side-within : TreesMean parts shape query → AllWithin (side_columns parts.group) (subquery_side parts.group parts.items parts.kept)
    side-within trees = by parts.group means.shape_columns
      where
        by : (group : Option JGroup) → shape.columns ≡ output_columns parts.items (group_columns group shape.rows) → AllWithin (side_columns group) (subquery_side group parts.items parts.kept)
        by None columns = trees.within
        by (Some group) columns =
            let rows = group_rows (Some group) parts.kept in
            subst (λ c. AllWithin c (map (projected (each_item_once parts.items)) rows)) (sym columns) (outputs-within parts.items (group_columns (Some group) shape.rows) rows)

    nothing-outer : not (shape.is_grouped && shape.reaches) ≡ true → is_some parts.group ≡ true → query.outer ≡ []
    nothing-outer sound is = none-outer (is_some parts.group) query.outer (ap₂ (λ a b. not (a && b)) (sym means.shape_grouped) (sym means.reaches) ∙ sound) is

    -- x IN (SELECT item ..): x and the item have kinds
    sides-within : (outer : Columns) (left : Option Scalar) → left_fits left shape outer ≡ true → SidesWithin (is_some parts.group) left (first_of parts.items) outer (side_columns parts.group)
    sides-within outer left fits = by left parts.group parts.items means.shape_kind means.shape_columns fits
      where
        by : (left : Option Scalar) (group : Option JGroup) (items : List JItem) → shape.first_kind ≡ kind_of_first (group_columns group shape.rows) (first_of items)
            → shape.columns ≡ output_columns items (group_columns group shape.rows) → left_fits left shape outer ≡ true → SidesWithin (is_some group) left (first_of items) outer (side_columns group)
        by None group items kind columns fits = tt
        by (Some x) group [] kind columns fits = absurd (true≢false (sym (same-second (scalar_kind outer x) shape.first_kind fits) ∙ ap is_some kind))
        by (Some x) None (item ∷ items) kind columns fits = (
          scalar-within outer x (same-first (scalar_kind outer x) shape.first_kind fits),
          item-uses shape.rows item (sym (ap is_some kind) ∙ same-second (scalar_kind outer x) shape.first_kind fits),
        )
        by (Some x) (Some group) (item ∷ items) kind columns fits = (
          scalar-within outer x (same-first (scalar_kind outer x) shape.first_kind fits),
          (subst (λ c. has_number item.out c ≡ true) (sym columns) (first-there (group_columns (Some group) shape.rows) item items), tt),
        )

    pub subquery-means : (negated : Bool) (left : Option Scalar) (made : List ColId)
        → SubqueryLaw (record { made = made; sound_in = subquery_sound left shape }) (subquery_holds negated left meaning) (subquery_join negated left query)
    subquery-means negated left made outer sound t within =
        let all = and_parts (shape.sound_in outer) (are_apart outer (subquery_columns shape) && (left_fits left shape outer && not (shape.is_grouped && shape.reaches))) sound in
        let apart = and_parts (are_apart outer (subquery_columns shape)) (left_fits left shape outer && not (shape.is_grouped && shape.reaches)) all.1 in
        let fits = and_parts (left_fits left shape outer) (not (shape.is_grouped && shape.reaches)) apart.1 in
        let trees = means.trees outer all.0 in
        let rows = rows_of database t in
        rows-join database (subquery_kind negated) (in_condition negated left query ++ query.outer) t (subquery_tree query)
        ∙ ap (joined (subquery_kind negated) (in_condition negated left query ++ query.outer) rows) (side-rows trees)
        ∙ sym (subquery_rows negated left query parts.group parts.items parts.distinct outer (side_columns parts.group) parts.kept rows means.grouped means.item (nothing-outer fits.1)
        (ap (are_apart outer) (sym side-columns) ∙ apart.0) within (side-within trees) (sides-within outer left fits.0))
        ∙ ap (λ m. filter (subquery_holds negated left m) rows) (sym means.numbered)

  pub data Subqueries : List SubqueryShape → List (Env → Bool) → List (Tree → Tree) → Type 0 where
    none : Subqueries [] [] []
    more : {shape : SubqueryShape} {holds : Env → Bool} {join : Tree → Tree} {shapes : List SubqueryShape} {others : List (Env → Bool)} {joins : List (Tree → Tree)}
        → SubqueryLaw shape holds join → Subqueries shapes others joins → Subqueries (shape ∷ shapes) (holds ∷ others) (join ∷ joins)

  -- one subquery conjunct after another
  subqueries-rows : {shapes : List SubqueryShape} {holds : List (Env → Bool)} {joins : List (Tree → Tree)} → Subqueries shapes holds joins → (columns : Columns)
      → list_all (λ sub. sub.sound_in columns) shapes ≡ true → (t : Tree) → AllWithin columns (rows_of database t)
      → rows_of database (fold (λ t join. join t) t joins) ≡ filter (λ row. list_all (λ test. test row) holds) (rows_of database t)
  subqueries-rows none columns sound t within = sym (filter-all (λ row. true) (λ row. refl) (rows_of database t))
  subqueries-rows (more {shape = shape} {holds = holds} {join = join} {shapes = shapes} {others = others} law rest) columns sound t within =
      let both = and_parts (shape.sound_in columns) (list_all (λ sub. sub.sound_in columns) shapes) sound in
      let here = law columns both.0 t within in
      let kept = subst (AllWithin columns) (sym here) (all-filter (IsWithin columns) holds (rows_of database t) within) in
      subqueries-rows rest columns both.1 (join t) kept
      ∙ ap (filter (λ row. list_all (λ test. test row) others)) here
      ∙ filter-filter (λ row. list_all (λ test. test row) others) holds (rows_of database t)

  -- ---- a query by its parts

  module _ {shapes : List ElementShape} {rows : List (List Env)} {froms : List Part} (elements : Elements database shapes rows froms)
      {sub_shapes : List SubqueryShape} {holds : List (Env → Bool)} {joins : List (Tree → Tree)} (subqueries : Subqueries sub_shapes holds joins)
      (plain outer : List Cond) (group : Option JGroup) (items : List JItem) (distinct : Bool) where
    abbrev shape_parts : JudgedQuery-F ElementShape SubqueryShape QueryShape
    shape_parts = record { from = shapes; plain = plain; outer = outer; subs = sub_shapes; group = group; items = items; distinct = distinct }

    abbrev meaning_parts : JudgedQuery-F (List Env) (Env → Bool) NumberedMeaning
    meaning_parts = record { from = rows; plain = plain; outer = outer; subs = holds; group = group; items = items; distinct = distinct }

    abbrev tree_parts : JudgedQuery-F Part (Tree → Tree) Bound
    tree_parts = record { from = froms; plain = plain; outer = outer; subs = joins; group = group; items = items; distinct = distinct }

    abbrev pub query_parts : QueryParts
    query_parts = record { distinct = distinct; items = items; group = group; kept = numbered.kept_rows database meaning_parts }

    trees-mean : (enclosing : Columns) → (sound.query_step shape_parts).sound_in enclosing ≡ true → TreesMean query_parts (sound.query_step shape_parts) (bind.query_step tree_parts)
    trees-mean enclosing sound =
        let columns = from_columns shapes in
        let all = and_parts (from_sound shapes) _ sound in
        let from = and_parts (list_all (λ shape. shape.sound) shapes) (fit_block (from_leaves shapes) && all_apart (map (λ shape. shape.columns) shapes)) all.0 in
        let apart = and_parts (fit_block (from_leaves shapes)) (all_apart (map (λ shape. shape.columns) shapes)) from.1 in
        let where_part = and_parts (where_sound shape_parts columns enclosing) _ all.1 in
        let conds = and_parts (all_typed columns plain) _ where_part.0 in
        let subs = and_parts (all_typed (enclosing ++ columns) outer) (list_all (λ sub. sub.sound_in columns) sub_shapes) conds.1 in
        let block = block-rows database elements from.0 apart.1 plain in
        let first = all-filter (IsWithin columns) (meets plain) (products rows) block.1 in
        let kept = subqueries-rows subqueries columns subs.1 (block_of froms plain) (subst (AllWithin columns) (sym block.0) first) ∙ ap (filter (λ row. list_all (λ test. test row) holds)) block.0 in
        record {
          rows = kept;
          within = all-filter (IsWithin columns) (λ row. list_all (λ test. test row) holds) (filtered plain (products rows)) first;
          columns = rows-outputs items group (bind.rows_tree tree_parts) query_parts.kept kept;
          whole = λ there. rows-distinct distinct items (bind.columns_tree tree_parts) there;
        }

    pub query-means : QueryMeans query_parts (sound.query_step shape_parts) (numbered.query_step database meaning_parts) (bind.query_step tree_parts)
    query-means = record {
      numbered = refl;
      grouped = refl;
      item = refl;
      shape_grouped = refl;
      shape_kind = refl;
      shape_items = refl;
      shape_columns = refl;
      reaches = refl;
      trees = trees-mean;
    }
