-- FROM: the rows of an element are those of its leaves side by side for which its conjuncts hold.
use Rattle.std.proofs.Common.{◌≡◌, ◌==◌, Bool, true, false, ◌&&◌, ◌||◌, List, [], ◌∷◌, ◌++◌, map, refl, sym, ap, ap₂, subst, slice_index_or, subst₂, true≢false, append-nil, ◌∙◌, ℕ, if◌then◌else◌}
use Rattle.std.specs.List.{flat_map, list_all}
use Rattle.std.proofs.lemmas.Bool.{and_parts}
use Rattle.std.proofs.lemmas.List.{map-append}
use Rattle.std.proofs.lemmas.List.Folds.{flat_map-map}
use Rattle.pdw_algebra.specs.Meaning.{rows_of, rows_step}
use Rattle.pdw_algebra.specs.Shape.{all_apart, all_typed, are_apart, columns_in, has_number, scan_column}
use Rattle.pdw_algebra.specs.declared.tree.Tree.{Tree}
use Rattle.pdw_algebra.specs.declared.tree.Tree.TheOpen.{Tree-F}
use Rattle.pdw_algebra.specs.declared.tree.Tree.TheFolds.{fold-roll-Tree}
use Rattle.pdw_algebra.specs.declared.tree.Tree.TheVariants as tree
use Rattle.pdw_syntax.specs.declared.query.JoinWord.{JoinWord}
use Rattle.pdw_syntax.specs.declared.query.JoinWord.TheVariants as word
use Rattle.pdw_base.specs.Schema.{Columns, Env}
use Rattle.pdw_base.specs.declared.schema.ColId.{ColId}
use Rattle.pdw_base.specs.declared.value.Value.{Value}
use Rattle.pdw_base.specs.declared.value.Value.TheVariants.{Null}
use Rattle.pdw_bind.specs.Bind as bind
use Rattle.pdw_bind.specs.Bind.{Part, all_parts, block_of, leaf, together, unit_of}
use Rattle.pdw_form.specs.Sound.{ElementShape, from_columns, joined_shape, sides_sound}
use Rattle.pdw_catalog.specs.Catalog.{Tables, table_named}
use Rattle.pdw_catalog.specs.Database.{Database}
use Rattle.pdw_catalog.specs.declared.table.Column.{Column}
use Rattle.pdw_expr.specs.Env.{union}
use Rattle.pdw_expr.specs.Join.{crossed, full_joined, inner_joined, left_joined}
use Rattle.pdw_expr.specs.Rows.{filtered, itself, joined, meets, products, scanned}
use Rattle.pdw_expr.specs.declared.agg.JoinKind.{JoinKind}
use Rattle.pdw_expr.specs.declared.agg.JoinKind.TheVariants as kind
use Rattle.pdw_expr.specs.declared.cond.Cond.{Cond}
use Rattle.pdw_form.specs.Numbered.{joined_rows}
use Rattle.pdw_algebra.proofs.Products.{all-filter, block-filter, filter-all, filtered-append, inner-crossed, products-append, products-cons, products-one, within-crossed, within-full_joined, within-left_joined}
use Rattle.pdw_algebra.proofs.Used.{CondsUse, conds-use, uses-after, uses-append, uses-more}
use Rattle.pdw_algebra.specs.Within.{AllWithin, IsWithin}

-- both sides of a join are sound, have no number in common, and its ON is typed
sides : (left right : ElementShape) (on : List Cond) → sides_sound left right on ≡ true
    → (left.sound ≡ true) × (right.sound ≡ true) × (are_apart left.columns right.columns ≡ true) × (all_typed (left.columns ++ right.columns) on ≡ true)
sides left right on all =
    let halves = and_parts (left.sound && right.sound) (are_apart left.columns right.columns && all_typed (left.columns ++ right.columns) on) all in
    let both = and_parts left.sound right.sound halves.0 in
    let rest = and_parts (are_apart left.columns right.columns) (all_typed (left.columns ++ right.columns) on) halves.1 in
    (both.0, both.1, rest.0, rest.1)

-- a positional row has nothing outside the columns that are read
scanned-within : (columns : List Column) (cols : List (ColId × ℕ)) (row : List Value) → IsWithin (map (scan_column columns) cols) (scanned cols row)
scanned-within columns cols row = record { elsewhere = λ c absent. each cols c absent }
  where
    each : (cols : List (ColId × ℕ)) (c : ColId) → has_number c (map (scan_column columns) cols) ≡ false → scanned cols row c ≡ Null
    each [] c = λ absent. refl
    each (col ∷ cols) c = by (col.0.0 == c.0) (each cols c)
      where
        by : (here : Bool) → (has_number c (map (scan_column columns) cols) ≡ false → scanned cols row c ≡ Null)
            → (here || has_number c (map (scan_column columns) cols)) ≡ false → (if here then slice_index_or row col.1 Null else scanned cols row c) ≡ Null
        by true rest absent = absurd (true≢false absent)
        by false rest absent = rest absent

scans-within : (columns : List Column) (cols : List (ColId × ℕ)) (rows : List (List Value)) → AllWithin (map (scan_column columns) cols) (map (scanned cols) rows)
scans-within columns cols [] = tt
scans-within columns cols (row ∷ rows) = (scanned-within columns cols row, scans-within columns cols rows)

module _ (database : Database) where
  -- the rows of leaves side by side
  abbrev pub leaf_rows : List Tree → List Env
  leaf_rows leaves = products (map (rows_of database) leaves)

  -- ---- rows of trees

  pub rows-block : (leaves : List Tree) (conds : List Cond) → rows_of database (tree.Block leaves conds) ≡ filtered conds (leaf_rows leaves)
  rows-block leaves conds = ap (rows_of database) (sym (tree.rolls-Block leaves conds)) ∙ fold-roll-Tree (List Env) (rows_step database) (Tree-F.Block leaves conds)

  pub rows-join : (kind : JoinKind) (conds : List Cond) (left right : Tree) → rows_of database (tree.Join kind conds left right) ≡ joined kind conds (rows_of database left) (rows_of database right)
  rows-join kind conds left right = ap (rows_of database) (sym (tree.rolls-Join kind conds left right)) ∙ fold-roll-Tree (List Env) (rows_step database) (Tree-F.Join kind conds left right)

  rows-scan : (table alias : List ℕ) (cols : List (ColId × ℕ)) → rows_of database (tree.Scan table alias cols) ≡ map (scanned cols) (database.rows table)
  rows-scan table alias cols = ap (rows_of database) (sym (tree.rolls-Scan table alias cols)) ∙ fold-roll-Tree (List Env) (rows_step database) (Tree-F.Scan table alias cols)

  rows-one : (t : Tree) → leaf_rows (t ∷ []) ≡ rows_of database t
  rows-one t = products-one (rows_of database t)

  unit-of : (leaves : List Tree) (conds : List Cond) → rows_of database (unit_of (record { leaves = leaves; conds = conds })) ≡ filtered conds (leaf_rows leaves)
  unit-of [] conds = rows-block [] conds
  unit-of (t ∷ []) [] = sym (filter-all (meets []) (λ row. refl) (leaf_rows (t ∷ [])) ∙ rows-one t)
  unit-of (t ∷ []) (c ∷ conds) = rows-block (t ∷ []) (c ∷ conds)
  unit-of (t ∷ u ∷ rest) conds = rows-block (t ∷ u ∷ rest) conds

  pub rows-unit : (part : Part) → rows_of database (unit_of part) ≡ filtered part.conds (leaf_rows part.leaves)
  rows-unit part = unit-of part.leaves part.conds

  leaves-append : (xs ys : List Tree) → leaf_rows (xs ++ ys) ≡ crossed union (leaf_rows xs) (leaf_rows ys)
  leaves-append xs ys = ap products (map-append (rows_of database) xs ys) ∙ products-append (map (rows_of database) xs) (map (rows_of database) ys)

  -- ---- what an element adds to the block of its query, by its columns and its rows

  pub record ElementMeans (columns : Columns) (rows : List Env) (part : Part) : Type 0 where
    pub uses : CondsUse columns part.conds
    pub within : AllWithin columns (leaf_rows part.leaves)
    pub same : rows ≡ filtered part.conds (leaf_rows part.leaves)

  -- where its shape is sound
  abbrev pub ElementLaw : ElementShape → List Env → Part → Type 0
  ElementLaw shape rows part = shape.sound ≡ true → ElementMeans shape.columns rows part

  pub leaf-means : (columns : Columns) (rows : List Env) (t : Tree) → AllWithin columns rows → rows ≡ rows_of database t → ElementMeans columns rows (leaf t)
  leaf-means columns rows t within is = record {
    uses = tt;
    within = subst (AllWithin columns) (is ∙ sym (rows-one t)) within;
    same = is ∙ sym (filter-all (meets []) (λ row. refl) (leaf_rows (t ∷ [])) ∙ rows-one t);
  }

  element-within : (columns : Columns) (rows : List Env) (part : Part) → ElementMeans columns rows part → AllWithin columns rows
  element-within columns rows part means = subst (AllWithin columns) (sym means.same) (all-filter (IsWithin columns) (meets part.conds) (leaf_rows part.leaves) means.within)

  unit-same : (columns : Columns) (rows : List Env) (part : Part) → ElementMeans columns rows part → rows ≡ rows_of database (unit_of part)
  unit-same columns rows part means = means.same ∙ sym (rows-unit part)

  pub table-means : (tables : Tables) (table alias : List ℕ) (cols : List (ColId × ℕ)) → ElementMeans (map (scan_column (columns_in (table_named table tables))) cols) (map (scanned cols) (database.rows table)) (leaf (tree.Scan table alias cols))
  table-means tables table alias cols =
      leaf-means (map (scan_column (columns_in (table_named table tables))) cols) (map (scanned cols) (database.rows table)) (tree.Scan table alias cols)
      (scans-within (columns_in (table_named table tables)) cols (database.rows table)) (sym (rows-scan table alias cols))

  -- ---- joins

  module _ (left right : Columns) (apart : are_apart left right ≡ true) (left_rows right_rows : List Env) (left_part right_part : Part)
      (first : ElementMeans left left_rows left_part) (second : ElementMeans right right_rows right_part) where
    -- the leaves and conjuncts of both, and further conjuncts
    side-by-side : (on : List Cond) → CondsUse (left ++ right) on → ElementMeans (left ++ right) (inner_joined union (meets on) left_rows right_rows) (together left_part right_part on)
    side-by-side on on_use = record {
      uses = uses-append (left ++ right) (left_part.conds ++ right_part.conds) on
          (uses-append (left ++ right) left_part.conds right_part.conds (uses-more left right left_part.conds first.uses) (uses-after left right right_part.conds second.uses)) on_use;
      within = subst (AllWithin (left ++ right)) (sym (leaves-append left_part.leaves right_part.leaves))
          (within-crossed left right (leaf_rows left_part.leaves) (leaf_rows right_part.leaves) first.within second.within);
      same =
          inner-crossed (meets on) left_rows right_rows
          ∙ ap₂ (λ ls rs. filtered on (crossed union ls rs)) first.same second.same
          ∙ block-filter left right apart left_part.conds right_part.conds on first.uses second.uses (leaf_rows left_part.leaves) (leaf_rows right_part.leaves) first.within second.within
          ∙ ap (filtered ((left_part.conds ++ right_part.conds) ++ on)) (sym (leaves-append left_part.leaves right_part.leaves));
    }

    -- outer joins have both sides as trees of their own
    unit-join : (kind : JoinKind) (on : List Cond) → AllWithin (left ++ right) (joined kind on left_rows right_rows) → ElementMeans (left ++ right) (joined kind on left_rows right_rows) (bind.outer_join kind on left_part right_part)
    unit-join kind on within =
        leaf-means (left ++ right) (joined kind on left_rows right_rows) (tree.Join kind on (unit_of left_part) (unit_of right_part)) within
        (ap₂ (joined kind on) (unit-same left left_rows left_part first) (unit-same right right_rows right_part second) ∙ sym (rows-join kind on (unit_of left_part) (unit_of right_part)))

    left-join : (on : List Cond) → ElementMeans (left ++ right) (left_joined union (meets on) itself left_rows right_rows) (bind.outer_join kind.Left on left_part right_part)
    left-join on = unit-join kind.Left on
        (within-left_joined left right (meets on) left_rows right_rows (element-within left left_rows left_part first) (element-within right right_rows right_part second))

    full-join : (on : List Cond) → ElementMeans (left ++ right) (full_joined union (meets on) itself itself left_rows right_rows) (bind.outer_join kind.Full on left_part right_part)
    full-join on = unit-join kind.Full on
        (within-full_joined left right (meets on) left_rows right_rows (element-within left left_rows left_part first) (element-within right right_rows right_part second))

  module _ (left right : ElementShape) (left_rows right_rows : List Env) (left_part right_part : Part) (first : ElementLaw left left_rows left_part) (second : ElementLaw right right_rows right_part) where
    block-means : (on : List Cond) → sides_sound left right on ≡ true → ElementMeans (left.columns ++ right.columns) (inner_joined union (meets on) left_rows right_rows) (together left_part right_part on)
    block-means on all =
        let parts = sides left right on all in
        side-by-side left.columns right.columns parts.2 left_rows right_rows left_part right_part (first parts.0) (second parts.1) on (conds-use (left.columns ++ right.columns) on parts.3)

    left-means : (on : List Cond) → sides_sound left right on ≡ true → ElementMeans (left.columns ++ right.columns) (left_joined union (meets on) itself left_rows right_rows) (bind.outer_join kind.Left on left_part right_part)
    left-means on all =
        let parts = sides left right on all in
        left-join left.columns right.columns parts.2 left_rows right_rows left_part right_part (first parts.0) (second parts.1) on

    full-means : (on : List Cond) → sides_sound left right on ≡ true → ElementMeans (left.columns ++ right.columns) (full_joined union (meets on) itself itself left_rows right_rows) (bind.outer_join kind.Full on left_part right_part)
    full-means on all =
        let parts = sides left right on all in
        full-join left.columns right.columns parts.2 left_rows right_rows left_part right_part (first parts.0) (second parts.1) on

  pub join-means : (word : JoinWord) (left right : ElementShape) (left_rows right_rows : List Env) (left_part right_part : Part) (on : List Cond) → ElementLaw left left_rows left_part → ElementLaw right right_rows right_part
      → ElementLaw (joined_shape word left right on) (joined_rows word on left_rows right_rows) (bind.joined word left_part right_part on)
  join-means word.Cross left right left_rows right_rows left_part right_part on first second all = block-means left right left_rows right_rows left_part right_part first second on all
  join-means word.Inner left right left_rows right_rows left_part right_part on first second all = block-means left right left_rows right_rows left_part right_part first second on all
  join-means word.Left left right left_rows right_rows left_part right_part on first second all = left-means left right left_rows right_rows left_part right_part first second on (and_parts (sides_sound left right on) _ all).0
  join-means word.Right left right left_rows right_rows left_part right_part on first second all = left-means right left right_rows left_rows right_part left_part second first on (and_parts (sides_sound right left on) _ all).0
  join-means word.Full left right left_rows right_rows left_part right_part on first second all = full-means left right left_rows right_rows left_part right_part first second on (and_parts (sides_sound left right on) _ all).0

  -- ---- FROM

  pub data Elements : List ElementShape → List (List Env) → List Part → Type 0 where
    none : Elements [] [] []
    more : {shape : ElementShape} {rows : List Env} {part : Part} {shapes : List ElementShape} {others : List (List Env)} {parts : List Part}
        → ElementLaw shape rows part → Elements shapes others parts → Elements (shape ∷ shapes) (rows ∷ others) (part ∷ parts)

  crossed-all : (ls rs : List Env) → inner_joined union (meets []) ls rs ≡ crossed union ls rs
  crossed-all ls rs = inner-crossed (meets []) ls rs ∙ filter-all (meets []) (λ row. refl) (crossed union ls rs)

  beside-rest : (columns rest : Columns) (rows : List Env) (others : List (List Env)) (part : Part) (parts : List Part) → are_apart columns rest ≡ true
      → ElementMeans columns rows part → ElementMeans rest (products others) (all_parts parts) → ElementMeans (columns ++ rest) (products (rows ∷ others)) (all_parts (part ∷ parts))
  beside-rest columns rest rows others part parts apart first second =
      let both = side-by-side columns rest apart rows (products others) part (all_parts parts) first second [] tt in
      let conds = part.conds ++ (all_parts parts).conds in
      subst₂ (λ rows conds. ElementMeans (columns ++ rest) rows (record { leaves = part.leaves ++ (all_parts parts).leaves; conds = conds }))
      (crossed-all rows (products others) ∙ sym (products-cons rows others)) (append-nil conds) both

  elements-mean : {shapes : List ElementShape} {rows : List (List Env)} {parts : List Part} → Elements shapes rows parts → list_all (λ shape. shape.sound) shapes ≡ true
      → all_apart (map (λ shape. shape.columns) shapes) ≡ true → ElementMeans (from_columns shapes) (products rows) (all_parts parts)
  elements-mean none all apart = record { uses = tt; within = (record { elsewhere = λ c absent. refl }, tt); same = refl }
  elements-mean (more {shape = shape} {rows = rows} {part = part} {shapes = shapes} {others = others} {parts = parts} law rest) all apart =
      let sound = and_parts shape.sound (list_all (λ shape. shape.sound) shapes) all in
      let first = and_parts (are_apart shape.columns (flat_map (λ columns. columns) (map (λ shape. shape.columns) shapes))) (all_apart (map (λ shape. shape.columns) shapes)) apart in
      let same = flat_map-map (λ columns. columns) (λ (shape : ElementShape). shape.columns) shapes in
      beside-rest shape.columns (from_columns shapes) rows others part parts (subst (λ columns. are_apart shape.columns columns ≡ true) same first.0)
      (law sound.0) (elements-mean rest sound.1 first.1)

  -- the block of FROM with the plain conjuncts of WHERE
  pub block-rows : {shapes : List ElementShape} {rows : List (List Env)} {parts : List Part} → Elements shapes rows parts → list_all (λ shape. shape.sound) shapes ≡ true
      → all_apart (map (λ shape. shape.columns) shapes) ≡ true → (plain : List Cond)
      → (rows_of database (block_of parts plain) ≡ filtered plain (products rows)) × AllWithin (from_columns shapes) (products rows)
  block-rows {shapes = shapes} {rows = rows} {parts = parts} elements all apart plain =
      let means = elements-mean elements all apart in
      let whole = all_parts parts in (
        rows-unit (record { leaves = whole.leaves; conds = whole.conds ++ plain }) ∙ sym (filtered-append whole.conds plain (leaf_rows whole.leaves)) ∙ ap (filtered plain) (sym means.same),
        element-within (from_columns shapes) (products rows) whole means,
      )
