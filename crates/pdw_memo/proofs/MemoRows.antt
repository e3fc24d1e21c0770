-- A group of a memo has the schema of what it means, and the rows of a bag that it admits lie within that.
use Rattle.std.proofs.Common.{◌≡◌, ℕ, suc, ◌+◌, ◌-◌, ◌^◌, ◌==◌, ◌||◌, Bool, true, false, true≢false, List, [], ◌∷◌, ◌++◌, map, filter, length, Some, if◌then◌else◌, refl, sym, ap, subst, ◌∙◌, arith, append-nil}
use Rattle.std.specs.List.{AllByRecursion, flat_map, slice_get}
use Rattle.std.specs.Option.{option_map}
use Rattle.std.proofs.lemmas.List.Folds.{flat_map-map}
use Rattle.std.proofs.lemmas.Option.{slice_get-map}
use Rattle.pdw_algebra.proofs.AllLaws.{all-append}
use Rattle.pdw_algebra.proofs.PartLemmas.{columns-block}
use Rattle.pdw_algebra.proofs.RowsWithin.{keys-there, rows-within}
use Rattle.pdw_algebra.proofs.TreeFolds.{Inductive, by_trees, fold-block, fold-filter, fold-group, fold-join, fold-project, fold-scan}
use Rattle.pdw_algebra.proofs.Used.{within-union}
use Rattle.pdw_algebra.specs.Meaning.{rows_of}
use Rattle.pdw_algebra.specs.Schema.{rising}
use Rattle.pdw_algebra.specs.Shape.{columns_of, has_number, key_column}
use Rattle.pdw_algebra.specs.Within.{AllWithin, IsWithin}
use Rattle.pdw_algebra.specs.declared.tree.Tree.{Tree}
use Rattle.pdw_algebra.specs.declared.tree.Tree.TheVariants as tree
use Rattle.pdw_base.specs.SameBag.{SameBag, weigh}
use Rattle.pdw_base.specs.Schema.{Columns, Env}
use Rattle.pdw_base.specs.declared.schema.ColId.{ColId}
use Rattle.pdw_base.specs.declared.value.Value.TheVariants.{Null, Int, Text, Wide}
use Rattle.pdw_base.specs.declared.value.Value.{Value}
use Rattle.pdw_catalog.specs.Catalog.{Tables, table_named}
use Rattle.pdw_catalog.specs.Database.{Database}
use Rattle.pdw_expr.specs.Parts.{groups}
use Rattle.pdw_expr.specs.Aggregate.{partial_value}
use Rattle.pdw_expr.specs.Rows.{argument, first_row, key_cells, key_of}
use Rattle.pdw_expr.specs.declared.agg.Agg.{Agg}
use Rattle.pdw_expr.specs.declared.cond.Cond.{Cond}
use Rattle.pdw_groups.proofs.OrderLaws.{found}
use Rattle.pdw_groups.proofs.SchemaLaws.{has_number-rising}
use Rattle.pdw_groups.specs.Block.{BlockLeaf, block_groups, inside_leaf, second_group, second_groups, seconds, set_group}
use Rattle.pdw_groups.specs.Columns.{hash_in, partial_column, replicated_in, useful_columns}
use Rattle.pdw_groups.specs.Group.{GroupOf, kept_group}
use Rattle.pdw_groups.specs.Level.{below, has_set, set_of}
use Rattle.pdw_groups.specs.Meaning.{Admits, Meaning, exactly, partial_of}
use Rattle.pdw_groups.specs.Memo.{AdmitsAt, AdmitsIf, Contents, at_first, groups_of}
use Rattle.pdw_groups.specs.Node.{Before, Node, block_leaves, block_node, groups_in_turn, grouping_groups, grouping_node, node_of, node_step, operator_node, own_block_groups, own_in_turn, passed, passed_all, whole_group}
use Rattle.pdw_groups.specs.declared.block.Level.{Level}
use Rattle.pdw_groups.specs.declared.group.Group.{Group}
use Rattle.pdw_groups.specs.declared.op.Op.{Op}
use Rattle.pdw_groups.specs.declared.op.Op.TheVariants as op
use Rattle.pdw_memo.proofs.EachGroup.{all-at, some-same}
use Rattle.pdw_memo.proofs.MemoMeans.{memo-root}
use Rattle.pdw_memo.proofs.RisingLaws.{rising-all}
use Rattle.pdw_memo.specs.Laws.{meanings_in}
use Rattle.pdw_memo.specs.Memo.{IsMemo}
use Rattle.pdw_partial.specs.Partial.{partial_cells, partial_row, partial_rows}
use Rattle.pdw_parts.proofs.PartLaws.{chosen-map}
use Rattle.pdw_parts.specs.Part.{LeafSet, chosen, columns_in, inside}

-- ---- equal bags lie within the same columns

abbrev not_null : Value → ℕ
not_null Null = 0
not_null (Int n) = 1
not_null (Text bytes) = 1
not_null (Wide n) = 1

is-null : (v : Value) → not_null v ≡ 0 → v ≡ Null
is-null Null is = refl
is-null (Int n) is = absurd (omega (arith, is))
is-null (Text bytes) is = absurd (omega (arith, is))
is-null (Wide n) is = absurd (omega (arith, is))

module _ (columns : Columns) where
  abbrev present_at : ColId → Env → ℕ
  present_at c row = not_null (row c)

  none-present : (c : ColId) → has_number c columns ≡ false → (rows : List Env) → AllWithin columns rows → weigh (present_at c) rows ≡ 0
  none-present c absent [] all = refl
  none-present c absent (row ∷ rows) all =
      let here : not_null (row c) ≡ 0 = ap not_null (all.0.elsewhere c absent) in
      let rest = none-present c absent rows all.1 in
      omega (arith, here, rest)

  each-within : (rows : List Env) → ((c : ColId) → has_number c columns ≡ false → weigh (present_at c) rows ≡ 0) → AllWithin columns rows
  each-within [] none = tt
  each-within (row ∷ rows) none = (
    record { elsewhere = λ c absent. is-null (row c) (let all : not_null (row c) + weigh (present_at c) rows ≡ 0 = none c absent in omega (arith, all)) },
    each-within rows (λ c absent. let all : not_null (row c) + weigh (present_at c) rows ≡ 0 = none c absent in omega (arith, all)),
  )

  within-same : (bag rows : List Env) → SameBag bag rows → AllWithin columns rows → AllWithin columns bag
  within-same bag rows same all = each-within bag (λ c absent. same.weighs (present_at c) ∙ none-present c absent rows all)

-- ---- partial rows

module _ (columns : Columns) (keys : List ColId) (aggs : List Agg) where
  abbrev key_columns : Columns
  key_columns = map (key_column columns) keys

  abbrev kept_columns : Columns
  kept_columns = map (partial_column columns) aggs

  keys-within : (row : Env) → IsWithin key_columns (key_cells keys row)
  keys-within row = record { elsewhere = λ c absent. ap (λ (there : Bool). if there then row c else Null) (sym (keys-there columns keys c) ∙ absent) }

  cells-within : (rows : List Env) → IsWithin kept_columns (partial_cells aggs rows)
  cells-within rows = record { elsewhere = λ c absent. each aggs c absent }
    where
      each : (aggs : List Agg) (c : ColId) → has_number c (map (partial_column columns) aggs) ≡ false → partial_cells aggs rows c ≡ Null
      each [] c = λ absent. refl
      each (agg ∷ aggs) c = by (agg.out.0 == c.0) (each aggs c)
        where
          by : (here : Bool) → (has_number c (map (partial_column columns) aggs) ≡ false → partial_cells aggs rows c ≡ Null)
              → (here || has_number c (map (partial_column columns) aggs)) ≡ false
              → (if here then partial_value agg.kind (map (argument agg.arg) rows) else partial_cells aggs rows c) ≡ Null
          by true rest absent = absurd (true≢false absent)
          by false rest absent = rest absent

  row-within : (rows : List Env) → IsWithin (key_columns ++ kept_columns) (partial_row keys aggs rows)
  row-within rows = within-union key_columns kept_columns (key_cells keys (first_row rows)) (partial_cells aggs rows) (keys-within (first_row rows)) (cells-within rows)

  all-rows : (parts : List (List Env)) → AllWithin (key_columns ++ kept_columns) (map (partial_row keys aggs) parts)
  all-rows [] = tt
  all-rows (part ∷ parts) = (row-within part, all-rows parts)

  partials-within : (parts : List (List Env)) → AllWithin (key_columns ++ kept_columns) (flat_map (partial_rows keys aggs) parts)
  partials-within [] = tt
  partials-within (part ∷ parts) =
      all-append (IsWithin (key_columns ++ kept_columns)) (partial_rows keys aggs part) (flat_map (partial_rows keys aggs) parts) (all-rows (groups keys (key_of keys) part)) (partials-within parts)

-- ---- the columns of what a group means

module _ (tables : Tables) where
  abbrev pub columns_by : Meaning → Columns
  columns_by (exactly t) = columns_of tables t
  columns_by (partial_of keys aggs t) = map (key_column (rising (columns_of tables t))) keys ++ map (partial_column (rising (columns_of tables t))) aggs

  admits-within : (database : Database) (means : Meaning) (bag : List Env) → Admits database means bag → AllWithin (columns_by means) bag
  admits-within database (exactly t) bag same = within-same (columns_of tables t) bag (rows_of database t) same (rows-within tables database t)
  admits-within database (partial_of keys aggs t) bag partial =
      let columns = rising (columns_of tables t) in
      within-same (map (key_column columns) keys ++ map (partial_column columns) aggs) bag (flat_map (partial_rows keys aggs) partial.parts) partial.rows (partials-within columns keys aggs partial.parts)

  -- a group's schema is that of what the group means
  abbrev pub Names : GroupOf → Type 0
  Names group = group.schema ≡ rising (columns_by group.means)

  pub names-number : (group : GroupOf) → Names group → (c : ColId) → has_number c group.schema ≡ has_number c (columns_by group.means)
  names-number group names c = ap (has_number c) names ∙ has_number-rising c (columns_by group.means)

  abbrev Named : Node → Type 0
  Named node = (before : Before) → AllByRecursion Names (node.groups before)

  named-within : (schema columns : Columns) → ((c : ColId) → has_number c schema ≡ has_number c columns) → (bag : List Env) → AllWithin columns bag → AllWithin schema bag
  named-within schema columns same [] all = tt
  named-within schema columns same (row ∷ bag) all = (record { elsewhere = λ c absent. all.0.elsewhere c (sym (same c) ∙ absent) }, named-within schema columns same bag all.1)

  turn-named : (nodes : List Node) → AllByRecursion Named nodes → (before : Before) → AllByRecursion Names (groups_in_turn nodes before)
  turn-named [] all before = tt
  turn-named (node ∷ nodes) all before = all-append Names (node.groups before) (groups_in_turn nodes (passed before node)) (all.0 before) (turn-named nodes all.1 (passed before node))

  -- ---- blocks

  abbrev pub IsRisen : BlockLeaf → Type 0
  IsRisen leaf = leaf.columns ≡ rising (columns_of tables leaf.tree)

  second-named : (block place : ℕ) (leaf : BlockLeaf) (inside : List Cond) → IsRisen leaf → AllByRecursion Names (second_group block place leaf inside)
  second-named block place leaf [] risen = tt
  second-named block place leaf (first ∷ rest) risen = (risen ∙ ap rising (sym (columns-block tables (leaf.tree ∷ []) (first ∷ rest) ∙ append-nil (columns_of tables leaf.tree))), tt)

  seconds-named : (block : ℕ) (conds : List Cond) (place : ℕ) (leaves : List BlockLeaf) → AllByRecursion IsRisen leaves → AllByRecursion Names (second_groups block conds place leaves)
  seconds-named block conds place [] all = tt
  seconds-named block conds place (leaf ∷ leaves) all =
      all-append Names (second_group block place leaf (inside_leaf block conds leaf)) (second_groups block conds (suc place) leaves) (second-named block place leaf (inside_leaf block conds leaf) all.0)
      (seconds-named block conds (suc place) leaves all.1)

  risen-columns : (leaves : List BlockLeaf) → AllByRecursion IsRisen leaves → map (λ (leaf : BlockLeaf). leaf.columns) leaves ≡ map rising (map (columns_of tables) (map (λ (leaf : BlockLeaf). leaf.tree) leaves))
  risen-columns [] all = refl
  risen-columns (leaf ∷ leaves) all = (λ i. all.0 i ∷ risen-columns leaves all.1 i)

  -- the schema of a set of leaves, and its columns
  set-schema : (set : LeafSet) (leaves : List BlockLeaf) (conds : List Cond) → AllByRecursion IsRisen leaves
      → rising (columns_in set (map (λ (leaf : BlockLeaf). leaf.columns) leaves)) ≡ rising (columns_of tables (tree.Block (chosen set (map (λ (leaf : BlockLeaf). leaf.tree) leaves)) conds))
  set-schema set leaves conds all =
      let trees = map (λ (leaf : BlockLeaf). leaf.tree) leaves in
      ap (λ some. rising (flat_map (λ columns. columns) some))
      (ap (chosen set) (risen-columns leaves all) ∙ chosen-map rising set (map (columns_of tables) trees) ∙ ap (map rising) (chosen-map (columns_of tables) set trees))
      ∙ rising-all (map (columns_of tables) (chosen set trees))
      ∙ ap rising (flat_map-map (λ columns. columns) (columns_of tables) (chosen set trees) ∙ sym (columns-block tables (chosen set trees) conds))

  pub set-columns : (set : LeafSet) (leaves : List BlockLeaf) (conds : List Cond) → AllByRecursion IsRisen leaves → (c : ColId)
      → has_number c (columns_in set (map (λ (leaf : BlockLeaf). leaf.columns) leaves)) ≡ has_number c (columns_of tables (tree.Block (chosen set (map (λ (leaf : BlockLeaf). leaf.tree) leaves)) conds))
  set-columns set leaves conds all c =
      sym (has_number-rising c (columns_in set (map (λ (leaf : BlockLeaf). leaf.columns) leaves)))
      ∙ ap (has_number c) (set-schema set leaves conds all)
      ∙ has_number-rising c (columns_of tables (tree.Block (chosen set (map (λ (leaf : BlockLeaf). leaf.tree) leaves)) conds))

  module _ (block : ℕ) (level : Level) (conds : List Cond) (leaves : List BlockLeaf) (first : ℕ) (all : AllByRecursion IsRisen leaves) where
    abbrev leaf_columns : List Columns
    leaf_columns = map (λ (leaf : BlockLeaf). leaf.columns) leaves

    sets-named : (masks : List ℕ) → AllByRecursion Names (map (set_group block level conds leaves first) masks)
    sets-named [] = tt
    sets-named (mask ∷ masks) = (set-schema (set_of mask) leaves (inside (set_of mask) leaf_columns conds) all, sets-named masks)

    block-named : AllByRecursion Names (block_groups block level conds leaves first)
    block-named =
        all-append Names (seconds block level conds leaves first) (map (set_group block level conds leaves first) (filter (has_set level) (below (2 ^ length leaves)))) (seconds-named block conds 0 leaves all)
        (sets-named (filter (has_set level) (below (2 ^ length leaves))))

  -- ---- any tree

  module _ (levels : ℕ → Level) where
    operator-named : (t : Tree) (operator : Op) (nodes : List Node) → AllByRecursion Named nodes → Named (operator_node tables levels t operator nodes)
    operator-named t operator nodes all before =
        all-append Names (groups_in_turn nodes before) (whole_group tables levels (passed_all before nodes).operators t (record { operator = operator; children = own_in_turn nodes before } ∷ []) ∷ []) (turn-named nodes all before)
        (refl, tt)

    grouping-named : (keys : List ColId) (aggs : List Agg) (child : Node) → Named child → Named (grouping_node tables levels keys aggs child)
    grouping-named keys aggs child holds before =
        all-append Names (child.groups before) (grouping_groups tables levels keys aggs child before) (holds before) (refl, (refl, tt))

    pub leaves-risen : (nodes : List Node) (before : Before) → AllByRecursion IsRisen (block_leaves tables levels nodes before)
    leaves-risen [] before = tt
    leaves-risen (node ∷ nodes) before = (refl, leaves-risen nodes (passed before node))

    block-node-named : (conds : List Cond) (nodes : List Node) → AllByRecursion Named nodes → Named (block_node tables levels conds nodes)
    block-node-named conds nodes all before =
        let after = passed_all before nodes in
        all-append Names (groups_in_turn nodes before) (own_block_groups tables levels conds nodes before) (turn-named nodes all before)
        (block-named after.blocks (levels after.blocks) conds (block_leaves tables levels nodes before) after.groups (leaves-risen nodes before))

    abbrev steps : Tree → Node
    steps = node_of tables levels

    abbrev TreeNamed : Tree → Type 0
    TreeNamed t = Named (steps t)

    leaves-named : (leaves : List Tree) → AllByRecursion TreeNamed leaves → AllByRecursion Named (map steps leaves)
    leaves-named [] all = tt
    leaves-named (leaf ∷ leaves) all = (all.0, leaves-named leaves all.1)

    cases : Inductive TreeNamed
    cases = record {
      scan = λ table alias cols. subst Named (sym (fold-scan (node_step tables levels) table alias cols))
          (operator-named _ (op.Scan table alias cols (hash_in (table_named table tables) cols) (replicated_in (table_named table tables))) [] tt);
      filter = λ conds child holds. subst Named (sym (fold-filter (node_step tables levels) conds child)) (operator-named _ _ (steps child ∷ []) (holds, tt));
      project = λ items child holds. subst Named (sym (fold-project (node_step tables levels) items child)) (operator-named _ _ (steps child ∷ []) (holds, tt));
      block = λ leaves conds all. subst Named (sym (fold-block (node_step tables levels) leaves conds)) (block-node-named conds (map steps leaves) (leaves-named leaves all));
      join = λ kind conds left right first second.
          subst Named (sym (fold-join (node_step tables levels) kind conds left right)) (operator-named _ _ (steps left ∷ steps right ∷ []) (first, (second, tt)));
      group = λ keys aggs child holds. subst Named (sym (fold-group (node_step tables levels) keys aggs child)) (grouping-named keys aggs (steps child) holds);
    }

    pub tree-named : (t : Tree) → TreeNamed t
    tree-named = by_trees TreeNamed cases

-- ---- memos

pub memo-within : (contents : Contents) (memo : IsMemo contents) (database : Database) (number : ℕ) (group : Group) → slice_get contents.groups number ≡ Some group
    → (bag : List Env) → AdmitsAt database (meanings_in contents memo) number bag → AllWithin group.schema bag
memo-within contents memo database number group there bag admits =
    let groups = groups_of memo.tables memo.levels memo.tree in
    let kept = kept_group (useful_columns memo.tables memo.tree) in
    let at : option_map kept (slice_get groups number) ≡ Some group = sym (slice_get-map kept groups number) ∙ ap (λ (c : Contents). slice_get c.groups number) (sym memo.is) ∙ there in
    let own = found kept (slice_get groups number) group at in
    let same : kept own.0 ≡ group = some-same (kept own.0) group (sym (ap (option_map kept) own.1) ∙ at) in
    let means : slice_get (meanings_in contents memo) number ≡ Some own.0.means = slice_get-map (λ (g : GroupOf). g.means) groups number ∙ ap (option_map (λ (g : GroupOf). g.means)) own.1 in
    let names = all-at (Names memo.tables) groups (tree-named memo.tables memo.levels memo.tree at_first) number own.0 own.1 in
    subst (λ (g : Group). AllWithin g.schema bag) same
    (named-within memo.tables own.0.schema (columns_by memo.tables own.0.means) (names-number memo.tables own.0 names) bag
    (admits-within memo.tables database own.0.means bag (subst (λ m. AdmitsIf database m bag) means admits)))

-- the last group, which means the tree, has its schema
pub memo-root_schema : (contents : Contents) (memo : IsMemo contents) → option_map (λ (group : Group). group.schema) (slice_get contents.groups (length contents.groups - 1)) ≡ Some (rising (columns_of memo.tables memo.tree))
memo-root_schema contents memo =
    let groups = groups_of memo.tables memo.levels memo.tree in
    let kept = kept_group (useful_columns memo.tables memo.tree) in
    let last = length contents.groups - 1 in
    let at : option_map (λ (g : GroupOf). g.means) (slice_get groups last) ≡ Some (exactly memo.tree) = sym (slice_get-map (λ (g : GroupOf). g.means) groups last) ∙ memo-root contents memo in
    let own = found (λ (g : GroupOf). g.means) (slice_get groups last) (exactly memo.tree) at in
    let means : own.0.means ≡ exactly memo.tree = some-same own.0.means (exactly memo.tree) (sym (ap (option_map (λ (g : GroupOf). g.means)) own.1) ∙ at) in
    let names = all-at (Names memo.tables) groups (tree-named memo.tables memo.levels memo.tree at_first) last own.0 own.1 in
    ap (λ (c : Contents). option_map (λ (group : Group). group.schema) (slice_get c.groups last)) memo.is
    ∙ ap (option_map (λ (group : Group). group.schema)) (slice_get-map kept groups last ∙ ap (option_map kept) own.1)
    ∙ ap Some (names ∙ ap (λ means. rising (columns_by memo.tables means)) means)
