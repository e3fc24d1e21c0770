-- In every memo interesting columns are columns of their groups, and no aggregate makes a key.
use Rattle.std.proofs.Common.{◌≡◌, ℕ, suc, ◌==◌, ◌||◌, ◌^◌, Bool, true, false, List, [], ◌∷◌, map, filter, length, refl, sym, ap, subst, arith, tests}
use Rattle.std.specs.List.{AllByRecursion, list_any}
use Rattle.pdw_algebra.proofs.AllLaws.{all-append, all-map}
use Rattle.pdw_algebra.proofs.TreeFolds.{Inductive, by_trees, fold-block, fold-filter, fold-group, fold-join, fold-project, fold-scan}
use Rattle.pdw_algebra.proofs.WellFormedParts.{IsSound, keys-apart, sound-block, sound-child, sound-filter, sound-join, sound-project, sound-tree}
use Rattle.pdw_algebra.specs.Shape.{Shape, has_number, shape_of, shape_step}
use Rattle.pdw_algebra.specs.declared.tree.Tree.{Tree}
use Rattle.pdw_algebra.specs.declared.tree.Tree.TheVariants as tree
use Rattle.pdw_base.specs.Schema.{Columns}
use Rattle.pdw_base.specs.declared.schema.ColId.{ColId}
use Rattle.pdw_catalog.specs.Catalog.{Tables, table_named}
use Rattle.pdw_expr.specs.declared.agg.Agg.{Agg}
use Rattle.pdw_expr.specs.declared.cond.Cond.{Cond}
use Rattle.pdw_groups.specs.Block.{BlockLeaf, block_groups, inside_leaf, join_of, second_group, second_groups, seconds, set_group}
use Rattle.pdw_groups.specs.Columns.{hash_in, interesting_in, numbers_of, or_first, replicated_in, useful_columns}
use Rattle.pdw_groups.specs.Group.{ExprOf, GroupOf, kept_expr, kept_group}
use Rattle.pdw_groups.specs.Level.{below, has_set, lefts}
use Rattle.pdw_groups.specs.Memo.{Contents, at_first, groups_of}
use Rattle.pdw_groups.specs.Node.{Before, Node, block_leaves, block_node, groups_in_turn, grouping_groups, grouping_node, node_of, node_step, operator_node, own_block_groups, own_in_turn, passed, passed_all, whole_group}
use Rattle.pdw_groups.specs.declared.block.Level.{Level}
use Rattle.pdw_groups.specs.declared.group.Expr.{Expr}
use Rattle.pdw_groups.specs.declared.group.Group.{Group}
use Rattle.pdw_groups.specs.declared.op.Op.{Op}
use Rattle.pdw_groups.specs.declared.op.Op.TheVariants as op
use Rattle.pdw_memo.proofs.Counts.{filter-all, map-all}
use Rattle.pdw_memo.specs.Laws.{HasItsColumns, MakesNoKey}
use Rattle.pdw_memo.specs.Memo.{IsMemo}
use Rattle.pdw_partial.specs.Partial.{KeysApart}

-- ---- interesting columns

abbrev IsIn : Columns → ColId → Type 0
IsIn schema c = has_number c schema ≡ true

later : (c : ColId) (n : ℕ) (rest : Columns) → IsIn rest c → ((n == c.0) || has_number c rest) ≡ true
later c n rest there = by (n == c.0)
  where
    by : (here : Bool) → (here || has_number c rest) ≡ true
    by true = refl
    by false = there

itself : (c : ColId) (rest : Columns) → ((c.0 == c.0) || has_number c rest) ≡ true
itself c rest = let equal : (c.0 == c.0) ≡ true = grind (arith, tests) in ap (λ b. b || has_number c rest) equal

numbers-in : (schema : Columns) → AllByRecursion (IsIn schema) (numbers_of schema)
numbers-in [] = tt
numbers-in (column ∷ schema) = (itself column.0 schema, all-map (IsIn schema) (IsIn (column ∷ schema)) (λ c there. later c column.0.0 schema there) (numbers_of schema) (numbers-in schema))

first-in : (P : ColId → Type 0) (some all : List ColId) → AllByRecursion P some → AllByRecursion P all → AllByRecursion P (or_first some all)
first-in P [] [] some all = tt
first-in P [] (first ∷ rest) some all = (all.0, tt)
first-in P (c ∷ rest) all some others = some

interesting-in : (useful : List ColId) (schema : Columns) → AllByRecursion (IsIn schema) (interesting_in useful schema)
interesting-in useful schema =
    let test = λ (c : ColId). list_any (λ (u : ColId). u.0 == c.0) useful in
    first-in (IsIn schema) (filter test (numbers_of schema)) (numbers_of schema) (filter-all (IsIn schema) test (numbers_of schema) (numbers-in schema)) (numbers-in schema)

each-interesting : (useful : List ColId) (groups : List GroupOf) → AllByRecursion HasItsColumns (map (kept_group useful) groups)
each-interesting useful [] = tt
each-interesting useful (group ∷ groups) = (interesting-in useful group.schema, each-interesting useful groups)

pub memo-interesting : (contents : Contents) → IsMemo contents → AllByRecursion HasItsColumns contents.groups
memo-interesting contents memo =
    subst (λ (c : Contents). AllByRecursion HasItsColumns c.groups) (sym memo.is) (each-interesting (useful_columns memo.tables memo.tree) (groups_of memo.tables memo.levels memo.tree))

-- ---- keys

abbrev IsApart : GroupOf → Type 0
IsApart group = AllByRecursion (λ expr. MakesNoKey expr.operator) group.exprs

abbrev Apart : Node → Type 0
Apart node = (before : Before) → AllByRecursion IsApart (node.groups before)

turn-apart : (nodes : List Node) → AllByRecursion Apart nodes → (before : Before) → AllByRecursion IsApart (groups_in_turn nodes before)
turn-apart [] all before = tt
turn-apart (node ∷ nodes) all before =
    all-append IsApart (node.groups before) (groups_in_turn nodes (passed before node)) (all.0 before) (turn-apart nodes all.1 (passed before node))

second-apart : (block place : ℕ) (leaf : BlockLeaf) (inside : List Cond) → AllByRecursion IsApart (second_group block place leaf inside)
second-apart block place leaf [] = tt
second-apart block place leaf (first ∷ rest) = ((tt, tt), tt)

seconds-apart : (block : ℕ) (conds : List Cond) (place : ℕ) (leaves : List BlockLeaf) → AllByRecursion IsApart (second_groups block conds place leaves)
seconds-apart block conds place [] = tt
seconds-apart block conds place (leaf ∷ leaves) =
    all-append IsApart (second_group block place leaf (inside_leaf block conds leaf)) (second_groups block conds (suc place) leaves) (second-apart block place leaf (inside_leaf block conds leaf)) (seconds-apart block conds (suc place) leaves)

module _ (block : ℕ) (level : Level) (conds : List Cond) (leaves : List BlockLeaf) (first : ℕ) where
  joins-apart : (mask : ℕ) (some : List ℕ) → AllByRecursion (λ (expr : ExprOf). MakesNoKey expr.operator) (map (join_of block level conds leaves first mask) some)
  joins-apart mask [] = tt
  joins-apart mask (left ∷ some) = (tt, joins-apart mask some)

  sets-apart : (masks : List ℕ) → AllByRecursion IsApart (map (set_group block level conds leaves first) masks)
  sets-apart [] = tt
  sets-apart (mask ∷ masks) = (joins-apart mask (lefts level mask), sets-apart masks)

  block-apart : AllByRecursion IsApart (block_groups block level conds leaves first)
  block-apart =
      all-append IsApart (seconds block level conds leaves first) (map (set_group block level conds leaves first) (filter (has_set level) (below (2 ^ length leaves)))) (seconds-apart block conds 0 leaves)
      (sets-apart (filter (has_set level) (below (2 ^ length leaves))))

module _ (tables : Tables) (levels : ℕ → Level) where
  operator-apart : (t : Tree) (operator : Op) (nodes : List Node) → MakesNoKey operator → AllByRecursion Apart nodes → Apart (operator_node tables levels t operator nodes)
  operator-apart t operator nodes own all before =
      all-append IsApart (groups_in_turn nodes before) (whole_group tables levels (passed_all before nodes).operators t (record { operator = operator; children = own_in_turn nodes before } ∷ []) ∷ []) (turn-apart nodes all before)
      ((own, tt), tt)

  grouping-apart : (keys : List ColId) (aggs : List Agg) (child : Node) → KeysApart keys aggs → Apart child → Apart (grouping_node tables levels keys aggs child)
  grouping-apart keys aggs child own holds before =
      all-append IsApart (child.groups before) (grouping_groups tables levels keys aggs child before) (holds before) ((own, tt), ((own, (own, tt)), tt))

  block-node-apart : (conds : List Cond) (nodes : List Node) → AllByRecursion Apart nodes → Apart (block_node tables levels conds nodes)
  block-node-apart conds nodes all before =
      let after = passed_all before nodes in
      all-append IsApart (groups_in_turn nodes before) (own_block_groups tables levels conds nodes before) (turn-apart nodes all before)
      (block-apart after.blocks (levels after.blocks) conds (block_leaves tables levels nodes before) after.groups)

  abbrev steps : Tree → Node
  steps = node_of tables levels

  abbrev TreeApart : Tree → Type 0
  TreeApart t = IsSound (shape_of tables t) → Apart (steps t)

  from_layer : (t : Tree) (node : Node) (shape : Shape) → steps t ≡ node → shape_of tables t ≡ shape → (IsSound shape → Apart node) → TreeApart t
  from_layer t node shape is_node is_shape holds sound = subst Apart (sym is_node) (holds (subst IsSound is_shape sound))

  leaves-apart : (leaves : List Tree) → AllByRecursion TreeApart leaves → AllByRecursion IsSound (map (shape_of tables) leaves) → AllByRecursion Apart (map steps leaves)
  leaves-apart [] all sound = tt
  leaves-apart (leaf ∷ leaves) all sound = (all.0 sound.0, leaves-apart leaves all.1 sound.1)

  cases : Inductive TreeApart
  cases = record {
    scan = λ table alias cols.
        from_layer (tree.Scan table alias cols) _ _ (fold-scan (node_step tables levels) table alias cols) (fold-scan (shape_step tables) table alias cols)
        (λ sound. operator-apart (tree.Scan table alias cols) (op.Scan table alias cols (hash_in (table_named table tables) cols) (replicated_in (table_named table tables))) [] tt tt);
    filter = λ conds child holds.
        from_layer (tree.Filter conds child) _ _ (fold-filter (node_step tables levels) conds child) (fold-filter (shape_step tables) conds child)
        (λ sound. operator-apart (tree.Filter conds (steps child).tree) (op.Filter conds) (steps child ∷ []) tt (holds (sound-filter (shape_of tables child) _ (shape_of tables child).made _ sound), tt));
    project = λ items child holds.
        from_layer (tree.Project items child) _ _ (fold-project (node_step tables levels) items child) (fold-project (shape_step tables) items child)
        (λ sound. operator-apart (tree.Project items (steps child).tree) (op.Project items) (steps child ∷ []) tt (holds (sound-project items (shape_of tables child) sound), tt));
    block = λ leaves conds all.
        from_layer (tree.Block leaves conds) _ _ (fold-block (node_step tables levels) leaves conds) (fold-block (shape_step tables) leaves conds)
        (λ sound.
        let parts = sound-block (map (shape_of tables) leaves) conds sound in
        block-node-apart conds (map steps leaves) (leaves-apart leaves all parts.each));
    join = λ kind conds left right first second.
        from_layer (tree.Join kind conds left right) _ _ (fold-join (node_step tables levels) kind conds left right) (fold-join (shape_step tables) kind conds left right)
        (λ sound.
        let both = sound-join kind conds (shape_of tables left) (shape_of tables right) sound in
        operator-apart (tree.Join kind conds (steps left).tree (steps right).tree) (op.Join kind conds) (steps left ∷ steps right ∷ []) tt (first both.0, (second both.1, tt)));
    group = λ keys aggs child holds.
        from_layer (tree.GroupBy keys aggs child) _ _ (fold-group (node_step tables levels) keys aggs child) (fold-group (shape_step tables) keys aggs child)
        (λ sound. grouping-apart keys aggs (steps child) (keys-apart tables keys aggs child sound) (holds (sound-child keys aggs (shape_of tables child) sound)));
  }

  tree-apart : (t : Tree) → TreeApart t
  tree-apart = by_trees TreeApart cases

abbrev KeptApart : Group → Type 0
KeptApart group = AllByRecursion (λ (expr : Expr). MakesNoKey expr.op) group.exprs

kept-apart : (useful : List ColId) (group : GroupOf) → IsApart group → KeptApart (kept_group useful group)
kept-apart useful group apart = map-all (λ (expr : ExprOf). MakesNoKey expr.operator) (λ (expr : Expr). MakesNoKey expr.op) kept_expr (λ expr own. own) group.exprs apart

pub memo-keys : (contents : Contents) → IsMemo contents → AllByRecursion KeptApart contents.groups
memo-keys contents memo =
    let useful = useful_columns memo.tables memo.tree in
    subst (λ (c : Contents). AllByRecursion KeptApart c.groups) (sym memo.is)
    (map-all IsApart KeptApart (kept_group useful) (kept-apart useful) (groups_of memo.tables memo.levels memo.tree)
    (tree-apart memo.tables memo.levels memo.tree (sound-tree memo.tables memo.tree memo.plannable.well_formed) at_first))
