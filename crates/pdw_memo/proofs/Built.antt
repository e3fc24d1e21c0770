-- What is made of the parts of a tree is what the tree's node adds.
use Rattle.std.proofs.Common.{◌≡◌, ℕ, ◌+◌, ◌-◌, ◌<◌, ◌≤◌, List, [], ◌∷◌, ◌++◌, length, map, fold, sum, Option, refl, sym, ap, ap₂, ◌∙◌, arith, length-append, append-nil, append_assoc}
use Rattle.std.proofs.lemmas.List.{length-map, map-append}
use Rattle.pdw_algebra.proofs.TreeFolds.{fold-block, fold-filter, fold-group, fold-join, fold-project, fold-scan}
use Rattle.pdw_algebra.specs.declared.tree.Tree.{Tree}
use Rattle.pdw_algebra.specs.declared.tree.Tree.TheVariants as tree
use Rattle.pdw_base.specs.declared.schema.ColId.{ColId}
use Rattle.pdw_catalog.specs.Catalog.{Tables, table_named}
use Rattle.pdw_expr.specs.declared.agg.Agg.{Agg}
use Rattle.pdw_expr.specs.declared.agg.JoinKind.{JoinKind}
use Rattle.pdw_expr.specs.declared.cond.Cond.{Cond}
use Rattle.pdw_expr.specs.declared.scalar.Scalar.{Scalar}
use Rattle.pdw_groups.proofs.KeptLaws.{block-kept}
use Rattle.pdw_groups.proofs.NodeTree.{node-tree}
use Rattle.pdw_groups.specs.Block.{block_groups}
use Rattle.pdw_groups.specs.Columns.{hash_in, partial_schema, replicated_in}
use Rattle.pdw_groups.specs.Group.{GroupOf, id_of, kept_group}
use Rattle.pdw_groups.specs.Meaning.{exactly}
use Rattle.pdw_groups.specs.Memo.{all_written}
use Rattle.pdw_groups.specs.Node.{Before, Node, block_leaves, block_node, groups_in_turn, grouping_groups, grouping_node, node_step, operator_node, operators_in, own_block_groups, own_group, own_in_turn, own_part, parts_in_turn, passed, passed_all, whole_group}
use Rattle.pdw_groups.specs.Sets.{side_of}
use Rattle.pdw_groups.specs.declared.block.Level.TheVariants as level
use Rattle.pdw_groups.specs.declared.group.Group.{Group}
use Rattle.pdw_groups.specs.declared.key.GroupId.{GroupId}
use Rattle.pdw_groups.specs.declared.key.GroupKey.TheVariants as key
use Rattle.pdw_groups.specs.declared.op.Op.{Op}
use Rattle.pdw_groups.specs.declared.op.Op.TheVariants as op
use Rattle.pdw_groups.specs.declared.sets.Side.{Side}
use Rattle.pdw_memo.proofs.Counts.{Counted, CountedEach, operators-cons, sum-cons}
use Rattle.pdw_memo.specs.Building.{HasRoom, last, made_before, schema_of_tree, sides_of, useful_group, with_block, with_grouping, with_node, with_operator, with_partial, with_tree, written}
use Rattle.pdw_memo.specs.declared.building.Building.{Building}

-- ---- one node

module _ (useful : List ColId) (building : Building) (node : Node) (count : ℕ) (counted : Counted node count) where
  abbrev here : Before
  here = made_before building

  groups-after : length (with_node useful building node).groups ≡ length building.groups + length (node.groups here)
  groups-after = length-append building.groups (map (kept_group useful) (node.groups here)) ∙ ap (λ n. length building.groups + n) (length-map (node.groups here) (kept_group useful))

  blocks-after : length (with_node useful building node).blocks ≡ length building.blocks + node.blocks
  blocks-after = length-append building.blocks (node.parts here) ∙ ap (λ n. length building.blocks + n) (counted.parts here)

  pub made-after : made_before (with_node useful building node) ≡ passed here node
  made-after = ap₂ (λ b g. record { blocks = b; operators = building.operators + node.operators; groups = g }) blocks-after groups-after

  -- the node's own group is the last
  pub last-own : last (with_node useful building node) ≡ id_of (own_group here node)
  last-own = ap (λ n. record { 0 = n - 1 }) groups-after

  pub some-after : 0 < length (with_node useful building node).groups
  some-after = let all = groups-after in let some = counted.some here in omega (arith, all, some)

  pub room-after : (more : ℕ) → HasRoom building (count + more) → HasRoom (with_node useful building node) more
  room-after more room =
      record {
        groups = let all = groups-after in let most = counted.most here in let was = room.groups in omega (arith, all, most, was);
        blocks = let all = blocks-after in let most = counted.blocks in let was = room.blocks in omega (arith, all, most, was);
        operators = let most = counted.operators in let was = room.operators in omega (arith, most, was);
      }

pub room-less : (building : Building) (some most : ℕ) → some ≤ most → HasRoom building most → HasRoom building some
room-less building some most less room = record {
  groups = let was = room.groups in omega (arith, less, was);
  blocks = let was = room.blocks in omega (arith, less, was);
  operators = let was = room.operators in omega (arith, less, was);
}

-- ---- nodes one after the other

record Turned (useful : List ColId) (start : Building) (nodes : List Node) (now : Building) : Type 0 where
  passed : made_before now ≡ passed_all (made_before start) nodes
  groups : now.groups ≡ start.groups ++ map (kept_group useful) (groups_in_turn nodes (made_before start))
  blocks : now.blocks ≡ start.blocks ++ parts_in_turn nodes (made_before start)
  operators : now.operators ≡ start.operators + operators_in nodes

turned : (useful : List ColId) (nodes : List Node) (counts : List ℕ) → CountedEach nodes counts → (start : Building) → Turned useful start nodes (fold (with_node useful) start nodes)
turned useful [] counts each start = record {
  passed = refl;
  groups = sym (append-nil start.groups);
  blocks = sym (append-nil start.blocks);
  operators = omega arith;
}
turned useful (node ∷ nodes) [] each start = absurd each
turned useful (node ∷ nodes) (count ∷ counts) each start =
    let before = made_before start in
    let next = with_node useful start node in
    let rest = turned useful nodes counts each.1 next in
    let after = made-after useful start node count each.0 in
    record {
      passed = rest.passed ∙ ap (λ b. passed_all b nodes) after;
      groups =
          rest.groups
          ∙ ap (λ b. (start.groups ++ map (kept_group useful) (node.groups before)) ++ map (kept_group useful) (groups_in_turn nodes b)) after
          ∙ append_assoc start.groups (map (kept_group useful) (node.groups before)) (map (kept_group useful) (groups_in_turn nodes (passed before node)))
          ∙ ap (λ some. start.groups ++ some) (sym (map-append (kept_group useful) (node.groups before) (groups_in_turn nodes (passed before node))));
      blocks =
          rest.blocks
          ∙ ap (λ b. (start.blocks ++ node.parts before) ++ parts_in_turn nodes b) after
          ∙ append_assoc start.blocks (node.parts before) (parts_in_turn nodes (passed before node));
      operators = rest.operators ∙ (let all = operators-cons node nodes in let same : (start.operators + node.operators) + operators_in nodes ≡ start.operators + operators_in (node ∷ nodes) = omega (arith, all) in same);
    }

-- more groups after those of nodes
more-groups : (useful : List ColId) (start now : List Group) (some more : List GroupOf) → now ≡ start ++ map (kept_group useful) some
    → now ++ map (kept_group useful) more ≡ start ++ map (kept_group useful) (some ++ more)
more-groups useful start now some more had =
    ap (λ groups. groups ++ map (kept_group useful) more) had
    ∙ append_assoc start (map (kept_group useful) some) (map (kept_group useful) more)
    ∙ ap (λ groups. start ++ groups) (sym (map-append (kept_group useful) some more))

-- ---- layers

module _ (tables : Tables) (useful : List ColId) (start : Building) where
  abbrev first : Before
  first = made_before start

  operator-built : (t : Tree) (operator : Op) (nodes : List Node) (counts : List ℕ) → CountedEach nodes counts
      → with_operator useful (schema_of_tree tables t) (record { op = operator; children = map id_of (own_in_turn nodes first) } ∷ []) (fold (with_node useful) start nodes)
      ≡ with_node useful start (operator_node tables all_written t operator nodes)
  operator-built t operator nodes counts each =
      let turn = turned useful nodes counts each start in
      let now = fold (with_node useful) start nodes in
      let number : now.operators ≡ (passed_all first nodes).operators = ap (λ (b : Before). b.operators) turn.passed in
      let count : now.operators + 1 ≡ start.operators + (operators_in nodes + 1) = let all = turn.operators in omega (arith, all) in
      λ i. record {
        groups =
            (ap (λ n. now.groups ++ map (kept_group useful) (record { key = key.Whole n; means = exactly t; schema = schema_of_tree tables t; exprs = record { operator = operator; children = own_in_turn nodes first } ∷ [] } ∷ [])) number
            ∙ more-groups useful start.groups now.groups (groups_in_turn nodes first) (whole_group tables all_written (passed_all first nodes).operators t (record { operator = operator; children = own_in_turn nodes first } ∷ []) ∷ []) turn.groups) i;
        blocks = turn.blocks i;
        operators = count i;
      }

  grouping-built : (keys : List ColId) (aggs : List Agg) (child : Node) (count : ℕ) → Counted child count
      → let now = with_node useful start child in
      let partial = with_partial useful (partial_schema keys aggs (schema_of_tree tables child.tree)) (record { op = op.Partial keys aggs; children = last now ∷ [] } ∷ []) now in
      with_operator useful (schema_of_tree tables (tree.GroupBy keys aggs child.tree))
      (record { op = op.GroupBy keys aggs; children = last now ∷ [] } ∷ record { op = op.Final keys aggs; children = last partial ∷ [] } ∷ []) partial
      ≡ with_node useful start (grouping_node tables all_written keys aggs child)
  grouping-built keys aggs child count counted =
      let now = with_node useful start child in
      let own = last-own useful start child count counted in
      let end : (x : Group) → length (now.groups ++ x ∷ []) - 1 ≡ (passed first child).groups = λ x. (let all = length-append now.groups (x ∷ []) in let was = groups-after useful start child count counted in omega (arith, all, was)) in
      let rows = λ (c : GroupId). useful_group useful (key.Partial now.operators) (partial_schema keys aggs (schema_of_tree tables child.tree)) (record { op = op.Partial keys aggs; children = c ∷ [] } ∷ []) in
      let whole = λ (c p : GroupId). useful_group useful (key.Whole now.operators) (schema_of_tree tables (tree.GroupBy keys aggs child.tree))
      (record { op = op.GroupBy keys aggs; children = c ∷ [] } ∷ record { op = op.Final keys aggs; children = p ∷ [] } ∷ []) in
      let partial = with_partial useful (partial_schema keys aggs (schema_of_tree tables child.tree)) (record { op = op.Partial keys aggs; children = last now ∷ [] } ∷ []) now in
      λ i. record {
        groups =
            (append_assoc now.groups (rows (last now) ∷ []) (whole (last now) (last partial) ∷ [])
            ∙ ap₂ (λ (c p : GroupId). now.groups ++ rows c ∷ whole c p ∷ []) own (ap (λ n. record { 0 = n }) (end (rows (last now))))
            ∙ more-groups useful start.groups now.groups (child.groups first) (grouping_groups tables all_written keys aggs child first) refl) i;
        blocks = now.blocks;
        operators = (let all : (start.operators + child.operators) + 1 ≡ start.operators + (child.operators + 1) = omega arith in all) i;
      }

  block-built : (conds : List Cond) (nodes : List Node) (counts : List ℕ) → CountedEach nodes counts
      → with_block useful (map side_of (block_leaves tables all_written nodes first)) conds (fold (with_node useful) start nodes)
      ≡ with_node useful start (block_node tables all_written conds nodes)
  block-built conds nodes counts each =
      let turn = turned useful nodes counts each start in
      let now = fold (with_node useful) start nodes in
      let leaves = block_leaves tables all_written nodes first in
      λ i. record {
        groups =
            (ap (λ groups. now.groups ++ groups)
            (block-kept useful (length now.blocks) level.Written conds leaves (length now.groups)
            ∙ ap (λ (b : Before). map (kept_group useful) (block_groups b.blocks level.Written conds leaves b.groups)) turn.passed)
            ∙ more-groups useful start.groups now.groups (groups_in_turn nodes first) (own_block_groups tables all_written conds nodes first) turn.groups) i;
        blocks =
            (ap₂ (λ blocks ids. blocks ++ record { leaves = ids; conds = conds; level = level.Written } ∷ []) turn.blocks (ids-same nodes first)
            ∙ append_assoc start.blocks (parts_in_turn nodes first) (own_part tables all_written conds nodes first ∷ [])) i;
        operators = turn.operators i;
      }
    where
      ids-same : (nodes : List Node) (before : Before) → map (λ (side : Side). side.group) (map side_of (block_leaves tables all_written nodes before)) ≡ map id_of (own_in_turn nodes before)
      ids-same [] before = refl
      ids-same (node ∷ nodes) before = ap (λ ids. id_of (own_group before node) ∷ ids) (ids-same nodes (passed before node))

-- ---- nodes by the tree's constructors

module _ (tables : Tables) where
  abbrev tree_of : Tree → Tree
  tree_of t = (written tables t).tree

  pub same-tree : (t : Tree) → tree_of t ≡ t
  same-tree = node-tree tables all_written

  scan-node : (table alias : List ℕ) (cols : List (ColId × ℕ))
      → written tables (tree.Scan table alias cols)
      ≡ operator_node tables all_written (tree.Scan table alias cols) (op.Scan table alias cols (hash_in (table_named table tables) cols) (replicated_in (table_named table tables))) []
  scan-node table alias cols = fold-scan (node_step tables all_written) table alias cols

  filter-node : (conds : List Cond) (child : Tree) → written tables (tree.Filter conds child) ≡ operator_node tables all_written (tree.Filter conds child) (op.Filter conds) (written tables child ∷ [])
  filter-node conds child =
      fold-filter (node_step tables all_written) conds child
      ∙ ap (λ t. operator_node tables all_written (tree.Filter conds t) (op.Filter conds) (written tables child ∷ [])) (same-tree child)

  project-node : (items : List (ColId × Option Scalar)) (child : Tree) → written tables (tree.Project items child) ≡ operator_node tables all_written (tree.Project items child) (op.Project items) (written tables child ∷ [])
  project-node items child =
      fold-project (node_step tables all_written) items child
      ∙ ap (λ t. operator_node tables all_written (tree.Project items t) (op.Project items) (written tables child ∷ [])) (same-tree child)

  join-node : (kind : JoinKind) (conds : List Cond) (left right : Tree)
      → written tables (tree.Join kind conds left right) ≡ operator_node tables all_written (tree.Join kind conds left right) (op.Join kind conds) (written tables left ∷ written tables right ∷ [])
  join-node kind conds left right =
      fold-join (node_step tables all_written) kind conds left right
      ∙ ap₂ (λ l r. operator_node tables all_written (tree.Join kind conds l r) (op.Join kind conds) (written tables left ∷ written tables right ∷ [])) (same-tree left) (same-tree right)

  group-node : (keys : List ColId) (aggs : List Agg) (child : Tree) → written tables (tree.GroupBy keys aggs child) ≡ grouping_node tables all_written keys aggs (written tables child)
  group-node keys aggs child = fold-group (node_step tables all_written) keys aggs child

  block-node : (leaves : List Tree) (conds : List Cond) → written tables (tree.Block leaves conds) ≡ block_node tables all_written conds (map (written tables) leaves)
  block-node leaves conds = fold-block (node_step tables all_written) leaves conds

-- ---- trees, as the calls have them

module _ (tables : Tables) (useful : List ColId) (start : Building) where
  -- an operator's group after its child's
  abbrev OfOne : Tree → Op → Tree → Type 0
  OfOne t operator child =
      with_operator useful (schema_of_tree tables t) (record { op = operator; children = last (with_tree tables useful start child) ∷ [] } ∷ []) (with_tree tables useful start child) ≡ with_tree tables useful start t

  one-built : (t : Tree) (operator : Op) (child : Tree) (count : ℕ) → Counted (written tables child) count → written tables t ≡ operator_node tables all_written t operator (written tables child ∷ []) → OfOne t operator child
  one-built t operator child count counted is =
      ap (λ c. with_operator useful (schema_of_tree tables t) (record { op = operator; children = c ∷ [] } ∷ []) (with_tree tables useful start child)) (last-own useful start (written tables child) count counted)
      ∙ operator-built tables useful start t operator (written tables child ∷ []) (count ∷ []) (counted, tt)
      ∙ ap (with_node useful start) (sym is)

  pub scan-built : (table alias : List ℕ) (cols : List (ColId × ℕ))
      → with_operator useful (schema_of_tree tables (tree.Scan table alias cols))
      (record { op = op.Scan table alias cols (hash_in (table_named table tables) cols) (replicated_in (table_named table tables)); children = [] } ∷ []) start
      ≡ with_tree tables useful start (tree.Scan table alias cols)
  scan-built table alias cols =
      operator-built tables useful start (tree.Scan table alias cols) _ [] [] tt ∙ ap (with_node useful start) (sym (scan-node tables table alias cols))

  pub filter-built : (conds : List Cond) (child : Tree) (count : ℕ) → Counted (written tables child) count → OfOne (tree.Filter conds child) (op.Filter conds) child
  filter-built conds child count counted = one-built (tree.Filter conds child) (op.Filter conds) child count counted (filter-node tables conds child)

  pub project-built : (items : List (ColId × Option Scalar)) (child : Tree) (count : ℕ) → Counted (written tables child) count → OfOne (tree.Project items child) (op.Project items) child
  project-built items child count counted = one-built (tree.Project items child) (op.Project items) child count counted (project-node tables items child)

  pub join-built : (kind : JoinKind) (conds : List Cond) (left right : Tree) (one other : ℕ) → Counted (written tables left) one → Counted (written tables right) other
      → let first = with_tree tables useful start left in
      let second = with_tree tables useful first right in
      with_operator useful (schema_of_tree tables (tree.Join kind conds left right)) (record { op = op.Join kind conds; children = last first ∷ last second ∷ [] } ∷ []) second
      ≡ with_tree tables useful start (tree.Join kind conds left right)
  join-built kind conds left right one other left_counted right_counted =
      let first = with_tree tables useful start left in
      let second = with_tree tables useful first right in
      ap₂ (λ l r. with_operator useful (schema_of_tree tables (tree.Join kind conds left right)) (record { op = op.Join kind conds; children = l ∷ r ∷ [] } ∷ []) second)
      (last-own useful start (written tables left) one left_counted)
      (last-own useful first (written tables right) other right_counted ∙ ap (λ b. id_of (own_group b (written tables right))) (made-after useful start (written tables left) one left_counted))
      ∙ operator-built tables useful start (tree.Join kind conds left right) (op.Join kind conds) (written tables left ∷ written tables right ∷ []) (one ∷ other ∷ []) (left_counted, (right_counted, tt))
      ∙ ap (with_node useful start) (sym (join-node tables kind conds left right))

  pub group-built : (keys : List ColId) (aggs : List Agg) (child : Tree) (count : ℕ) → Counted (written tables child) count
      → with_grouping tables useful (tree.GroupBy keys aggs child) keys aggs child (with_tree tables useful start child) ≡ with_tree tables useful start (tree.GroupBy keys aggs child)
  group-built keys aggs child count counted =
      ap (λ t. with_grouping tables useful (tree.GroupBy keys aggs t) keys aggs t (with_tree tables useful start child)) (sym (same-tree tables child))
      ∙ grouping-built tables useful start keys aggs (written tables child) count counted
      ∙ ap (with_node useful start) (sym (group-node tables keys aggs child))

  pub all-built : (leaves : List Tree) (conds : List Cond) (counts : List ℕ) → CountedEach (map (written tables) leaves) counts
      → with_block useful (sides_of tables start leaves) conds (fold (with_node useful) start (map (written tables) leaves)) ≡ with_tree tables useful start (tree.Block leaves conds)
  all-built leaves conds counts each =
      block-built tables useful start conds (map (written tables) leaves) counts each ∙ ap (with_node useful start) (sym (block-node tables leaves conds))

-- after a block's leaves there is room for its own groups
pub room-in_turn : (useful : List ColId) (nodes : List Node) (counts : List ℕ) → CountedEach nodes counts → (start : Building) (more : ℕ) → HasRoom start (sum counts + more) → HasRoom (fold (with_node useful) start nodes) more
room-in_turn useful [] [] each start more room = room-less start more (sum [] + more) (omega arith) room
room-in_turn useful [] (count ∷ counts) each start more room = absurd each
room-in_turn useful (node ∷ nodes) [] each start more room = absurd each
room-in_turn useful (node ∷ nodes) (count ∷ counts) each start more room =
    room-in_turn useful nodes counts each.1 (with_node useful start node) more
    (room-after useful start node count each.0 (sum counts + more) (room-less start (count + (sum counts + more)) (sum (count ∷ counts) + more) (let all = sum-cons count counts in omega (arith, all)) room))
