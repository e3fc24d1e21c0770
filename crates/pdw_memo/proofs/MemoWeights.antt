-- Every memo is light: each expression weighs at most its group, and no group weighs much.
use Rattle.std.proofs.Common.{◌≡◌, ℕ, suc, ◌+◌, ◌-◌, ◌*◌, ◌^◌, ◌≤◌, List, [], ◌∷◌, map, sum, sum_by, Option, Some, None, refl, sym, ap, ap₂, subst, ◌∙◌, arith}
use Rattle.std.specs.List.{AllByRecursion, slice_get}
use Rattle.std.specs.Option.{option_map}
use Rattle.std.proofs.lemmas.List.Sums.{sum_by-cons}
use Rattle.std.proofs.lemmas.Option.{slice_get-map}
use Rattle.pdw_algebra.proofs.AllLaws.{all-append, all-map}
use Rattle.pdw_algebra.proofs.TreeFolds.{Inductive, by_trees, fold-block, fold-filter, fold-group, fold-join, fold-project, fold-scan}
use Rattle.pdw_algebra.specs.declared.tree.Tree.{Tree}
use Rattle.pdw_algebra.specs.declared.tree.Tree.TheVariants as tree
use Rattle.pdw_base.specs.SameBag.{weigh}
use Rattle.pdw_base.specs.declared.schema.ColId.{ColId}
use Rattle.pdw_catalog.specs.Catalog.{Tables, table_named}
use Rattle.pdw_expr.specs.declared.agg.Agg.{Agg}
use Rattle.pdw_expr.specs.declared.cond.Cond.{Cond}
use Rattle.pdw_groups.proofs.NodeOrder.{tree-ordered}
use Rattle.pdw_groups.proofs.NodeTree.{node-tree}
use Rattle.pdw_groups.proofs.OrderLaws.{found}
use Rattle.pdw_groups.specs.Columns.{hash_in, replicated_in, useful_columns}
use Rattle.pdw_groups.specs.Group.{Child, ExprOf, GroupOf, IsAmong, id_of, kept_expr, kept_group}
use Rattle.pdw_groups.specs.Meaning.{Meaning}
use Rattle.pdw_groups.specs.Memo.{Contents, at_first, groups_of}
use Rattle.pdw_groups.specs.Node.{Before, Node, block_leaves, block_node, groups_in_turn, grouping_groups, grouping_node, node_of, node_step, operator_node, own_block_groups, own_in_turn, passed, passed_all, whole_group}
use Rattle.pdw_groups.specs.declared.block.Level.{Level}
use Rattle.pdw_groups.specs.declared.group.Expr.{Expr}
use Rattle.pdw_groups.specs.declared.group.Group.{Group}
use Rattle.pdw_groups.specs.declared.key.GroupId.{GroupId}
use Rattle.pdw_groups.specs.declared.op.Op.{Op}
use Rattle.pdw_groups.specs.declared.op.Op.TheVariants as op
use Rattle.pdw_memo.proofs.Counts.{sum-cons}
use Rattle.pdw_memo.proofs.EachGroup.{all-at, some-same}
use Rattle.pdw_memo.proofs.MemoSides.{all-among}
use Rattle.pdw_memo.proofs.Weights.{LightTo, block-light, block-weight, child_weight, each-under, leaf_weight, meaning_weight, tree_weight, weight_step}
use Rattle.pdw_memo.specs.Laws.{IsLight}
use Rattle.pdw_memo.specs.Memo.{IsMemo, count_step, node_count}

-- ---- nodes

abbrev node_weight : Node → ℕ
node_weight node = tree_weight node.tree

-- a node's groups weigh at most what its tree does
abbrev Light : Node → Type 0
Light node = (before : Before) → AllByRecursion (LightTo (node_weight node)) (node.groups before)

lighter : (less most : ℕ) → less ≤ most → (group : GroupOf) → LightTo less group → LightTo most group
lighter less most le group light = record { few = let few = light.few in omega (arith, le, few); each = light.each }

turn-light : (most : ℕ) (nodes : List Node) → AllByRecursion (λ node. node_weight node ≤ most) nodes → AllByRecursion Light nodes → (before : Before) → AllByRecursion (LightTo most) (groups_in_turn nodes before)
turn-light most [] few all before = tt
turn-light most (node ∷ nodes) few all before =
    all-append (LightTo most) (node.groups before) (groups_in_turn nodes (passed before node))
    (all-map (LightTo (node_weight node)) (LightTo most) (lighter (node_weight node) most few.0) (node.groups before) (all.0 before))
    (turn-light most nodes few.1 all.1 (passed before node))

own-weight : (nodes : List Node) (before : Before) → weigh child_weight (own_in_turn nodes before) ≡ weigh node_weight nodes
own-weight [] before = refl
own-weight (node ∷ nodes) before = ap (λ n. node_weight node + n) (own-weight nodes (passed before node))

module _ (tables : Tables) (levels : ℕ → Level) where
  operator-light : (t : Tree) (operator : Op) (nodes : List Node) → suc (weigh node_weight nodes) ≤ tree_weight t → AllByRecursion Light nodes → Light (operator_node tables levels t operator nodes)
  operator-light t operator nodes le all before =
      let own = own-weight nodes before in
      all-append (LightTo (tree_weight t)) (groups_in_turn nodes before) (whole_group tables levels (passed_all before nodes).operators t (record { operator = operator; children = own_in_turn nodes before } ∷ []) ∷ [])
      (turn-light (tree_weight t) nodes (each-under node_weight nodes (tree_weight t) (omega (arith, le))) all before)
      (record { few = omega arith; each = (omega (arith, le, own), tt) }, tt)

  grouping-light : (keys : List ColId) (aggs : List Agg) (child : Node) → Light child → Light (grouping_node tables levels keys aggs child)
  grouping-light keys aggs child light before =
      let most = tree_weight (tree.GroupBy keys aggs child.tree) in
      let is : most ≡ node_weight child + 2 = fold-group weight_step keys aggs child.tree in
      all-append (LightTo most) (child.groups before) (grouping_groups tables levels keys aggs child before)
      (all-map (LightTo (node_weight child)) (LightTo most) (lighter (node_weight child) most (omega (arith, is))) (child.groups before) (light before)) (
        record { few = omega (arith, is); each = (omega arith, tt) },
        (record { few = omega arith; each = (omega (arith, is), (omega (arith, is), tt)) }, tt),
      )

  leaves-weight : (nodes : List Node) (before : Before) → weigh leaf_weight (block_leaves tables levels nodes before) ≡ weigh (λ node. node_weight node + 2) nodes
  leaves-weight [] before = refl
  leaves-weight (node ∷ nodes) before = ap (λ n. (node_weight node + 2) + n) (leaves-weight nodes (passed before node))

  trees-weight : (nodes : List Node) → weigh (λ t. tree_weight t + 2) (map (λ (node : Node). node.tree) nodes) ≡ weigh (λ node. node_weight node + 2) nodes
  trees-weight [] = refl
  trees-weight (node ∷ nodes) = ap (λ n. (node_weight node + 2) + n) (trees-weight nodes)

  block-node-light : (conds : List Cond) (nodes : List Node) → AllByRecursion Light nodes → Light (block_node tables levels conds nodes)
  block-node-light conds nodes all before =
      let after = passed_all before nodes in
      let most = tree_weight (tree.Block (map (λ (node : Node). node.tree) nodes) conds) in
      let is : most ≡ weigh (λ node. node_weight node + 2) nodes - 1 = block-weight (map (λ (node : Node). node.tree) nodes) conds ∙ ap (λ n. n - 1) (trees-weight nodes) in
      let leaves = leaves-weight nodes before in
      let same : weigh leaf_weight (block_leaves tables levels nodes before) - 1 ≡ most = omega (arith, is, leaves) in
      all-append (LightTo most) (groups_in_turn nodes before) (own_block_groups tables levels conds nodes before)
      (turn-light most nodes
      (all-map (λ node. node_weight node + 2 ≤ suc most) (λ node. node_weight node ≤ most) (λ node le. omega (arith, le)) nodes (each-under (λ node. node_weight node + 2) nodes (suc most) (omega (arith, is)))) all before)
      (subst (λ n. AllByRecursion (LightTo n) (own_block_groups tables levels conds nodes before)) same
      (block-light after.blocks conds (levels after.blocks) (block_leaves tables levels nodes before) after.groups))

  -- ---- any tree

  abbrev steps : Tree → Node
  steps = node_of tables levels

  abbrev TreeLight : Tree → Type 0
  TreeLight t = Light (steps t)

  leaves-light : (leaves : List Tree) → AllByRecursion TreeLight leaves → AllByRecursion Light (map steps leaves)
  leaves-light [] all = tt
  leaves-light (leaf ∷ leaves) all = (all.0, leaves-light leaves all.1)

  light-cases : Inductive TreeLight
  light-cases = record {
    scan = λ table alias cols.
        subst Light (sym (fold-scan (node_step tables levels) table alias cols))
        (operator-light (tree.Scan table alias cols) (op.Scan table alias cols (hash_in (table_named table tables) cols) (replicated_in (table_named table tables))) []
        (let is = fold-scan weight_step table alias cols in omega (arith, is)) tt);
    filter = λ conds child light.
        subst Light (sym (fold-filter (node_step tables levels) conds child))
        (operator-light (tree.Filter conds (steps child).tree) (op.Filter conds) (steps child ∷ []) (let is = fold-filter weight_step conds (steps child).tree in omega (arith, is)) (light, tt));
    project = λ items child light.
        subst Light (sym (fold-project (node_step tables levels) items child))
        (operator-light (tree.Project items (steps child).tree) (op.Project items) (steps child ∷ []) (let is = fold-project weight_step items (steps child).tree in omega (arith, is)) (light, tt));
    block = λ leaves conds all. subst Light (sym (fold-block (node_step tables levels) leaves conds)) (block-node-light conds (map steps leaves) (leaves-light leaves all));
    join = λ kind conds left right first second.
        subst Light (sym (fold-join (node_step tables levels) kind conds left right))
        (operator-light (tree.Join kind conds (steps left).tree (steps right).tree) (op.Join kind conds) (steps left ∷ steps right ∷ [])
        (let is = fold-join weight_step kind conds (steps left).tree (steps right).tree in omega (arith, is)) (first, (second, tt)));
    group = λ keys aggs child light. subst Light (sym (fold-group (node_step tables levels) keys aggs child)) (grouping-light keys aggs (steps child) light);
  }

  tree-light : (t : Tree) → TreeLight t
  tree-light = by_trees TreeLight light-cases

-- ---- how heavy a tree is

abbrev IsBounded : Tree → Type 0
IsBounded t = tree_weight t + 2 ≤ 4 * node_count t

leaves-bounded : (leaves : List Tree) → AllByRecursion IsBounded leaves → weigh (λ t. tree_weight t + 2) leaves ≤ 4 * sum (map node_count leaves)
leaves-bounded [] all = omega arith
leaves-bounded (leaf ∷ leaves) all =
    let one = all.0 in
    let rest = leaves-bounded leaves all.1 in
    let total = sum-cons (node_count leaf) (map node_count leaves) in
    omega (arith, one, rest, total)

bounded-cases : Inductive IsBounded
bounded-cases = record {
  scan = λ table alias cols. let is = fold-scan weight_step table alias cols in let count = fold-scan count_step table alias cols in omega (arith, is, count);
  filter = λ conds child bounded. let is = fold-filter weight_step conds child in let count = fold-filter count_step conds child in omega (arith, is, count, bounded);
  project = λ items child bounded. let is = fold-project weight_step items child in let count = fold-project count_step items child in omega (arith, is, count, bounded);
  block = λ leaves conds all.
      let is = block-weight leaves conds in let count = fold-block count_step leaves conds in let bounded = leaves-bounded leaves all in omega (arith, is, count, bounded);
  join = λ kind conds left right first second.
      let is = fold-join weight_step kind conds left right in let count = fold-join count_step kind conds left right in omega (arith, is, count, first, second);
  group = λ keys aggs child bounded. let is = fold-group weight_step keys aggs child in let count = fold-group count_step keys aggs child in omega (arith, is, count, bounded);
}

bounded : (t : Tree) → IsBounded t
bounded = by_trees IsBounded bounded-cases

-- ---- by numbers

abbrev weight_if : Option Meaning → ℕ
weight_if None = 0
weight_if (Some means) = meaning_weight means

module _ (groups : List GroupOf) where
  -- what the group of a number means weighs this
  abbrev weight_at : ℕ → ℕ
  weight_at number = weight_if (slice_get (map (λ (group : GroupOf). group.means) groups) number)

  weight-there : (number : ℕ) (means : Meaning) → option_map (λ (group : GroupOf). group.means) (slice_get groups number) ≡ Some means → weight_at number ≡ meaning_weight means
  weight-there number means there = ap weight_if (slice_get-map (λ (group : GroupOf). group.means) groups number ∙ there)

  children-weight : (children : List Child) → AllByRecursion (IsAmong groups) children → sum_by (λ (child : GroupId). weight_at child.0) (map id_of children) ≡ weigh child_weight children
  children-weight [] among = refl
  children-weight (child ∷ children) among =
      sum_by-cons (λ (child : GroupId). weight_at child.0) (id_of child) (map id_of children) ∙ ap₂ (λ a b. a + b) (weight-there child.number child.means among.0) (children-weight children among.1)

  exprs-light : (most : ℕ) (exprs : List ExprOf) → AllByRecursion (λ expr. suc (weigh child_weight expr.children) ≤ most) exprs → AllByRecursion (λ expr. AllByRecursion (IsAmong groups) expr.children) exprs
      → AllByRecursion (λ (expr : Expr). suc (sum_by (λ (child : GroupId). weight_at child.0) expr.children) ≤ most) (map kept_expr exprs)
  exprs-light most [] light among = tt
  exprs-light most (expr ∷ exprs) light among =
      (let one = light.0 in let same = children-weight expr.children among.0 in omega (arith, one, same), exprs-light most exprs light.1 among.1)

  kept-light : (useful : List ColId) (most : ℕ) → most ≤ 2 ^ 20 → AllByRecursion (LightTo most) groups
      → AllByRecursion (λ group. AllByRecursion (λ expr. AllByRecursion (IsAmong groups) expr.children) group.exprs) groups → IsLight (map (kept_group useful) groups)
  kept-light useful most few light among = record {
    weight = weight_at;
    each = λ number group there.
        let kept = kept_group useful in
        let at : option_map kept (slice_get groups number) ≡ Some group = sym (slice_get-map kept groups number) ∙ there in
        let own = found kept (slice_get groups number) group at in
        let same : kept own.0 ≡ group = some-same (kept own.0) group (sym (ap (option_map kept) own.1) ∙ at) in
        let weighs : weight_at number ≡ meaning_weight own.0.means = weight-there number own.0.means (ap (option_map (λ (g : GroupOf). g.means)) own.1) in
        subst (λ (g : Group). AllByRecursion (λ (expr : Expr). suc (sum_by (λ (child : GroupId). weight_at child.0) expr.children) ≤ weight_at number) g.exprs) same
        (subst (λ n. AllByRecursion (λ (expr : Expr). suc (sum_by (λ (child : GroupId). weight_at child.0) expr.children) ≤ n) (map kept_expr own.0.exprs)) (sym weighs)
        (exprs-light (meaning_weight own.0.means) own.0.exprs (all-at (LightTo most) groups light number own.0 own.1).each
        (all-at (λ (group : GroupOf). AllByRecursion (λ (expr : ExprOf). AllByRecursion (IsAmong groups) expr.children) group.exprs) groups among number own.0 own.1)));
    few = λ number within.
        let here = by number (slice_get groups number) refl in
        let same : weight_at number ≡ weight_if (option_map (λ (g : GroupOf). g.means) (slice_get groups number)) = ap weight_if (slice_get-map (λ (g : GroupOf). g.means) groups number) in
        omega (arith, here, same, few);
  }
    where
      by : (number : ℕ) (some : Option GroupOf) → slice_get groups number ≡ some → weight_if (option_map (λ (g : GroupOf). g.means) some) ≤ most
      by number None is = omega arith
      by number (Some group) is = (all-at (LightTo most) groups light number group is).few

pub memo-light : (contents : Contents) → IsMemo contents → IsLight contents.groups
memo-light contents memo =
    let node = node_of memo.tables memo.levels memo.tree in
    let same : node.tree ≡ memo.tree = node-tree memo.tables memo.levels memo.tree in
    let most = bounded memo.tree in
    let weighs : tree_weight node.tree ≡ tree_weight memo.tree = ap tree_weight same in
    let few = memo.plannable.few in
    subst (λ (c : Contents). IsLight c.groups) (sym memo.is)
    (kept-light (groups_of memo.tables memo.levels memo.tree) (useful_columns memo.tables memo.tree) (tree_weight node.tree) (omega (arith, most, weighs, few))
    (tree-light memo.tables memo.levels memo.tree at_first)
    (all-among [] (groups_of memo.tables memo.levels memo.tree) (tree-ordered memo.tables memo.levels memo.tree memo.plannable.well_formed [] at_first refl).order))
