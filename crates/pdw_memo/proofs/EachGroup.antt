-- What holds of the groups that each node of a tree adds holds of all groups of the tree, and of the memo's by their numbers.
use Rattle.std.proofs.Common.{◌≡◌, ℕ, zero, suc, ◌^◌, ◌<◌, Bool, true, false, cond, List, [], ◌∷◌, map, filter, length, Option, Some, refl, sym, ap, subst, ◌∙◌, arith}
use Rattle.std.specs.List.{AllByRecursion, slice_get}
use Rattle.std.specs.Option.{option_map}
use Rattle.std.proofs.lemmas.Option.{slice_get-map, slice_get_within}
use Rattle.pdw_algebra.proofs.AllLaws.{all-append}
use Rattle.pdw_algebra.proofs.TreeFolds.{Inductive, by_trees, fold-block, fold-filter, fold-group, fold-join, fold-project, fold-scan}
use Rattle.pdw_algebra.proofs.WellFormedParts.{BlockParts, IsSound, sound-block, sound-child, sound-filter, sound-join, sound-project}
use Rattle.pdw_algebra.specs.Shape.{Shape, group_shape, join_shape, scan_shape, shape_of, shape_step}
use Rattle.pdw_algebra.specs.declared.tree.Tree.{Tree}
use Rattle.pdw_algebra.specs.declared.tree.Tree.TheVariants as tree
use Rattle.pdw_base.specs.declared.schema.ColId.{ColId}
use Rattle.pdw_catalog.specs.Catalog.{Tables, table_named}
use Rattle.pdw_expr.specs.declared.agg.Agg.{Agg}
use Rattle.pdw_expr.specs.declared.agg.JoinKind.{JoinKind}
use Rattle.pdw_expr.specs.declared.cond.Cond.{Cond}
use Rattle.pdw_expr.specs.declared.scalar.Scalar.{Scalar}
use Rattle.pdw_groups.proofs.OrderLaws.{found}
use Rattle.pdw_groups.proofs.PartOrder.{below-less}
use Rattle.pdw_groups.specs.Block.{BlockLeaf, block_groups, inside_leaf, join_of, second_group, second_groups, seconds, set_group}
use Rattle.pdw_groups.specs.Columns.{hash_in, replicated_in}
use Rattle.pdw_groups.specs.Group.{Child, ExprOf, GroupOf, kept_expr, kept_group}
use Rattle.pdw_groups.specs.Level.{below, has_set, is_left}
use Rattle.pdw_groups.specs.Node.{Before, Node, groups_in_turn, grouping_groups, node_of, node_step, operator_node, own_block_groups, own_in_turn, passed, passed_all, whole_group}
use Rattle.pdw_groups.specs.declared.block.Level.{Level}
use Rattle.pdw_groups.specs.declared.group.Expr.{Expr}
use Rattle.pdw_groups.specs.declared.group.Group.{Group}
use Rattle.pdw_groups.specs.declared.op.Op.{Op}
use Rattle.pdw_groups.specs.declared.op.Op.TheVariants as op
use Rattle.pdw_memo.specs.Laws.{OfEachExpr}

-- ---- items by their places

pub some-same : {X : Type 0} (a b : X) → Some a ≡ Some b → a ≡ b
some-same a b same = cc

pub all-at : {X : Type 0} (P : X → Type 0) (xs : List X) → AllByRecursion P xs → (i : ℕ) (x : X) → slice_get xs i ≡ Some x → P x
all-at P [] all i x there = absurd (omega (arith, slice_get_within [] i x there))
all-at P (y ∷ xs) all zero x there = subst P (some-same y x there) all.0
all-at P (y ∷ xs) all (suc i) x there = all-at P xs all.1 i x there

-- what holds of each expression with its children's meanings holds of each as the memo has it
pub kept-each : (P : Expr → Type 0) (useful : List ColId) (groups : List GroupOf) → AllByRecursion (λ group. AllByRecursion (λ expr. P (kept_expr expr)) group.exprs) groups
    → OfEachExpr (map (kept_group useful) groups) P
kept-each P useful groups all number group there =
    let kept = kept_group useful in
    let at : option_map kept (slice_get groups number) ≡ Some group = sym (slice_get-map kept groups number) ∙ there in
    let own = found kept (slice_get groups number) group at in
    let same : kept own.0 ≡ group = some-same (kept own.0) group (sym (ap (option_map kept) own.1) ∙ at) in
    subst (λ (g : Group). AllByRecursion P g.exprs) same
    (each own.0.exprs (all-at (λ (group : GroupOf). AllByRecursion (λ (expr : ExprOf). P (kept_expr expr)) group.exprs) groups all number own.0 own.1))
  where
    each : (exprs : List ExprOf) → AllByRecursion (λ expr. P (kept_expr expr)) exprs → AllByRecursion P (map kept_expr exprs)
    each [] all = tt
    each (expr ∷ exprs) all = (all.0, each exprs all.1)

-- ---- blocks

all-filtered : {X Y : Type 0} (P : Y → Type 0) (f : X → Y) (test : X → Bool) (Q : X → Type 0) → ((x : X) → Q x → test x ≡ true → P (f x)) → (xs : List X) → AllByRecursion Q xs → AllByRecursion P (map f (filter test xs))
all-filtered P f test Q holds [] all = tt
all-filtered P f test Q holds (x ∷ xs) all = by (test x) refl (all-filtered P f test Q holds xs all.1)
  where
    by : (b : Bool) → test x ≡ b → AllByRecursion P (map f (filter test xs)) → AllByRecursion P (map f (cond b (x ∷ filter test xs) (filter test xs)))
    by true is rest = (holds x all.0 is, rest)
    by false is rest = rest

all-below : {Y : Type 0} (P : Y → Type 0) (f : ℕ → Y) (test : ℕ → Bool) (n : ℕ) → ((m : ℕ) → m < n → test m ≡ true → P (f m)) → AllByRecursion P (map f (filter test (below n)))
all-below P f test n holds = all-filtered P f test (λ m. m < n) holds (below n) (below-less n n (omega arith))

-- the joins of a set
pub each-join : (P : ExprOf → Type 0) (block : ℕ) (level : Level) (conds : List Cond) (leaves : List BlockLeaf) (first mask : ℕ)
    → ((left : ℕ) → left < mask → is_left level mask left ≡ true → P (join_of block level conds leaves first mask left)) → AllByRecursion P (set_group block level conds leaves first mask).exprs
each-join P block level conds leaves first mask holds = all-below P (join_of block level conds leaves first mask) (is_left level mask) mask holds

module _ (P : GroupOf → Type 0) where
  module _ (block : ℕ) (conds : List Cond) (second : (place : ℕ) (leaf : BlockLeaf) (some : List Cond) → AllByRecursion P (second_group block place leaf some)) where
    each-second : (place : ℕ) (leaves : List BlockLeaf) → AllByRecursion P (second_groups block conds place leaves)
    each-second place [] = tt
    each-second place (leaf ∷ leaves) =
        all-append P (second_group block place leaf (inside_leaf block conds leaf)) (second_groups block conds (suc place) leaves) (second place leaf (inside_leaf block conds leaf))
        (each-second (suc place) leaves)

    pub each-of_block : (level : Level) (leaves : List BlockLeaf) (first : ℕ) → ((mask : ℕ) → mask < 2 ^ length leaves → has_set level mask ≡ true → P (set_group block level conds leaves first mask))
        → AllByRecursion P (block_groups block level conds leaves first)
    each-of_block level leaves first set =
        all-append P (seconds block level conds leaves first) (map (set_group block level conds leaves first) (filter (has_set level) (below (2 ^ length leaves)))) (each-second 0 leaves)
        (all-below P (set_group block level conds leaves first) (has_set level) (2 ^ length leaves) set)

  -- ---- nodes

  abbrev Holds : Node → Type 0
  Holds node = (before : Before) → AllByRecursion P (node.groups before)

  each-in_turn : (nodes : List Node) → AllByRecursion Holds nodes → (before : Before) → AllByRecursion P (groups_in_turn nodes before)
  each-in_turn [] all before = tt
  each-in_turn (node ∷ nodes) all before =
      all-append P (node.groups before) (groups_in_turn nodes (passed before node)) (all.0 before) (each-in_turn nodes all.1 (passed before node))

  module _ (tables : Tables) (levels : ℕ → Level) where
    abbrev steps : Tree → Node
    steps = node_of tables levels

    -- the group of an operator that has this expression alone
    abbrev pub alone : ℕ → Tree → Op → List Child → GroupOf
    alone number t operator children = whole_group tables levels number t (record { operator = operator; children = children } ∷ [])

    -- what holds of the groups that a sound node adds after its children's
    pub record OfOwnGroups : Type 0 where
      pub scan : (number : ℕ) (table alias : List ℕ) (cols : List (ColId × ℕ)) → IsSound (scan_shape (table_named table tables) cols)
          → P (alone number (tree.Scan table alias cols) (op.Scan table alias cols (hash_in (table_named table tables) cols) (replicated_in (table_named table tables))) [])
      pub filter : (number : ℕ) (t : Tree) (conds : List Cond) (child : Child) → P (alone number t (op.Filter conds) (child ∷ []))
      pub project : (number : ℕ) (t : Tree) (items : List (ColId × Option Scalar)) (child : Child) → P (alone number t (op.Project items) (child ∷ []))
      pub block : (leaves : List Tree) (conds : List Cond) (before : Before) → BlockParts (map (shape_of tables) leaves) conds → AllByRecursion P (own_block_groups tables levels conds (map steps leaves) before)
      pub join : (number : ℕ) (t : Tree) (kind : JoinKind) (conds : List Cond) (left right : Tree) (before : Before) → IsSound (join_shape kind conds (shape_of tables left) (shape_of tables right))
          → P (alone number t (op.Join kind conds) (own_in_turn (steps left ∷ steps right ∷ []) before))
      pub group : (keys : List ColId) (aggs : List Agg) (child : Tree) (before : Before) → IsSound (group_shape keys aggs (shape_of tables child)) → AllByRecursion P (grouping_groups tables levels keys aggs (steps child) before)

    module _ (own : OfOwnGroups) where
      operator-each : (t : Tree) (operator : Op) (nodes : List Node) → ((before : Before) → P (alone (passed_all before nodes).operators t operator (own_in_turn nodes before))) → AllByRecursion Holds nodes
          → Holds (operator_node tables levels t operator nodes)
      operator-each t operator nodes here all before = all-append P (groups_in_turn nodes before) (alone (passed_all before nodes).operators t operator (own_in_turn nodes before) ∷ []) (each-in_turn nodes all before) (here before, tt)

      abbrev TreeHolds : Tree → Type 0
      TreeHolds t = IsSound (shape_of tables t) → Holds (steps t)

      from_layer : (t : Tree) (node : Node) (shape : Shape) → steps t ≡ node → shape_of tables t ≡ shape → (IsSound shape → Holds node) → TreeHolds t
      from_layer t node shape is_node is_shape holds sound = subst Holds (sym is_node) (holds (subst IsSound is_shape sound))

      each-leaf : (leaves : List Tree) → AllByRecursion TreeHolds leaves → AllByRecursion IsSound (map (shape_of tables) leaves) → AllByRecursion Holds (map steps leaves)
      each-leaf [] all sound = tt
      each-leaf (leaf ∷ leaves) all sound = (all.0 sound.0, each-leaf leaves all.1 sound.1)

      cases : Inductive TreeHolds
      cases = record {
        scan = λ table alias cols.
            from_layer (tree.Scan table alias cols) _ _ (fold-scan (node_step tables levels) table alias cols) (fold-scan (shape_step tables) table alias cols)
            (λ sound. operator-each (tree.Scan table alias cols) (op.Scan table alias cols (hash_in (table_named table tables) cols) (replicated_in (table_named table tables))) []
            (λ before. own.scan before.operators table alias cols sound) tt);
        filter = λ conds child holds.
            from_layer (tree.Filter conds child) _ _ (fold-filter (node_step tables levels) conds child) (fold-filter (shape_step tables) conds child)
            (λ sound. operator-each (tree.Filter conds (steps child).tree) (op.Filter conds) (steps child ∷ []) (λ before. own.filter _ _ conds _)
            (holds (sound-filter (shape_of tables child) _ (shape_of tables child).made _ sound), tt));
        project = λ items child holds.
            from_layer (tree.Project items child) _ _ (fold-project (node_step tables levels) items child) (fold-project (shape_step tables) items child)
            (λ sound. operator-each (tree.Project items (steps child).tree) (op.Project items) (steps child ∷ []) (λ before. own.project _ _ items _) (holds (sound-project items (shape_of tables child) sound), tt));
        block = λ leaves conds all.
            from_layer (tree.Block leaves conds) _ _ (fold-block (node_step tables levels) leaves conds) (fold-block (shape_step tables) leaves conds)
            (λ sound before.
            let parts = sound-block (map (shape_of tables) leaves) conds sound in
            all-append P (groups_in_turn (map steps leaves) before) (own_block_groups tables levels conds (map steps leaves) before)
            (each-in_turn (map steps leaves) (each-leaf leaves all parts.each) before) (own.block leaves conds before parts));
        join = λ kind conds left right first second.
            from_layer (tree.Join kind conds left right) _ _ (fold-join (node_step tables levels) kind conds left right) (fold-join (shape_step tables) kind conds left right)
            (λ sound.
            let both = sound-join kind conds (shape_of tables left) (shape_of tables right) sound in
            operator-each (tree.Join kind conds (steps left).tree (steps right).tree) (op.Join kind conds) (steps left ∷ steps right ∷ [])
            (λ before. own.join _ _ kind conds left right before sound) (first both.0, (second both.1, tt)));
        group = λ keys aggs child holds.
            from_layer (tree.GroupBy keys aggs child) _ _ (fold-group (node_step tables levels) keys aggs child) (fold-group (shape_step tables) keys aggs child)
            (λ sound before.
            all-append P ((steps child).groups before) (grouping_groups tables levels keys aggs (steps child) before) (holds (sound-child keys aggs (shape_of tables child) sound) before)
            (own.group keys aggs child before sound));
      }

      pub each-of_tree : (t : Tree) → TreeHolds t
      each-of_tree = by_trees TreeHolds cases
