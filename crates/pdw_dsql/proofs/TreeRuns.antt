-- A local tree gives what its operator does, of what its children's trees give.
use Rattle.std.proofs.Common.{◌≡◌, suc, List, [], ◌∷◌, ◌++◌, length, map, slice_index_or, Option, Some, None, refl, ap, ◌∙◌}
use Rattle.pdw_algebra.specs.Local.{local_rows, local_step}
use Rattle.pdw_algebra.specs.declared.local.LocalTree.TheOpen.{LocalTree-F}
use Rattle.pdw_algebra.specs.declared.local.LocalTree.TheVariants as tree
use Rattle.pdw_algebra.specs.declared.local.LocalTree.{LocalTree}
use Rattle.pdw_base.specs.Schema.{Env}
use Rattle.pdw_base.specs.declared.node.Node.TheVariants as node
use Rattle.pdw_base.specs.declared.node.Node.{Node}
use Rattle.pdw_catalog.specs.Appliance.{Contents}
use Rattle.pdw_catalog.specs.Database.{Database}
use Rattle.pdw_dsql.specs.Follows.{rows_of_tree}
use Rattle.pdw_dsql.specs.Trees.{local_of, tree_of}
use Rattle.pdw_exec.proofs.LocalFolds.{fold-base, fold-filter, fold-final, fold-group, fold-join, fold-partial, fold-project, fold-temp}
use Rattle.pdw_exec.specs.Nodes.{node_database}
use Rattle.pdw_groups.specs.Meaning.{given}
use Rattle.pdw_groups.specs.declared.group.Expr.{Expr}
use Rattle.pdw_groups.specs.declared.op.Op.TheVariants as op
use Rattle.pdw_groups.specs.declared.op.Op.{Op}
use Rattle.pdw_plan.specs.Given.{applied, database_at}
use Rattle.pdw_rules.specs.Stands.{PlacedRows}

module _ (database : Database) (temps : List (List Env)) where
  abbrev rows : LocalTree → List Env
  rows = local_rows database temps

  abbrev layer : LocalTree-F (List Env) → List Env
  layer = local_step database temps

  operator-rows : (o : Op) (children : List LocalTree) → rows (local_of o children) ≡ given database o (map rows children)
  operator-rows (op.Scan table alias cols hash replicated) children = fold-base layer table cols
  operator-rows (op.Filter conds) [] = fold-temp layer 0
  operator-rows (op.Filter conds) (child ∷ rest) = fold-filter layer conds child
  operator-rows (op.Project items) [] = fold-temp layer 0
  operator-rows (op.Project items) (child ∷ rest) = fold-project layer items child
  operator-rows (op.Join kind conds) [] = fold-temp layer 0
  operator-rows (op.Join kind conds) (left ∷ []) = fold-temp layer 0
  operator-rows (op.Join kind conds) (left ∷ right ∷ rest) = fold-join layer kind conds left right
  operator-rows (op.GroupBy keys aggs) [] = fold-temp layer 0
  operator-rows (op.GroupBy keys aggs) (child ∷ rest) = fold-group layer keys aggs child
  operator-rows (op.Partial keys aggs) [] = fold-temp layer 0
  operator-rows (op.Partial keys aggs) (child ∷ rest) = fold-partial layer keys aggs child
  operator-rows (op.Final keys aggs) [] = fold-temp layer 0
  operator-rows (op.Final keys aggs) (child ∷ rest) = fold-final layer keys aggs child

-- the two ways in which a node's tables are written
same-database : (contents : Contents) (place : Node) → node_database contents place ≡ database_at contents place
same-database contents (node.Compute k) = refl
same-database contents node.Control = refl

-- the rows that an expression makes at a node of these of its children
abbrev pub applied_to : Contents → Option Expr → List (List Env) → Node → List Env
applied_to contents None bags place = []
applied_to contents (Some expr) bags place = given (database_at contents place) expr.op bags

pub applied-placed : (contents : Contents) (expr : Option Expr) (children : List PlacedRows) (place : Node) → applied contents expr children place ≡ applied_to contents expr (map (λ rows. rows place) children) place
applied-placed contents None children place = refl
applied-placed contents (Some expr) children place = refl

module _ (contents : Contents) (temps : List PlacedRows) (place : Node) where
  abbrev at_place : List (List Env)
  at_place = map (λ (temp : PlacedRows). temp place) temps

  pub tree-rows : (expr : Option Expr) (children : List LocalTree) → rows_of_tree contents temps (tree_of expr children) place ≡ applied_to contents expr (map (λ tree. rows_of_tree contents temps tree place) children) place
  tree-rows None children = fold-temp (local_step (node_database contents place) at_place) 0
  tree-rows (Some expr) children =
      operator-rows (node_database contents place) at_place expr.op children
      ∙ ap (λ (database : Database). given database expr.op (map (λ tree. rows_of_tree contents temps tree place) children)) (same-database contents place)

-- the temporary table of the number after those of some
nth-of : {X Y : Type 0} (f : X → Y) (before : List X) (x : X) (later : List X) (d : Y) → slice_index_or (map f (before ++ x ∷ later)) (length before) d ≡ f x
nth-of f [] x later d = refl
nth-of f (y ∷ before) x later d = nth-of f before x later d

pub temp-rows : (contents : Contents) (before : List PlacedRows) (temp : PlacedRows) (later : List PlacedRows) (place : Node)
    → rows_of_tree contents (before ++ temp ∷ later) (tree.Temp (suc (length before))) place ≡ temp place
temp-rows contents before temp later place =
    fold-temp (local_step (node_database contents place) (map (λ (t : PlacedRows). t place) (before ++ temp ∷ later))) (suc (length before))
    ∙ nth-of (λ (t : PlacedRows). t place) before temp later []
