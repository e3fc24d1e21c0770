-- The memo of SELECT COUNT(*) over a table, worked out by hand.
use Rattle.std.specs.Prelude.{◌≡◌, ℕ, false, List, [], ◌∷◌, None}
use Rattle.std.proofs.Common.{map, refl, ap, ap₂, ◌∙◌}
use Rattle.pdw_algebra.proofs.TreeFolds.{fold-group, fold-project, fold-scan}
use Rattle.pdw_algebra.specs.Shape.{Shape, columns_of, shape_of, shape_step}
use Rattle.pdw_algebra.specs.Schema.{rising}
use Rattle.pdw_base.specs.Schema.{Columns}
use Rattle.pdw_groups.specs.Columns.{interesting_in, partial_schema, useful_columns, useful_step}
use Rattle.pdw_groups.specs.Group.{kept_group}
use Rattle.pdw_groups.specs.Node.{Node, node_of, node_step}
use Rattle.pdw_algebra.specs.declared.tree.Tree.{Tree}
use Rattle.pdw_algebra.specs.declared.tree.Tree.TheOpen.{Tree-F}
use Rattle.pdw_algebra.specs.declared.tree.Tree.TheVariants as tree
use Rattle.pdw_base.specs.declared.schema.ColId.{ColId}
use Rattle.pdw_base.specs.declared.value.Kind.TheVariants as kind
use Rattle.pdw_catalog.specs.Catalog.{Tables}
use Rattle.pdw_catalog.specs.declared.table.Placing.TheVariants as placing
use Rattle.pdw_catalog.specs.Sample.{sample_table}
use Rattle.pdw_expr.specs.declared.agg.Agg.{Agg}
use Rattle.pdw_expr.specs.declared.agg.AggKind.TheVariants as aggregate
use Rattle.pdw_groups.specs.Memo.{all_written, at_first, memo_of}
use Rattle.pdw_groups.specs.declared.group.Expr.{Expr}
use Rattle.pdw_groups.specs.declared.group.Group.{Group}
use Rattle.pdw_groups.specs.declared.key.GroupKey.{GroupKey}
use Rattle.pdw_groups.specs.declared.key.GroupKey.TheVariants as key
use Rattle.pdw_groups.specs.declared.op.Op.TheVariants as op

-- e is hash-distributed on its first column
abbrev e : List ℕ
e = 101 ∷ []

abbrev tables : Tables
tables = (e, sample_table e (placing.Hash 0)) ∷ []

abbrev counted : ColId
counted = record { 0 = 0 }

abbrev counts : List Agg
counts = record { kind = aggregate.CountStar; arg = None; out = counted } ∷ []

abbrev count_tree : Tree
count_tree = tree.Project ((counted, None) ∷ []) (tree.GroupBy [] counts (tree.Scan e e []))

-- the tree, layer by layer
abbrev step : Tree-F Node → Node
step = node_step tables all_written

node-of_count : node_of tables all_written count_tree ≡ step (Tree-F.Project ((counted, None) ∷ []) (step (Tree-F.GroupBy [] counts (step (Tree-F.Scan e e [])))))
node-of_count =
    fold-project step ((counted, None) ∷ []) (tree.GroupBy [] counts (tree.Scan e e []))
    ∙ ap (λ node. step (Tree-F.Project ((counted, None) ∷ []) node))
    (fold-group step [] counts (tree.Scan e e []) ∙ ap (λ node. step (Tree-F.GroupBy [] counts node)) (fold-scan step e e []))

useful-in_count : useful_columns tables count_tree ≡ []
useful-in_count = simp (fold-project (useful_step tables), fold-group (useful_step tables), fold-scan (useful_step tables)) refl

shape-of_scan : shape_of tables (tree.Scan e e []) ≡ shape_step tables (Tree-F.Scan e e [])
shape-of_scan = fold-scan (shape_step tables) e e []

shape-of_group : shape_of tables (tree.GroupBy [] counts (tree.Scan e e [])) ≡ shape_step tables (Tree-F.GroupBy [] counts (shape_step tables (Tree-F.Scan e e [])))
shape-of_group = fold-group (shape_step tables) [] counts (tree.Scan e e []) ∙ ap (λ shape. shape_step tables (Tree-F.GroupBy [] counts shape)) shape-of_scan

shape-of_project : shape_of tables count_tree ≡ shape_step tables (Tree-F.Project ((counted, None) ∷ []) (shape_step tables (Tree-F.GroupBy [] counts (shape_step tables (Tree-F.Scan e e [])))))
shape-of_project =
    fold-project (shape_step tables) ((counted, None) ∷ []) (tree.GroupBy [] counts (tree.Scan e e []))
    ∙ ap (λ shape. shape_step tables (Tree-F.Project ((counted, None) ∷ []) shape)) shape-of_group

-- the groups, by the columns of the scan, of the grouping and of the whole tree
abbrev group_with : GroupKey → Columns → List Expr → Group
group_with key schema exprs = record { key = key; schema = schema; interesting = interesting_in [] schema; exprs = exprs }

abbrev groups_with : Columns → Columns → Columns → List Group
groups_with scan group whole =
    group_with (key.Whole 0) (rising scan) (record { op = op.Scan e e [] None false; children = [] } ∷ [])
    ∷ group_with (key.Partial 1) (partial_schema [] counts (rising scan)) (record { op = op.Partial [] counts; children = record { 0 = 0 } ∷ [] } ∷ [])
    ∷ group_with (key.Whole 1) (rising group)
    (record { op = op.GroupBy [] counts; children = record { 0 = 0 } ∷ [] } ∷ record { op = op.Final [] counts; children = record { 0 = 1 } ∷ [] } ∷ [])
    ∷ group_with (key.Whole 2) (rising whole) (record { op = op.Project ((counted, None) ∷ []); children = record { 0 = 2 } ∷ [] } ∷ [])
    ∷ []

-- the scan has no column, so none is interesting; the count is kept as a wide number
pub groups-of_count : (memo_of tables all_written count_tree).groups ≡
    record {
      key = key.Whole 0;
      schema = [];
      interesting = [];
      exprs = record { op = op.Scan e e [] None false; children = [] } ∷ [];
    }
    ∷ record {
      key = key.Partial 1;
      schema = (counted, kind.Wide) ∷ [];
      interesting = counted ∷ [];
      exprs = record { op = op.Partial [] counts; children = record { 0 = 0 } ∷ [] } ∷ [];
    }
    ∷ record {
      key = key.Whole 1;
      schema = (counted, kind.Int) ∷ [];
      interesting = counted ∷ [];
      exprs = record { op = op.GroupBy [] counts; children = record { 0 = 0 } ∷ [] } ∷ record { op = op.Final [] counts; children = record { 0 = 1 } ∷ [] } ∷ [];
    }
    ∷ record {
      key = key.Whole 2;
      schema = (counted, kind.Int) ∷ [];
      interesting = counted ∷ [];
      exprs = record { op = op.Project ((counted, None) ∷ []); children = record { 0 = 2 } ∷ [] } ∷ [];
    }
    ∷ []
groups-of_count =
    ap₂ (λ useful (node : Node). map (kept_group useful) (node.groups at_first)) useful-in_count node-of_count
    ∙ ap (λ (shape : Shape). groups_with shape.columns (columns_of tables (tree.GroupBy [] counts (tree.Scan e e []))) (columns_of tables count_tree)) shape-of_scan
    ∙ ap₂ (λ (group whole : Shape). groups_with [] group.columns whole.columns) shape-of_group shape-of_project
