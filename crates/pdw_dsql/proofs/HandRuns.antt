-- A step that is run over the rows of two nodes, worked out by hand.
use Rattle.std.proofs.Common.{◌≡◌, List, [], ◌∷◌, ◌∙◌, map, pos, refl, ap}
use Rattle.pdw_algebra.specs.Local.{local_step}
use Rattle.pdw_algebra.specs.declared.local.LocalTree.TheVariants as tree
use Rattle.pdw_algebra.specs.declared.local.LocalTree.{LocalTree}
use Rattle.pdw_base.specs.Schema.{Env}
use Rattle.pdw_base.specs.declared.node.Node.TheVariants as node
use Rattle.pdw_base.specs.declared.node.Node.{Node}
use Rattle.pdw_base.specs.declared.schema.ColId.{ColId}
use Rattle.pdw_base.specs.declared.value.Kind.TheVariants as kinds
use Rattle.pdw_base.specs.declared.value.Value.TheVariants.{Null, Int}
use Rattle.pdw_base.specs.declared.value.Value.{Value}
use Rattle.pdw_catalog.specs.Appliance.{Contents, bag_at}
use Rattle.pdw_catalog.specs.Sample.{sample_table}
use Rattle.pdw_catalog.specs.declared.table.Placing.TheVariants.{Hash}
use Rattle.pdw_dsql.proofs.TreeRuns.{temp-rows}
use Rattle.pdw_dsql.specs.Follows.{brought_by, returned_of, rows_of_tree, taken_by}
use Rattle.pdw_dsql.specs.Sites.{made_within}
use Rattle.pdw_dsql.specs.declared.steps.Site.TheVariants as site
use Rattle.pdw_dsql.specs.declared.steps.Step.{Step}
use Rattle.pdw_dsql.specs.declared.steps.Steps.{Steps}
use Rattle.pdw_exec.proofs.LocalFolds.{fold-base}
use Rattle.pdw_exec.specs.Nodes.{node_database}
use Rattle.pdw_expr.specs.Rows.{scanned}
use Rattle.pdw_move.specs.declared.kinds.Move.TheVariants as move
use Rattle.pdw_rules.specs.Stands.{PlacedRows, after_move}

abbrev a : ColId
a = record { 0 = 0 }

-- table t (a INT, b TEXT) with one row at node 0 and two at node 1
abbrev contents : Contents
contents = record {
  nodes = 2;
  tables = (116 ∷ [], sample_table (116 ∷ []) (Hash 0)) ∷ [];
  bags = (((Int (pos 4) ∷ Null ∷ []) ∷ []) ∷ ((Int (pos 1) ∷ Null ∷ []) ∷ (Int (pos 3) ∷ Null ∷ []) ∷ []) ∷ []) ∷ [];
}

abbrev row : Value → Env
row value = scanned ((a, 0) ∷ []) (value ∷ Null ∷ [])

abbrev base : LocalTree
base = tree.Base (116 ∷ []) ((a, 0) ∷ [])

-- each node sends its rows to every node, and the first one returns what it has
abbrev broadcast : Step
broadcast = record { tree = base; schema = (a, kinds.Int) ∷ []; site = site.All; mv = move.Broadcast; to = 1 }

abbrev steps : Steps
steps = record { moves = broadcast ∷ []; last = tree.Temp 1; last_site = site.First }

abbrev scanned_there : PlacedRows
scanned_there (node.Compute k) = map (scanned ((a, 0) ∷ [])) (bag_at k (116 ∷ []) contents)
scanned_there node.Control = []

taken_from_each : made_within site.All (rows_of_tree contents [] base) ≡ scanned_there
taken_from_each = λ i place. each place i
  where
    each : (place : Node) → made_within site.All (rows_of_tree contents [] base) place ≡ scanned_there place
    each (node.Compute k) = fold-base (local_step (node_database contents (node.Compute k)) []) (116 ∷ []) ((a, 0) ∷ [])
    each node.Control = refl

returned : returned_of contents steps ≡ row (Int (pos 4)) ∷ row (Int (pos 1)) ∷ row (Int (pos 3)) ∷ []
returned =
    temp-rows contents [] (brought_by contents (taken_by contents [] broadcast)) [] (node.Compute 0) ∙ ap (λ (rows : PlacedRows). after_move 2 move.Broadcast rows (node.Compute 0)) taken_from_each
