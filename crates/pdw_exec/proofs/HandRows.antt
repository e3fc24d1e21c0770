-- Local trees worked out by hand.
use Rattle.std.proofs.Common.{◌≡◌, ◌&&◌, ◌∙◌, ap, sym, pos, true, false, [], ◌∷◌, Option, None, Some, is_some, refl}
use Rattle.pdw_agg.specs.Fitting.{is_plain}
use Rattle.pdw_algebra.specs.Schema.{kind_at, rising}
use Rattle.pdw_algebra.specs.Shape.{kind_or_int}
use Rattle.pdw_algebra.specs.Types.{scalar_kind, scalar_kind_step}
use Rattle.pdw_algebra.specs.declared.local.LocalTree.TheOpen.{LocalTree-F}
use Rattle.pdw_base.specs.Schema.{Columns, cell}
use Rattle.pdw_base.specs.declared.node.Node.TheVariants as node
use Rattle.pdw_base.specs.declared.schema.ColId.{ColId}
use Rattle.pdw_base.specs.declared.value.Kind.TheVariants as kind
use Rattle.pdw_base.specs.declared.value.Kind.{Kind}
use Rattle.pdw_base.specs.declared.value.Value.TheVariants.{Null, Int}
use Rattle.pdw_catalog.specs.Appliance.{Contents}
use Rattle.pdw_catalog.specs.Sample.{sample_table}
use Rattle.pdw_catalog.specs.declared.table.Placing.TheVariants.{Hash}
use Rattle.pdw_exec.specs.Nodes.{node_database, temporaries}
use Rattle.pdw_exec.specs.Scans.{place_in, places_in}
use Rattle.pdw_exec.specs.Shapes.{LocalShape, can_finish, can_group, can_keep, have_kinds, local_shape_step, temporary_schema}
use Rattle.pdw_expr.specs.declared.agg.Agg.{Agg}
use Rattle.pdw_expr.specs.declared.agg.AggKind.TheVariants.{CountStar, Min}
use Rattle.pdw_expr.specs.declared.agg.JoinKind.TheVariants.{Semi, Left}
use Rattle.pdw_expr.specs.declared.scalar.Scalar.TheFolds.{fold-roll-Scalar}
use Rattle.pdw_expr.specs.declared.scalar.Scalar.TheOpen.{Scalar-F}
use Rattle.pdw_expr.specs.declared.scalar.Scalar.TheVariants as scalar
use Rattle.pdw_move.specs.declared.placed.Placed.{Placed}

abbrev a : ColId
a = record { 0 = 3 }

abbrev b : ColId
b = record { 0 = 5 }

abbrev out : ColId
out = record { 0 = 7 }

abbrev count_rows : Agg
count_rows = record { kind = CountStar; arg = None; out = out }

abbrev least_b : Agg
least_b = record { kind = Min; arg = Some (scalar.Col b); out = out }

-- ---- what a node has

-- table t (a INT, b TEXT) with one row at node 0 and two at node 1
abbrev two_nodes : Contents
two_nodes = record {
  nodes = 2;
  tables = (116 ∷ [], sample_table (116 ∷ []) (Hash 0)) ∷ [];
  bags = (((Int (pos 4) ∷ Null ∷ []) ∷ []) ∷ ((Int (pos 1) ∷ Null ∷ []) ∷ (Int (pos 3) ∷ Null ∷ []) ∷ []) ∷ []) ∷ [];
}

first_node : (node_database two_nodes (node.Compute 0)).rows (116 ∷ []) ≡ (Int (pos 4) ∷ Null ∷ []) ∷ []
first_node = refl

second_node : (node_database two_nodes (node.Compute 1)).rows (116 ∷ []) ≡ (Int (pos 1) ∷ Null ∷ []) ∷ (Int (pos 3) ∷ Null ∷ []) ∷ []
second_node = refl

control_node : (node_database two_nodes node.Control).rows (116 ∷ []) ≡ []
control_node = refl

no_such_node : (node_database two_nodes (node.Compute 2)).rows (116 ∷ []) ≡ []
no_such_node = refl

no_such_table : (node_database two_nodes (node.Compute 0)).rows (117 ∷ []) ≡ []
no_such_table = refl

-- ---- temporary tables

abbrev columns : Columns
columns = (a, kind.Int) ∷ (b, kind.Text) ∷ []

abbrev moved : Placed
moved = record { nodes = [] ∷ ((Int (pos 8) ∷ Null ∷ []) ∷ []) ∷ []; control = (Null ∷ Null ∷ []) ∷ [] }

at_the_second_node : temporaries (moved ∷ []) (columns ∷ []) (node.Compute 1) ≡ (cell columns (Int (pos 8) ∷ Null ∷ []) ∷ []) ∷ []
at_the_second_node = refl

at_the_control_node : temporaries (moved ∷ []) (columns ∷ []) node.Control ≡ (cell columns (Null ∷ Null ∷ []) ∷ []) ∷ []
at_the_control_node = refl

-- a table without a schema is none
no_schema : temporaries (moved ∷ []) [] node.Control ≡ []
no_schema = refl

-- the first has the number 1
first_schema : temporary_schema (columns ∷ []) 1 ≡ columns
first_schema = refl

number_0_is_none : temporary_schema (columns ∷ []) 0 ≡ []
number_0_is_none = refl

-- ---- columns and types, layer by layer

abbrev typed : Columns → LocalShape
typed columns = record { columns = columns; typed = true }

-- b stands before a in the tree, and after it by its number; the table's second column is TEXT
base : local_shape_step two_nodes.tables [] (LocalTree-F.Base (116 ∷ []) ((b, 1) ∷ (a, 0) ∷ [])) ≡ typed columns
base = refl

column : (columns : Columns) (c : ColId) → scalar_kind columns (scalar.Col c) ≡ kind_at columns c
column columns c = ap (scalar_kind columns) (sym (scalar.rolls-Col c)) ∙ fold-roll-Scalar (Option Kind) (scalar_kind_step columns) (Scalar-F.Col c)

-- a column is passed on, and an expression makes one
project : local_shape_step [] [] (LocalTree-F.Project ((out, Some (scalar.Col a)) ∷ (b, None) ∷ []) (typed columns)) ≡ typed ((b, kind.Text) ∷ (out, kind.Int) ∷ [])
project = ap (λ k. record { columns = rising ((out, kind_or_int k) ∷ (b, kind.Text) ∷ []); typed = is_some k && true }) (column columns a)

-- a column that is not there has no kind
project_absent : have_kinds columns ((out, None) ∷ []) ≡ false
project_absent = refl

-- Semi keeps the left side's columns, Left has both
semi_join : local_shape_step [] [] (LocalTree-F.Join Semi [] (typed columns) (typed ((out, kind.Int) ∷ []))) ≡ typed columns
semi_join = refl

left_join : local_shape_step [] [] (LocalTree-F.Join Left [] (typed ((b, kind.Text) ∷ [])) (typed ((a, kind.Int) ∷ []))) ≡ typed columns
left_join = refl

-- sides with a column in common
common_column : (local_shape_step [] [] (LocalTree-F.Join Left [] (typed columns) (typed columns))).typed ≡ false
common_column = refl

groups : local_shape_step [] [] (LocalTree-F.GroupBy (b ∷ []) (count_rows ∷ []) (typed columns)) ≡ typed ((b, kind.Text) ∷ (out, kind.Int) ∷ [])
groups = refl

-- a count is kept as a wide number, and is finished as a number
partials : local_shape_step [] [] (LocalTree-F.Partial (b ∷ []) (count_rows ∷ []) (typed columns)) ≡ typed ((b, kind.Text) ∷ (out, kind.Wide) ∷ [])
partials = refl

finals : local_shape_step [] [] (LocalTree-F.Final (b ∷ []) (count_rows ∷ []) (typed ((b, kind.Text) ∷ (out, kind.Wide) ∷ []))) ≡ typed ((b, kind.Text) ∷ (out, kind.Int) ∷ [])
finals = refl

-- MIN of a column that is not there
least_absent : can_keep (b ∷ []) (least_b ∷ []) ((a, kind.Int) ∷ []) ≡ false
least_absent = ap (λ k. is_some k && true) (column ((a, kind.Int) ∷ []) b)

-- MIN of a wide number may be kept, and no more
least_wide_kept : can_keep [] (least_b ∷ []) ((b, kind.Wide) ∷ []) ≡ true
least_wide_kept = ap (λ k. is_some k && true) (column ((b, kind.Wide) ∷ []) b)

least_wide : can_group [] (least_b ∷ []) ((b, kind.Wide) ∷ []) ≡ false
least_wide = ap (λ k. is_plain k && true) (column ((b, kind.Wide) ∷ []) b)

least_wide_finished : can_finish [] (least_b ∷ []) ((out, kind.Wide) ∷ []) ≡ false
least_wide_finished = refl

-- an aggregate's column that is a key
key_made_again : can_group (out ∷ []) (count_rows ∷ []) columns ≡ false
key_made_again = refl

-- ---- scans

places : places_in ((b, 1) ∷ (a, 0) ∷ []) columns ≡ Some 0 ∷ Some 1 ∷ []
places = refl

first_place : place_in ((a, 2) ∷ (a, 0) ∷ []) a ≡ Some 2
first_place = refl
