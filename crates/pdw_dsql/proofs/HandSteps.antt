-- The steps of small plans, worked out by hand.
use Rattle.std.proofs.Common.{◌≡◌, ℕ, true, false, List, [], ◌∷◌, Some, None, refl}
use Rattle.pdw_algebra.specs.declared.local.LocalTree.TheVariants as tree
use Rattle.pdw_base.specs.declared.node.Node.TheVariants as node
use Rattle.pdw_base.specs.declared.schema.ColId.{ColId}
use Rattle.pdw_base.specs.declared.value.Kind.TheVariants as kinds
use Rattle.pdw_dsql.specs.Sites.{is_within, return_site, site_of}
use Rattle.pdw_dsql.specs.Steps.{Cutting, cut_step, root_schema, schema_at, whole}
use Rattle.pdw_dsql.specs.Trees.{local_of, nothing}
use Rattle.pdw_dsql.specs.declared.steps.Site.TheVariants as site
use Rattle.pdw_expr.specs.declared.agg.JoinKind.TheVariants as joins
use Rattle.pdw_groups.specs.declared.group.Group.{Group}
use Rattle.pdw_groups.specs.declared.key.GroupId.{GroupId}
use Rattle.pdw_groups.specs.declared.key.GroupKey.TheVariants as key
use Rattle.pdw_groups.specs.declared.op.Op.TheVariants as op
use Rattle.pdw_move.specs.declared.kinds.Move.TheVariants as move
use Rattle.pdw_move.specs.declared.kinds.Prop.TheVariants as prop
use Rattle.pdw_ways.specs.declared.plan.Plan.TheOpen.{Plan-F}

abbrev a : ColId
a = record { 0 = 0 }

abbrev b : ColId
b = record { 0 = 1 }

abbrev g : ℕ → GroupId
g number = record { 0 = number }

-- two tables, x by the hash of a and y by that of b, their join, and its first column
abbrev groups : List Group
groups =
    record { key = key.Whole 0; schema = (a, kinds.Int) ∷ []; interesting = a ∷ []; exprs = record { op = op.Scan (120 ∷ []) [] ((a, 0) ∷ []) (Some a) false; children = [] } ∷ [] }
    ∷ record { key = key.Whole 1; schema = (b, kinds.Text) ∷ []; interesting = b ∷ []; exprs = record { op = op.Scan (121 ∷ []) [] ((b, 2) ∷ []) (Some b) false; children = [] } ∷ [] }
    ∷ record { key = key.Whole 2; schema = (a, kinds.Int) ∷ (b, kinds.Text) ∷ []; interesting = a ∷ []; exprs = record { op = op.Join joins.Left []; children = g 0 ∷ g 1 ∷ [] } ∷ [] }
    ∷ record { key = key.Whole 3; schema = (a, kinds.Int) ∷ []; interesting = a ∷ []; exprs = record { op = op.Project ((a, None) ∷ []); children = g 2 ∷ [] } ∷ [] }
    ∷ []

abbrev cut : Plan-F Cutting → Cutting
cut = cut_step groups

abbrev first : Cutting
first = cut (Plan-F.Scan (g 0) (prop.Hash a))

abbrev second : Cutting
second = cut (Plan-F.Moved move.Broadcast (cut (Plan-F.Free prop.Spread (cut (Plan-F.Scan (g 1) (prop.Hash b))))))

-- y is broadcast, joined to x where its rows are, and the result goes to one node, which returns it
abbrev joined : Cutting
joined = cut (Plan-F.Op (g 2) (prop.Hash a) (first ∷ second ∷ []))

abbrev collected : Cutting
collected = cut (Plan-F.Moved move.ToSingle (cut (Plan-F.Free prop.Spread joined)))

abbrev root : Cutting
root = cut (Plan-F.Op (g 3) prop.Single (collected ∷ []))

steps : whole groups root ≡ record {
  moves =
      record { tree = tree.Base (121 ∷ []) ((b, 2) ∷ []); schema = (b, kinds.Text) ∷ []; site = site.All; mv = move.Broadcast; to = 1 }
      ∷ record {
        tree = tree.Join joins.Left [] (tree.Base (120 ∷ []) ((a, 0) ∷ [])) (tree.Temp 1);
        schema = (a, kinds.Int) ∷ (b, kinds.Text) ∷ [];
        site = site.All;
        mv = move.ToSingle;
        to = 2;
      } ∷ [];
  last = tree.Project ((a, None) ∷ []) (tree.Temp 2);
  last_site = site.First;
}
steps = refl

-- both sides moved, after five temporary tables of other fragments: the left one's table comes first
abbrev both_moved : Cutting
both_moved = cut (Plan-F.Op (g 2) prop.Replicated (cut (Plan-F.Moved move.Broadcast (cut (Plan-F.Free prop.Spread first))) ∷ second ∷ []))

after_five : (both_moved.fragment 5).tree ≡ tree.Join joins.Left [] (tree.Temp 6) (tree.Temp 7)
after_five = refl

-- what one node has goes to each from there alone, and what the control node has from the control node
abbrev from_control : Cutting
from_control = cut (Plan-F.Moved move.FromControl (cut (Plan-F.Moved move.ToControl (cut (Plan-F.Free prop.Spread first)))))

control_steps : whole groups from_control ≡ record {
  moves =
      record { tree = tree.Base (120 ∷ []) ((a, 0) ∷ []); schema = (a, kinds.Int) ∷ []; site = site.All; mv = move.ToControl; to = 1 }
      ∷ record { tree = tree.Temp 1; schema = (a, kinds.Int) ∷ []; site = site.Control; mv = move.FromControl; to = 2 }
      ∷ [];
  last = tree.Temp 2;
  last_site = site.First;
}
control_steps = refl

single_step : site_of prop.Single ≡ site.First
single_step = refl

-- replicated rows are moved from every node, and returned from one
replicated_step : site_of prop.Replicated ≡ site.All
replicated_step = refl

replicated_return : return_site prop.Replicated ≡ site.First
replicated_return = refl

spread_return : return_site (prop.Hash a) ≡ site.All
spread_return = refl

-- the first compute node has the number 0
first_node : is_within site.First (node.Compute 0) ≡ true
first_node = refl

second_node : is_within site.First (node.Compute 1) ≡ false
second_node = refl

-- an operator that wants a child gives nothing
no_child : local_of (op.Filter []) [] ≡ nothing
no_child = refl

columns_of_the_root : root_schema groups ≡ (a, kinds.Int) ∷ []
columns_of_the_root = refl

no_group : schema_at groups (g 4) ≡ []
no_group = refl
