-- The nodes at which a local tree runs.
use Rattle.std.specs.Prelude.{◌==◌, ℕ, Bool, true, false, List, [], if◌then◌else◌}
use Rattle.pdw_base.specs.Schema.{Env}
use Rattle.pdw_base.specs.declared.node.Node.TheVariants as node
use Rattle.pdw_base.specs.declared.node.Node.{Node}
use Rattle.pdw_dsql.specs.declared.steps.Site.TheVariants as site
use Rattle.pdw_dsql.specs.declared.steps.Site.{Site}
use Rattle.pdw_move.specs.declared.kinds.Prop.TheVariants as prop
use Rattle.pdw_move.specs.declared.kinds.Prop.{Prop}
use Rattle.pdw_rules.specs.Stands.{PlacedRows, together}

-- where the rows of a property are made that a move takes: those of one node at the first compute node, the control node's
-- there, all others at every compute node
abbrev pub site_of : Prop → Site
site_of prop.Spread = site.All
site_of (prop.Hash c) = site.All
site_of prop.Replicated = site.All
site_of prop.Single = site.First
site_of prop.Control = site.Control

-- where those are made that are returned: of replicated rows one node's are enough
abbrev pub return_site : Prop → Site
return_site prop.Spread = site.All
return_site (prop.Hash c) = site.All
return_site prop.Replicated = site.First
return_site prop.Single = site.First
return_site prop.Control = site.Control

-- ---- rows at a site

abbrev pub is_within : Site → Node → Bool
is_within site.All (node.Compute k) = true
is_within site.All node.Control = false
is_within site.First (node.Compute k) = k == 0
is_within site.First node.Control = false
is_within site.Control (node.Compute k) = false
is_within site.Control node.Control = true

-- rows that are made at the nodes of a site alone
abbrev pub made_within : Site → PlacedRows → PlacedRows
made_within site rows place = if is_within site place then rows place else []

-- the rows of a site's nodes, among n compute nodes
abbrev pub rows_from : ℕ → Site → PlacedRows → List Env
rows_from n site.All rows = together n rows
rows_from n site.First rows = rows (node.Compute 0)
rows_from n site.Control rows = rows node.Control
