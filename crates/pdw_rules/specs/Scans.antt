-- The rows that a scan reads at each node of an appliance.
use Rattle.std.specs.Prelude.{◌≢◌, ℕ, List, [], map, AllPairs}
use Rattle.pdw_base.specs.declared.node.Node.TheVariants as node
use Rattle.pdw_base.specs.declared.schema.ColId.{ColId}
use Rattle.pdw_catalog.specs.Appliance.{Contents, bag_at}
use Rattle.pdw_expr.specs.Rows.{scanned}
use Rattle.pdw_rules.specs.Stands.{PlacedRows}

-- of a table's rows at each compute node the columns that are read, each by its place
abbrev pub scanned_at : Contents → List ℕ → List (ColId × ℕ) → PlacedRows
scanned_at contents table cols (node.Compute k) = map (scanned cols) (bag_at k table contents)
scanned_at contents table cols node.Control = []

-- the columns that are read have different numbers
abbrev pub AreDifferent : List (ColId × ℕ) → Type 0
AreDifferent cols = AllPairs (λ a b. a.0 ≢ b.0) (map (λ col. col.0) cols)
