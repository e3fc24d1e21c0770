-- Temporary tables as they stand, and trees over them.
use Rattle.std.proofs.Common.{ℕ, zero, suc, Bool, true, false, List, [], ◌∷◌, ◌++◌, map, slice_index_or, if◌then◌else◌}
use Rattle.pdw_algebra.specs.Local.{temporary}
use Rattle.pdw_algebra.specs.declared.local.LocalTree.{LocalTree}
use Rattle.pdw_base.proofs.SameBagLaws.{SameBag-refl}
use Rattle.pdw_base.specs.SameBag.{SameBag}
use Rattle.pdw_base.specs.Schema.{Columns}
use Rattle.pdw_base.specs.declared.node.Node.{Node}
use Rattle.pdw_catalog.specs.Appliance.{Contents}
use Rattle.pdw_dms.specs.Moved.{IsThere}
use Rattle.pdw_dsql.specs.Follows.{rows_of_tree}
use Rattle.pdw_dsql.specs.Sites.{is_within, made_within}
use Rattle.pdw_dsql.specs.declared.steps.Site.{Site}
use Rattle.pdw_exec.proofs.OrderLaws.{same-trees}
use Rattle.pdw_exec.specs.Nodes.{node_database, temporaries}
use Rattle.pdw_move.specs.declared.placed.Placed.{Placed}
use Rattle.pdw_rules.specs.Stands.{PlacedRows}
use Rattle.pdw_runner.specs.Starts.{ArePlaced}
use Rattle.pdw_runner.specs.Tables.{AreTables, Hold, rows_over}
use Rattle.pdw_runner.specs.declared.temporaries.Temporaries.{Temporaries}

module _ (n : ℕ) where
  -- one table more
  pub tables-more : (placed : List Placed) (schemas : List Columns) (tables : List PlacedRows) (p : Placed) (columns : Columns) (rows : PlacedRows)
      → AreTables n placed schemas tables → ArePlaced n columns p rows → AreTables n (placed ++ p ∷ []) (schemas ++ columns ∷ []) (tables ++ rows ∷ [])
  tables-more [] [] [] p columns rows all one = (one, tt)
  tables-more [] [] (r ∷ tables) p columns rows all one = absurd all
  tables-more [] (s ∷ schemas) [] p columns rows all one = absurd all
  tables-more [] (s ∷ schemas) (r ∷ tables) p columns rows all one = absurd all
  tables-more (q ∷ placed) [] [] p columns rows all one = absurd all
  tables-more (q ∷ placed) [] (r ∷ tables) p columns rows all one = absurd all
  tables-more (q ∷ placed) (s ∷ schemas) [] p columns rows all one = absurd all
  tables-more (q ∷ placed) (s ∷ schemas) (r ∷ tables) p columns rows all one = (all.0, tables-more placed schemas tables p columns rows all.1 one)

  module _ (place : Node) (there : IsThere n place) where
    table-at : (placed : List Placed) (schemas : List Columns) (tables : List PlacedRows) → AreTables n placed schemas tables → (at : ℕ)
        → SameBag (slice_index_or (temporaries placed schemas place) at []) (slice_index_or (map (λ (table : PlacedRows). table place) tables) at [])
    table-at [] [] [] all at = SameBag-refl []
    table-at [] [] (r ∷ tables) all at = absurd all
    table-at [] (s ∷ schemas) [] all at = absurd all
    table-at [] (s ∷ schemas) (r ∷ tables) all at = absurd all
    table-at (q ∷ placed) [] [] all at = absurd all
    table-at (q ∷ placed) [] (r ∷ tables) all at = absurd all
    table-at (q ∷ placed) (s ∷ schemas) [] all at = absurd all
    table-at (q ∷ placed) (s ∷ schemas) (r ∷ tables) all zero = all.0 place there
    table-at (q ∷ placed) (s ∷ schemas) (r ∷ tables) all (suc at) = table-at placed schemas tables all.1 at

    -- the table of a number
    table-numbered : (placed : List Placed) (schemas : List Columns) (tables : List PlacedRows) → AreTables n placed schemas tables → (id : ℕ)
        → SameBag (temporary (temporaries placed schemas place) id) (temporary (map (λ (table : PlacedRows). table place) tables) id)
    table-numbered placed schemas tables all zero = SameBag-refl []
    table-numbered placed schemas tables all (suc at) = table-at placed schemas tables all at

module _ (contents : Contents) (temps : Temporaries) (tables : List PlacedRows) (hold : Hold contents.nodes temps tables) where
  -- a tree gives equal bags over the tables as they stand
  pub tree-over : (tree : LocalTree) (place : Node) → IsThere contents.nodes place → SameBag (rows_over contents temps tree place) (rows_of_tree contents tables tree place)
  tree-over tree place there =
      same-trees (node_database contents place) (node_database contents place) (temporaries temps.placed.items temps.schemas.items place) (map (λ (table : PlacedRows). table place) tables)
      (λ name. SameBag-refl ((node_database contents place).rows name)) (table-numbered contents.nodes place there temps.placed.items temps.schemas.items tables hold) tree

  -- so it does where it is made at a site
  pub made-over : (site : Site) (tree : LocalTree) (place : Node) → IsThere contents.nodes place
      → SameBag (made_within site (rows_over contents temps tree) place) (made_within site (rows_of_tree contents tables tree) place)
  made-over site tree place there = by (is_within site place)
    where
      by : (b : Bool) → SameBag (if b then rows_over contents temps tree place else []) (if b then rows_of_tree contents tables tree place else [])
      by true = tree-over tree place there
      by false = SameBag-refl []
