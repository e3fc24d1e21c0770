-- Books that tell the same statistics of each name make the moves of a memo cost the same.
use Rattle.std.proofs.Common.{◌≡◌, ℕ, List, Option, map, refl, sym, ap, ◌∙◌}
use Rattle.std.specs.List.{slice_get}
use Rattle.std.proofs.Math.Path.{fun_ext}
use Rattle.pdw_algebra.specs.declared.tree.Tree.{Tree}
use Rattle.pdw_algebra.specs.declared.tree.Tree.TheFolds.{fold-Tree}
use Rattle.pdw_algebra.specs.declared.tree.Tree.TheOpen.{Tree-F}
use Rattle.pdw_answering.specs.Basis.{Basis, Reckoned, costs_on, memo_on}
use Rattle.pdw_catalog.specs.Catalog.{Tables}
use Rattle.pdw_groups.specs.Meaning.{Meaning, exactly, partial_of}
use Rattle.pdw_groups.specs.Memo.{Contents}
use Rattle.pdw_memo.specs.Laws.{meanings_in}
use Rattle.pdw_memo.specs.Memo.{IsMemo}
use Rattle.pdw_move.specs.Cost.{cost_of_move}
use Rattle.pdw_move.specs.declared.cost.Constants.{Constants}
use Rattle.pdw_plan.specs.Cost.{costs_in, flow_of}
use Rattle.pdw_sizes.specs.Estimate.{Estimate, aggregate_columns, both_columns, estimate, estimate_step, item_columns, join_rows, key_rows, leaf_columns, leaf_rows, rows_left, scanned_columns, table_rows, times}
use Rattle.pdw_sizes.specs.Sizes.{partial_rows, schema_of_meaning, size_of_meaning, sizes_in, width_of_schema}
use Rattle.pdw_sizes.specs.declared.size.Size.{Size}
use Rattle.pdw_stats.specs.Book.{Book, stats_of}
use Rattle.pdw_stats.specs.declared.stats.Stats.{Stats}

-- ---- estimates rest on what a book tells

told-step : (List ℕ → Option Stats) → Tree-F Estimate → Estimate
told-step stats (Tree-F.Scan table alias cols) = record { rows = table_rows (stats table); columns = scanned_columns (stats table) cols }
told-step stats (Tree-F.Filter conds child) = record { rows = rows_left child.columns child.rows conds; columns = child.columns }
told-step stats (Tree-F.Project items child) = record { rows = child.rows; columns = item_columns child.columns items }
told-step stats (Tree-F.Block leaves conds) = record { rows = rows_left (leaf_columns leaves) (leaf_rows leaves) conds; columns = leaf_columns leaves }
told-step stats (Tree-F.Join kind conds left right) = record {
  rows = join_rows kind (rows_left (both_columns left.columns right.columns) (times left.rows right.rows) conds) left.rows right.rows;
  columns = both_columns left.columns right.columns;
}
told-step stats (Tree-F.GroupBy keys aggs child) = record { rows = key_rows child.columns child.rows keys; columns = aggregate_columns 8 child.columns aggs }

node-told : (book : Book) (node : Tree-F Estimate) → estimate_step book node ≡ told-step (λ name. stats_of name book) node
unfolding told-step
node-told book (Tree-F.Scan table alias cols) = refl
node-told book (Tree-F.Filter conds child) = refl
node-told book (Tree-F.Project items child) = refl
node-told book (Tree-F.Block leaves conds) = refl
node-told book (Tree-F.Join kind conds left right) = refl
node-told book (Tree-F.GroupBy keys aggs child) = refl

step-told : (book : Book) → estimate_step book ≡ told-step (λ name. stats_of name book)
step-told book = fun_ext (node-told book)

module _ (book other : Book) (told : (name : List ℕ) → stats_of name book ≡ stats_of name other) where
  estimates-same : estimate book ≡ estimate other
  estimates-same = ap (fold-Tree Estimate) (step-told book ∙ ap told-step (fun_ext told) ∙ sym (step-told other))

  estimate-same : (tree : Tree) → estimate book tree ≡ estimate other tree
  estimate-same tree = ap (λ (by : Tree → Estimate). by tree) estimates-same

  -- ---- sizes and costs

  size-told : (n : ℕ) (tables : Tables) (means : Meaning) → size_of_meaning book n tables means ≡ size_of_meaning other n tables means
  size-told n tables (exactly tree) =
      ap (λ (e : Estimate). record { rows = e.rows; width = width_of_schema e.columns (schema_of_meaning tables (exactly tree)) }) (estimate-same tree)
  size-told n tables (partial_of keys aggs tree) =
      ap (λ (e : Estimate). record { rows = partial_rows n (key_rows e.columns e.rows keys) e.rows keys; width = width_of_schema (aggregate_columns 16 e.columns aggs) (schema_of_meaning tables (partial_of keys aggs tree)) }) (estimate-same tree)

  sizes-told : (memo : Contents) (is : IsMemo memo) (n : ℕ) → sizes_in memo is book n ≡ sizes_in memo is other n
  sizes-told memo is n = ap (λ (size : Meaning → Size). map size (meanings_in memo is)) (fun_ext (size-told n is.tables))

  pub costs-told : (memo : Contents) (is : IsMemo memo) (n : ℕ) (constants : Constants) → costs_in memo is book n constants ≡ costs_in memo is other n constants
  costs-told memo is n constants = fun_ext (λ group. fun_ext (λ move. ap (λ (sizes : List Size). cost_of_move n constants move (flow_of (slice_get sizes group.0))) (sizes-told memo is n)))

-- that the moves of a memo cost the same whatever tree it is said to be of
abbrev pub CostLaw : Type 0
CostLaw = (memo : Contents) (one other : IsMemo memo) (book : Book) (n : ℕ) (constants : Constants) → costs_in memo one book n constants ≡ costs_in memo other book n constants

-- however the groups of a memo are reckoned, its moves cost the same
pub reckoned-same : CostLaw → (basis : Basis) (tree : Tree) (one two : Reckoned basis tree) → costs_on basis tree one ≡ costs_on basis tree two
reckoned-same whatever basis tree one two =
    whatever (memo_on basis tree) one.is two.is one.book basis.nodes basis.constants
    ∙ costs-told one.book two.book (λ name. one.told name ∙ sym (two.told name)) (memo_on basis tree) two.is basis.nodes basis.constants
