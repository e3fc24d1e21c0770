-- No tree is reckoned to have more than 10^12 rows, and sizes are in their ranges.
use Rattle.std.proofs.Common.{◌≡◌, ℕ, ◌==◌, ◌/◌, ◌≤◌, Bool, true, false, List, [], ◌∷◌, fold, map, max, Option, Some, None, IfSome, refl, sym, subst, arith, if◌then◌else◌}
use Rattle.std.specs.List.{AllByRecursion}
use Rattle.std.specs.Str.{bytes_eq}
use Rattle.std.proofs.Math.Nat.{div-le_self}
use Rattle.std.proofs.lemmas.Bool.Decides.{nat_tests}
use Rattle.pdw_algebra.proofs.TreeFolds.{Inductive, by_trees}
use Rattle.pdw_algebra.specs.declared.tree.Tree.{Tree}
use Rattle.pdw_algebra.specs.declared.tree.Tree.TheVariants as tree
use Rattle.pdw_base.specs.declared.schema.ColId.{ColId}
use Rattle.pdw_catalog.specs.Catalog.{Tables}
use Rattle.pdw_expr.specs.declared.agg.JoinKind.{JoinKind}
use Rattle.pdw_expr.specs.declared.agg.JoinKind.TheVariants as join
use Rattle.pdw_expr.specs.declared.cond.Cond.{Cond}
use Rattle.pdw_groups.specs.Meaning.{Meaning, exactly, partial_of}
use Rattle.pdw_sizes.proofs.EstimateFolds.{estimate-block, estimate-filter, estimate-group, estimate-join, estimate-project, estimate-scan}
use Rattle.pdw_sizes.specs.Divisor.{divisor}
use Rattle.pdw_sizes.specs.Estimate.{ColStats, Estimate, both_columns, distinct_in, divided, estimate, join_rows, key_rows, leaf_columns, leaf_rows, rows_left, table_rows, times}
use Rattle.pdw_sizes.specs.Sizes.{IsSizeInRange, partial_rows, rows_of_meaning, size_of_meaning}
use Rattle.pdw_stats.proofs.RangeLemmas.{IsInRange-lookup}
use Rattle.pdw_stats.specs.Book.{AreInRange, Book, stats_of}
use Rattle.pdw_stats.specs.Stats.{IsInRange}
use Rattle.pdw_stats.specs.declared.stats.Stats.{Stats}

divided-le : (rows many : ℕ) → divided rows many ≤ rows
divided-le rows many = by (rows == 0) refl
  where
    by : (b : Bool) → (rows == 0) ≡ b → (if b then 0 else max 1 (rows / many)) ≤ rows
    by true none = omega arith
    by false some =
        let fewer = div-le_self rows many in
        let one : 1 ≤ rows = grind (arith, nat_tests) in
        omega arith

rows_left-le : (columns : ColStats) (rows : ℕ) (conds : List Cond) → rows_left columns rows conds ≤ rows
rows_left-le columns rows [] = omega arith
rows_left-le columns rows (cond ∷ conds) =
    let first = divided-le rows (divisor (distinct_in columns) cond) in
    let rest = rows_left-le columns (divided rows (divisor (distinct_in columns) cond)) conds in
    omega arith

leaf_rows-le : (start : ℕ) (leaves : List Estimate) → start ≤ 1000000000000 → fold (λ rows (leaf : Estimate). times rows leaf.rows) start leaves ≤ 1000000000000
leaf_rows-le start [] within = within
leaf_rows-le start (leaf ∷ leaves) within = leaf_rows-le (times start leaf.rows) leaves (omega arith)

join_rows-le : (kind : JoinKind) (joined left right : ℕ) → joined ≤ 1000000000000 → left ≤ 1000000000000 → right ≤ 1000000000000 → join_rows kind joined left right ≤ 1000000000000
join_rows-le join.Inner joined left right a b c = a
join_rows-le join.Left joined left right a b c = omega arith
join_rows-le join.Full joined left right a b c = omega arith
join_rows-le join.Semi joined left right a b c = let half = divided-le left 2 in omega arith
join_rows-le join.Anti joined left right a b c = let half = divided-le left 2 in omega arith

few_of_block : (leaves : List Estimate) (conds : List Cond) → rows_left (leaf_columns leaves) (leaf_rows leaves) conds ≤ 1000000000000
few_of_block leaves conds =
    let product = leaf_rows-le 1 leaves (omega arith) in
    let left = rows_left-le (leaf_columns leaves) (leaf_rows leaves) conds in
    omega arith

few_of_join : (kind : JoinKind) (conds : List Cond) (left right : Estimate) → left.rows ≤ 1000000000000 → right.rows ≤ 1000000000000
    → join_rows kind (rows_left (both_columns left.columns right.columns) (times left.rows right.rows) conds) left.rows right.rows ≤ 1000000000000
few_of_join kind conds left right few also =
    let pairs = rows_left-le (both_columns left.columns right.columns) (times left.rows right.rows) conds in
    join_rows-le kind (rows_left (both_columns left.columns right.columns) (times left.rows right.rows) conds) left.rows right.rows (omega arith) few also

key_rows-le : (columns : ColStats) (rows : ℕ) (keys : List ColId) → rows ≤ 1000000000000 → key_rows columns rows keys ≤ 1000000000000
key_rows-le columns rows [] within = omega arith
key_rows-le columns rows (key ∷ keys) within = omega arith

partial_rows-le : (n groups rows : ℕ) (keys : List ColId) → n ≤ 16 → rows ≤ 1000000000000 → partial_rows n groups rows keys ≤ 1000000000000
partial_rows-le n groups rows [] few within = omega arith
partial_rows-le n groups rows (key ∷ keys) few within = omega arith

table_rows-le : (stats : Option Stats) → IfSome stats IsInRange → table_rows stats ≤ 1000000000000
table_rows-le None range = omega arith
table_rows-le (Some stats) range = range.rows

module _ (book : Book) (range : AreInRange book) where
  abbrev IsFew : Tree → Type 0
  IsFew t = (estimate book t).rows ≤ 1000000000000

  along : (t : Tree) (other : Estimate) → estimate book t ≡ other → other.rows ≤ 1000000000000 → IsFew t
  along t other same few = subst (λ (e : Estimate). e.rows ≤ 1000000000000) (sym same) few

  few_of_nodes : Inductive IsFew
  few_of_nodes = record {
    scan = λ table alias cols. along (tree.Scan table alias cols) _ (estimate-scan book table alias cols) (table_rows-le (stats_of table book) (IsInRange-lookup (bytes_eq table) book range));
    filter = λ conds child few. along (tree.Filter conds child) _ (estimate-filter book conds child (estimate book child) refl)
        (let left = rows_left-le (estimate book child).columns (estimate book child).rows conds in omega arith);
    project = λ items child few. along (tree.Project items child) _ (estimate-project book items child (estimate book child) refl) few;
    block = λ leaves conds few. along (tree.Block leaves conds) _ (estimate-block book leaves conds (map (estimate book) leaves) refl) (few_of_block (map (estimate book) leaves) conds);
    join = λ kind conds left right few also. along (tree.Join kind conds left right) _ (estimate-join book kind conds left right (estimate book left) (estimate book right) refl refl)
        (few_of_join kind conds (estimate book left) (estimate book right) few also);
    group = λ keys aggs child few. along (tree.GroupBy keys aggs child) _ (estimate-group book keys aggs child (estimate book child) refl)
        (key_rows-le (estimate book child).columns (estimate book child).rows keys few);
  }

  rows_of_tree-le : (t : Tree) → IsFew t
  rows_of_tree-le = by_trees IsFew few_of_nodes

pub rows_of_meaning-le : (book : Book) (n : ℕ) (means : Meaning) → AreInRange book → n ≤ 16 → rows_of_meaning book n means ≤ 1000000000000
rows_of_meaning-le book n (exactly t) range few = rows_of_tree-le book range t
rows_of_meaning-le book n (partial_of keys aggs t) range few = partial_rows-le n _ (estimate book t).rows keys few (rows_of_tree-le book range t)

-- ---- sizes

size-in : (book : Book) (n : ℕ) (tables : Tables) (means : Meaning) → AreInRange book → n ≤ 16 → IsSizeInRange (size_of_meaning book n tables means)
size-in book n tables means range few = record {
  rows = rows_of_meaning-le book n means range few;
  some_width = omega arith;
  most_width = omega arith;
}

pub sizes-in : (book : Book) (n : ℕ) (tables : Tables) → AreInRange book → n ≤ 16 → (all : List Meaning) → AllByRecursion IsSizeInRange (map (size_of_meaning book n tables) all)
sizes-in book n tables range few [] = tt
sizes-in book n tables range few (means ∷ all) = (size-in book n tables means range few, sizes-in book n tables range few all)
