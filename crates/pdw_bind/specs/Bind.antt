-- The tree of operators of a query.
use Rattle.std.specs.Prelude.{Bool, List, [], ◌∷◌, ◌++◌, map, fold, Option, Some, None, is_some, if◌then◌else◌}
use Rattle.std.specs.List.{flat_map}
use Rattle.pdw_algebra.specs.declared.tree.Tree.{Tree}
use Rattle.pdw_algebra.specs.declared.tree.Tree.TheVariants as tree
use Rattle.pdw_syntax.specs.declared.query.JoinWord.{JoinWord}
use Rattle.pdw_syntax.specs.declared.query.JoinWord.TheVariants as word
use Rattle.pdw_base.specs.declared.schema.ColId.{ColId}
use Rattle.pdw_base.specs.declared.truth.Truth.TheVariants as truth
use Rattle.pdw_expr.specs.declared.agg.JoinKind.{JoinKind}
use Rattle.pdw_expr.specs.declared.agg.JoinKind.TheVariants as kind
use Rattle.pdw_expr.specs.declared.cond.Cmp.TheVariants.{Eq}
use Rattle.pdw_expr.specs.declared.cond.Cond.{Cond}
use Rattle.pdw_expr.specs.declared.cond.Cond.TheVariants as cond
use Rattle.pdw_expr.specs.declared.scalar.Scalar.{Scalar}
use Rattle.pdw_expr.specs.declared.scalar.Scalar.TheVariants.{Col}
use Rattle.pdw_form.specs.Columns.{each_item_once, each_number_once, first_of}
use Rattle.pdw_form.specs.declared.judged.JFrom.TheOpen.{JFrom-F, JSub-F, JudgedQuery-F}
use Rattle.pdw_form.specs.declared.judged.JFrom.TheFolds.{fold-JFrom, fold-JSub, fold-JudgedQuery}
use Rattle.pdw_form.specs.declared.judged.JFrom.{JFrom}
use Rattle.pdw_form.specs.declared.judged.JGroup.{JGroup}
use Rattle.pdw_form.specs.declared.judged.JItem.{JItem}
use Rattle.pdw_form.specs.declared.judged.JSub.{JSub}
use Rattle.pdw_form.specs.declared.judged.JudgedQuery.{JudgedQuery}

-- ---- FROM

-- what an element of FROM adds to the block of its query
pub record Part : Type 0 where
  pub leaves : List Tree
  pub conds : List Cond

-- one leaf without a conjunct is itself, anything else a block
abbrev pub unit_of : Part → Tree
unit_of part = by_leaves part.leaves part.conds
  where
    by_leaves : List Tree → List Cond → Tree
    by_leaves (leaf ∷ []) [] = leaf
    by_leaves leaves conds = tree.Block leaves conds

abbrev pub leaf : Tree → Part
leaf t = record { leaves = t ∷ []; conds = [] }

abbrev pub together : Part → Part → List Cond → Part
together left right on = record { leaves = left.leaves ++ right.leaves; conds = (left.conds ++ right.conds) ++ on }

abbrev pub outer_join : JoinKind → List Cond → Part → Part → Part
outer_join kind on left right = leaf (tree.Join kind on (unit_of left) (unit_of right))

-- CROSS and INNER put the leaves side by side; LEFT and FULL are one leaf, and RIGHT is LEFT with its sides exchanged
abbrev pub joined : JoinWord → Part → Part → List Cond → Part
joined word.Cross left right on = together left right on
joined word.Inner left right on = together left right on
joined word.Left left right on = outer_join kind.Left on left right
joined word.Right left right on = outer_join kind.Left on right left
joined word.Full left right on = outer_join kind.Full on left right

abbrev pub all_parts : List Part → Part
all_parts parts = record { leaves = flat_map (λ part. part.leaves) parts; conds = flat_map (λ part. part.conds) parts }

-- ---- queries

-- the trees of a query
pub record Bound : Type 0 where
  -- FROM and WHERE
  pub rows : Tree
  -- and then the groups and the output columns
  pub columns : Tree
  -- and then DISTINCT
  pub whole : Tree
  -- what a subquery conjunct needs: whether the query is grouped, its first item, and its conjuncts with an outer column
  pub is_grouped : Bool
  pub item : Option JItem
  pub outer : List Cond

-- ---- subqueries

-- without groups the item stands in the condition itself
abbrev pub item_scalar : Bool → JItem → Scalar
item_scalar grouped item = if grouped then Col item.out else made_or_passed item.make
  where
    made_or_passed : Option Scalar → Scalar
    made_or_passed None = Col item.out
    made_or_passed (Some x) = x

-- x = item; for NOT IN, (x = item) IS NOT FALSE
abbrev pub equality : Bool → Cond → Cond
equality negated equal = if negated then cond.Not (cond.Test equal truth.False) else equal

abbrev pub item_condition : Bool → Scalar → Bool → JItem → Cond
item_condition negated x grouped item = equality negated (cond.Compare Eq x (item_scalar grouped item))

abbrev pub in_condition : Bool → Option Scalar → Bound → List Cond
in_condition negated None query = []
in_condition negated (Some x) query = by_item query.item
  where
    by_item : Option JItem → List Cond
    by_item None = []
    by_item (Some item) = item_condition negated x query.is_grouped item ∷ []

abbrev pub subquery_tree : Bound → Tree
subquery_tree query = if query.is_grouped then query.columns else query.rows

abbrev pub subquery_kind : Bool → JoinKind
subquery_kind negated = if negated then kind.Anti else kind.Semi

-- a subquery conjunct joins the tree so far
abbrev pub subquery_join : Bool → Option Scalar → Bound → Tree → Tree
subquery_join negated left query so_far = tree.Join (subquery_kind negated) (in_condition negated left query ++ query.outer) so_far (subquery_tree query)

-- ---- groups and output columns

-- HAVING, where it is written
abbrev pub filtered : List Cond → Tree → Tree
filtered [] t = t
filtered (first ∷ rest) t = tree.Filter (first ∷ rest) t

abbrev pub grouped : Option JGroup → Tree → Tree
grouped None t = t
grouped (Some group) t = filtered group.having (tree.GroupBy (each_number_once group.keys) group.aggs t)

abbrev pub distinct_if : Bool → List JItem → Tree → Tree
distinct_if distinct items t = if distinct then tree.GroupBy (each_number_once (map (λ item. item.out) items)) [] t else t

-- ---- folds

abbrev pub part_step : JFrom-F Part (Tree → Tree) Bound → Part
part_step (JFrom-F.Table table alias cols) = leaf (tree.Scan table alias cols)
part_step (JFrom-F.Derived query) = leaf query.whole
part_step (JFrom-F.Join word left right on) = joined word left right on

abbrev pub sub_step : JSub-F Part (Tree → Tree) Bound → Tree → Tree
sub_step sub = subquery_join sub.negated sub.left sub.query

-- the block of FROM with the plain conjuncts of WHERE
abbrev pub block_of : List Part → List Cond → Tree
block_of parts plain =
    let all = all_parts parts in
    unit_of (record { leaves = all.leaves; conds = all.conds ++ plain })

abbrev pub rows_tree : JudgedQuery-F Part (Tree → Tree) Bound → Tree
rows_tree q = fold (λ t join. join t) (block_of q.from q.plain) q.subs

abbrev pub columns_tree : JudgedQuery-F Part (Tree → Tree) Bound → Tree
columns_tree q = tree.Project (each_item_once q.items) (grouped q.group (rows_tree q))

abbrev pub query_step : JudgedQuery-F Part (Tree → Tree) Bound → Bound
query_step q = record {
  rows = rows_tree q;
  columns = columns_tree q;
  whole = distinct_if q.distinct q.items (columns_tree q);
  is_grouped = is_some q.group;
  item = first_of q.items;
  outer = q.outer;
}

abbrev pub part : JFrom → Part
part = fold-JFrom Part (Tree → Tree) Bound part_step sub_step query_step

abbrev pub subquery : JSub → Tree → Tree
subquery = fold-JSub Part (Tree → Tree) Bound part_step sub_step query_step

abbrev pub trees : JudgedQuery → Bound
trees = fold-JudgedQuery Part (Tree → Tree) Bound part_step sub_step query_step

-- the tree of a query
unfoldable pub bound : JudgedQuery → Tree
bound q = (trees q).whole
