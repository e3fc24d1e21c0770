-- The nodes of the tree of a query, by the table references and the queries of its numbered form.
use Rattle.std.proofs.Common.{◌≡◌, ℕ, ◌+◌, ◌≤◌, Bool, true, false, List, [], ◌∷◌, ◌++◌, length, map, fold, Option, Some, None, refl, sym, ap, ap₂, subst, ◌∙◌, arith, if◌then◌else◌}
use Rattle.std.specs.List.{sum, sum_by}
use Rattle.std.proofs.lemmas.List.{length-append, map-append}
use Rattle.std.proofs.lemmas.List.Sums.{sum_by-append, sum_by-cons}
use Rattle.pdw_algebra.specs.declared.tree.Tree.TheVariants as tree
use Rattle.pdw_algebra.specs.declared.tree.Tree.{Tree}
use Rattle.pdw_bind.proofs.NodesSteps.{nodes-block, nodes-filter, nodes-groups, nodes-join, nodes-project, nodes-scan}
use Rattle.pdw_bind.specs.Bind as bind
use Rattle.pdw_bind.specs.Bind.{Bound, Part, all_parts, block_of, distinct_if, filtered, grouped, in_condition, joined, leaf, outer_join, subquery_join, subquery_kind, subquery_tree, unit_of}
use Rattle.pdw_bind.specs.Nodes.{Nodes, all_nodes, join_nodes, nodes, one_scan}
use Rattle.pdw_base.specs.declared.schema.ColId.{ColId}
use Rattle.pdw_expr.specs.declared.agg.Agg.{Agg}
use Rattle.pdw_expr.specs.declared.agg.JoinKind.TheVariants as kind
use Rattle.pdw_expr.specs.declared.agg.JoinKind.{JoinKind}
use Rattle.pdw_expr.specs.declared.cond.Cond.{Cond}
use Rattle.pdw_expr.specs.declared.scalar.Scalar.{Scalar}
use Rattle.pdw_form.specs.Columns.{each_item_once, each_number_once}
use Rattle.pdw_form.specs.declared.judged.JGroup.{JGroup}
use Rattle.pdw_form.specs.declared.judged.JItem.{JItem}
use Rattle.pdw_syntax.specs.declared.query.JoinWord.TheVariants as word
use Rattle.pdw_syntax.specs.declared.query.JoinWord.{JoinWord}

-- nodes that so many table references and queries make, where so many further leaves may still come
pub record Counts (further : ℕ) (n : Nodes) (references queries : ℕ) : Type 0 where
  pub scans : n.scans ≡ references
  pub filters : n.filters ≤ queries
  pub projections : n.projections ≤ queries
  pub groups : n.groups ≤ queries + queries
  pub leaves : n.leaves + further ≤ (references + n.joins) + queries

-- ---- leaves side by side

all-none : Counts 0 (all_nodes []) 0 0
all-none = record { scans = refl; filters = omega arith; projections = omega arith; groups = omega arith; leaves = omega arith }

module _ (f : Nodes → ℕ) where
  both-sum : (p q : List Tree) → sum_by f (map nodes (p ++ q)) ≡ sum_by f (map nodes p) + sum_by f (map nodes q)
  both-sum p q = ap (sum_by f) (map-append nodes p q) ∙ sum_by-append f (map nodes p) (map nodes q)

all-both : (p q : List Tree) (a b c d : ℕ) → Counts (length p) (all_nodes (map nodes p)) a b → Counts (length q) (all_nodes (map nodes q)) c d
    → Counts (length (p ++ q)) (all_nodes (map nodes (p ++ q))) (a + c) (b + d)
all-both p q a b c d first second =
    let count = length-append p q in
    let leaves = both-sum (λ n. n.leaves) p q in
    let joins = both-sum (λ n. n.joins) p q in
    let filters = both-sum (λ n. n.filters) p q in
    let projections = both-sum (λ n. n.projections) p q in
    let groups = both-sum (λ n. n.groups) p q in
    record {
      scans = both-sum (λ n. n.scans) p q ∙ ap₂ (λ x y. x + y) first.scans second.scans;
      filters = let h = first.filters in let k = second.filters in omega (arith, filters, h, k);
      projections = let h = first.projections in let k = second.projections in omega (arith, projections, h, k);
      groups = let h = first.groups in let k = second.groups in omega (arith, groups, h, k);
      leaves = let h = first.leaves in let k = second.leaves in omega (arith, count, leaves, joins, h, k);
    }

all-one : (t : Tree) (a b : ℕ) → Counts 1 (nodes t) a b → Counts 1 (all_nodes (nodes t ∷ [])) a b
all-one t a b counts = record {
  scans = let h = counts.scans in omega (arith, h);
  filters = let h = counts.filters in omega (arith, h);
  projections = let h = counts.projections in omega (arith, h);
  groups = let h = counts.groups in omega (arith, h);
  leaves = let h = counts.leaves in omega (arith, h);
}

-- ---- FROM

abbrev pub PartCounts : Part → ℕ → ℕ → Type 0
PartCounts part references queries = Counts (length part.leaves) (all_nodes (map nodes part.leaves)) references queries

pub leaf_counts : (t : Tree) (a b : ℕ) → Counts 1 (nodes t) a b → PartCounts (leaf t) a b
leaf_counts = all-one

pub scan_counts : (table alias : List ℕ) (cols : List (ColId × ℕ)) → PartCounts (leaf (tree.Scan table alias cols)) 1 0
scan_counts table alias cols = leaf_counts (tree.Scan table alias cols) 1 0 (subst (λ n. Counts 1 n 1 0) (sym (nodes-scan table alias cols)) one)
  where
    one : Counts 1 one_scan 1 0
    one = record { scans = refl; filters = omega arith; projections = omega arith; groups = omega arith; leaves = omega arith }

block_counts : (leaves : List Tree) (conds : List Cond) (a b : ℕ) → Counts (length leaves) (all_nodes (map nodes leaves)) a b → Counts 0 (nodes (tree.Block leaves conds)) a b
block_counts leaves conds a b counts = subst (λ n. Counts 0 n a b) (sym (nodes-block leaves conds)) (record {
  scans = counts.scans;
  filters = counts.filters;
  projections = counts.projections;
  groups = counts.groups;
  leaves = let h = counts.leaves in omega (arith, h);
})

one_alone : (t : Tree) (a b : ℕ) → Counts 1 (all_nodes (nodes t ∷ [])) a b → Counts 0 (nodes t) a b
one_alone t a b counts = record {
  scans = let h = counts.scans in omega (arith, h);
  filters = let h = counts.filters in omega (arith, h);
  projections = let h = counts.projections in omega (arith, h);
  groups = let h = counts.groups in omega (arith, h);
  leaves = let h = counts.leaves in omega (arith, h);
}

unit_counts : (leaves : List Tree) (conds : List Cond) (a b : ℕ) → Counts (length leaves) (all_nodes (map nodes leaves)) a b → Counts 0 (nodes (unit_of (record { leaves = leaves; conds = conds }))) a b
unit_counts [] conds a b counts = block_counts [] conds a b counts
unit_counts (first ∷ []) [] a b counts = one_alone first a b counts
unit_counts (first ∷ []) (cond ∷ conds) a b counts = block_counts (first ∷ []) (cond ∷ conds) a b counts
unit_counts (first ∷ next ∷ rest) conds a b counts = block_counts (first ∷ next ∷ rest) conds a b counts

outer_counts : (kind : JoinKind) (on : List Cond) (left right : Part) (a b c d : ℕ) → PartCounts left a b → PartCounts right c d → PartCounts (outer_join kind on left right) (a + c) (b + d)
outer_counts kind on left right a b c d first second =
    let one = unit_counts left.leaves left.conds a b first in
    let other = unit_counts right.leaves right.conds c d second in
    leaf_counts (tree.Join kind on (unit_of left) (unit_of right)) (a + c) (b + d)
    (subst (λ n. Counts 1 n (a + c) (b + d)) (sym (nodes-join kind on (unit_of left) (unit_of right))) (record {
      scans = ap₂ (λ x y. x + y) one.scans other.scans;
      filters = let h = one.filters in let k = other.filters in omega (arith, h, k);
      projections = let h = one.projections in let k = other.projections in omega (arith, h, k);
      groups = let h = one.groups in let k = other.groups in omega (arith, h, k);
      leaves = let h = one.leaves in let k = other.leaves in omega (arith, h, k);
    }))

turned : (part : Part) (a b c d : ℕ) → PartCounts part (c + a) (d + b) → PartCounts part (a + c) (b + d)
turned part a b c d counts = subst (λ n. PartCounts part n (b + d)) (swapped c a) (subst (λ n. PartCounts part (c + a) n) (swapped d b) counts)
  where
    swapped : (m n : ℕ) → m + n ≡ n + m
    swapped m n = omega arith

pub joined_counts : (word : JoinWord) (left right : Part) (on : List Cond) (a b c d : ℕ) → PartCounts left a b → PartCounts right c d → PartCounts (joined word left right on) (a + c) (b + d)
joined_counts word.Cross left right on a b c d first second = all-both left.leaves right.leaves a b c d first second
joined_counts word.Inner left right on a b c d first second = all-both left.leaves right.leaves a b c d first second
joined_counts word.Left left right on a b c d first second = outer_counts kind.Left on left right a b c d first second
joined_counts word.Right left right on a b c d first second = turned (outer_join kind.Left on right left) a b c d (outer_counts kind.Left on right left c d a b second first)
joined_counts word.Full left right on a b c d first second = outer_counts kind.Full on left right a b c d first second

-- ---- all elements, and all subqueries after them

-- parts with what each counts
pub data AllParts : List Part → List ℕ → List ℕ → Type 0 where
  no_parts : AllParts [] [] []
  part_more : {part : Part} {a b : ℕ} {parts : List Part} {xs ys : List ℕ} → PartCounts part a b → AllParts parts xs ys → AllParts (part ∷ parts) (a ∷ xs) (b ∷ ys)

sums : (part : Part) (a b : ℕ) (xs ys : List ℕ) → PartCounts part (a + sum xs) (b + sum ys) → PartCounts part (sum (a ∷ xs)) (sum (b ∷ ys))
sums part a b xs ys counts =
    subst (λ n. PartCounts part n (sum (b ∷ ys))) (sym (sum_by-cons (λ x. x) a xs)) (subst (λ n. PartCounts part (a + sum xs) n) (sym (sum_by-cons (λ x. x) b ys)) counts)

parts_counts : {parts : List Part} {xs ys : List ℕ} → AllParts parts xs ys → PartCounts (all_parts parts) (sum xs) (sum ys)
parts_counts no_parts = all-none
parts_counts (part_more {part = part} {a = a} {b = b} {parts = parts} {xs = xs} {ys = ys} first rest) =
    sums (all_parts (part ∷ parts)) a b xs ys (all-both part.leaves (all_parts parts).leaves a b (sum xs) (sum ys) first (parts_counts rest))

-- a subquery's join counts what the tree so far and the subquery count
abbrev pub JoinCounts : (Tree → Tree) → ℕ → ℕ → Type 0
JoinCounts join c d = (t : Tree) (a b : ℕ) → Counts 0 (nodes t) a b → Counts 0 (nodes (join t)) (a + c) (b + d)

pub data AllJoins : List (Tree → Tree) → List ℕ → List ℕ → Type 0 where
  no_joins : AllJoins [] [] []
  join_more : {join : Tree → Tree} {a b : ℕ} {joins : List (Tree → Tree)} {xs ys : List ℕ} → JoinCounts join a b → AllJoins joins xs ys → AllJoins (join ∷ joins) (a ∷ xs) (b ∷ ys)

joins_counts : {joins : List (Tree → Tree)} {xs ys : List ℕ} → AllJoins joins xs ys → (t : Tree) (a b : ℕ) → Counts 0 (nodes t) a b → Counts 0 (nodes (fold (λ t join. join t) t joins)) (a + sum xs) (b + sum ys)
joins_counts no_joins t a b counts = subst (λ n. Counts 0 (nodes t) n (b + 0)) (none a) (subst (λ n. Counts 0 (nodes t) a n) (none b) counts)
  where
    none : (n : ℕ) → n ≡ n + 0
    none n = omega arith
joins_counts (join_more {join = join} {a = c} {b = d} {joins = joins} {xs = xs} {ys = ys} first rest) t a b counts =
    let more = joins_counts rest (join t) (a + c) (b + d) (first t a b counts) in
    let all = fold (λ t join. join t) (join t) joins in
    subst (λ n. Counts 0 (nodes all) n (b + sum (d ∷ ys))) (push a c xs) (subst (λ n. Counts 0 (nodes all) ((a + c) + sum xs) n) (push b d ys) more)
  where
    push : (m n : ℕ) (ns : List ℕ) → (m + n) + sum ns ≡ m + sum (n ∷ ns)
    push m n ns = let is : sum (n ∷ ns) ≡ n + sum ns = sum_by-cons (λ x. x) n ns in omega (arith, is)

-- ---- groups and output columns

-- nodes of a query: those of its FROM and WHERE, and then at most a filter, a projection and two groups
pub record QueryCounts (query : Bound) (references queries : ℕ) : Type 0 where
  pub rows : Counts 1 (nodes query.rows) references queries
  pub columns : Counts 1 (nodes query.columns) references queries
  pub whole : Counts 1 (nodes query.whole) references queries

-- what a query's parts make of its tree so far, with what each adds
record Grown (n : Nodes) (filters projections groups a b : ℕ) : Type 0 where
  scans : n.scans ≡ a
  few_filters : n.filters ≤ b + filters
  few_projections : n.projections ≤ b + projections
  few_groups : n.groups ≤ (b + b) + groups
  leaves : n.leaves ≤ (a + n.joins) + b

grown : (n : Nodes) (a b : ℕ) → Counts 0 n a b → Grown n 0 0 0 a b
grown n a b counts = record {
  scans = counts.scans;
  few_filters = let h = counts.filters in omega (arith, h);
  few_projections = let h = counts.projections in omega (arith, h);
  few_groups = let h = counts.groups in omega (arith, h);
  leaves = let h = counts.leaves in omega (arith, h);
}

-- at most one filter, one projection and two groups more: the query itself counts for them
counted : (n : Nodes) (filters projections groups a b : ℕ) → filters ≤ 1 → projections ≤ 1 → groups ≤ 2 → Grown n filters projections groups a b → Counts 1 n a (1 + b)
counted n filters projections groups a b one other two grown = record {
  scans = grown.scans;
  filters = let h = grown.few_filters in omega (arith, h, one);
  projections = let h = grown.few_projections in omega (arith, h, other);
  groups = let h = grown.few_groups in omega (arith, h, two);
  leaves = let h = grown.leaves in omega (arith, h);
}

filtered_grown : (having : List Cond) (t : Tree) (groups a b : ℕ) → Grown (nodes t) 0 0 groups a b → Grown (nodes (filtered having t)) 1 0 groups a b
filtered_grown [] t groups a b grown = record {
  scans = grown.scans;
  few_filters = let h = grown.few_filters in omega (arith, h);
  few_projections = grown.few_projections;
  few_groups = grown.few_groups;
  leaves = grown.leaves;
}
filtered_grown (first ∷ rest) t groups a b grown = subst (λ n. Grown n 1 0 groups a b) (sym (nodes-filter (first ∷ rest) t)) (record {
  scans = grown.scans;
  few_filters = let h = grown.few_filters in omega (arith, h);
  few_projections = grown.few_projections;
  few_groups = grown.few_groups;
  leaves = grown.leaves;
})

groups_grown : (keys : List ColId) (aggs : List Agg) (t : Tree) (filters projections groups a b : ℕ) → Grown (nodes t) filters projections groups a b → Grown (nodes (tree.GroupBy keys aggs t)) filters projections (groups + 1) a b
groups_grown keys aggs t filters projections groups a b grown = subst (λ n. Grown n filters projections (groups + 1) a b) (sym (nodes-groups keys aggs t)) (record {
  scans = grown.scans;
  few_filters = grown.few_filters;
  few_projections = grown.few_projections;
  few_groups = let h = grown.few_groups in omega (arith, h);
  leaves = grown.leaves;
})

wider_grown : (n : Nodes) (a b : ℕ) → Grown n 0 0 0 a b → Grown n 1 0 1 a b
wider_grown n a b grown = record {
  scans = grown.scans;
  few_filters = let h = grown.few_filters in omega (arith, h);
  few_projections = grown.few_projections;
  few_groups = let h = grown.few_groups in omega (arith, h);
  leaves = grown.leaves;
}

grouped_grown : (group : Option JGroup) (t : Tree) (a b : ℕ) → Grown (nodes t) 0 0 0 a b → Grown (nodes (grouped group t)) 1 0 1 a b
grouped_grown None t a b grown = wider_grown (nodes t) a b grown
grouped_grown (Some group) t a b grown =
    filtered_grown group.having (tree.GroupBy (each_number_once group.keys) group.aggs t) 1 a b (groups_grown (each_number_once group.keys) group.aggs t 0 0 0 a b grown)

projected_grown : (items : List (ColId × Option Scalar)) (t : Tree) (a b : ℕ) → Grown (nodes t) 1 0 1 a b → Grown (nodes (tree.Project items t)) 1 1 1 a b
projected_grown items t a b grown = subst (λ n. Grown n 1 1 1 a b) (sym (nodes-project items t)) (record {
  scans = grown.scans;
  few_filters = grown.few_filters;
  few_projections = let h = grown.few_projections in omega (arith, h);
  few_groups = grown.few_groups;
  leaves = grown.leaves;
})

distinct_grown : (distinct : Bool) (items : List JItem) (t : Tree) (a b : ℕ) → Grown (nodes t) 1 1 1 a b → Grown (nodes (distinct_if distinct items t)) 1 1 2 a b
distinct_grown true items t a b grown = groups_grown (each_number_once (map (λ item. item.out) items)) [] t 1 1 1 a b grown
distinct_grown false items t a b grown = record {
  scans = grown.scans;
  few_filters = grown.few_filters;
  few_projections = grown.few_projections;
  few_groups = let h = grown.few_groups in omega (arith, h);
  leaves = grown.leaves;
}

-- ---- a query

module _ {parts : List Part} {xs ys : List ℕ} (from : AllParts parts xs ys) {joins : List (Tree → Tree)} {us vs : List ℕ} (subs : AllJoins joins us vs)
    (plain outer : List Cond) (group : Option JGroup) (items : List JItem) (distinct : Bool) where
  abbrev query : Bound
  query = bind.query_step (record { from = parts; plain = plain; outer = outer; subs = joins; group = group; items = items; distinct = distinct })

  block : Counts 0 (nodes (block_of parts plain)) (sum xs) (sum ys)
  block = unit_counts (all_parts parts).leaves ((all_parts parts).conds ++ plain) (sum xs) (sum ys) (parts_counts from)

  rows_grown : Grown (nodes query.rows) 0 0 0 (sum xs + sum us) (sum ys + sum vs)
  rows_grown = grown (nodes query.rows) (sum xs + sum us) (sum ys + sum vs) (joins_counts subs (block_of parts plain) (sum xs) (sum ys) block)

  columns_grown : Grown (nodes query.columns) 1 1 1 (sum xs + sum us) (sum ys + sum vs)
  columns_grown = projected_grown (each_item_once items) (grouped group query.rows) (sum xs + sum us) (sum ys + sum vs) (grouped_grown group query.rows (sum xs + sum us) (sum ys + sum vs) rows_grown)

  pub query_counts : QueryCounts query (sum xs + sum us) (1 + (sum ys + sum vs))
  query_counts = record {
    rows = counted (nodes query.rows) 0 0 0 (sum xs + sum us) (sum ys + sum vs) (omega arith) (omega arith) (omega arith) rows_grown;
    columns = counted (nodes query.columns) 1 1 1 (sum xs + sum us) (sum ys + sum vs) (omega arith) (omega arith) (omega arith) columns_grown;
    whole = counted (nodes query.whole) 1 1 2 (sum xs + sum us) (sum ys + sum vs) (omega arith) (omega arith) (omega arith) (distinct_grown distinct items query.columns (sum xs + sum us) (sum ys + sum vs) columns_grown);
  }

-- ---- a subquery's join

pub subquery_counts : (negated : Bool) (left : Option Scalar) (query : Bound) (c d : ℕ) → QueryCounts query c d → JoinCounts (subquery_join negated left query) c d
subquery_counts negated left query c d known t a b counts =
    subst (λ n. Counts 0 n (a + c) (b + d)) (sym (nodes-join (subquery_kind negated) (in_condition negated left query ++ query.outer) t (subquery_tree query)))
    (joined_both (nodes (subquery_tree query)) (inner query.is_grouped))
  where
    inner : (grouped : Bool) → Counts 1 (nodes (if grouped then query.columns else query.rows)) c d
    inner true = known.columns
    inner false = known.rows

    joined_both : (n : Nodes) → Counts 1 n c d → Counts 0 (join_nodes (nodes t) n) (a + c) (b + d)
    joined_both n other = record {
      scans = ap₂ (λ x y. x + y) counts.scans other.scans;
      filters = let h = counts.filters in let k = other.filters in omega (arith, h, k);
      projections = let h = counts.projections in let k = other.projections in omega (arith, h, k);
      groups = let h = counts.groups in let k = other.groups in omega (arith, h, k);
      leaves = let h = counts.leaves in let k = other.leaves in omega (arith, h, k);
    }
