-- Sizes worked out by hand: a count over a table, and orders with their customers.
use Rattle.std.proofs.Common.{◌≡◌, ℕ, pos, List, [], ◌∷◌, map, max, Option, Some, None, refl, ap, ap₂, ◌∙◌}
use Rattle.pdw_algebra.proofs.TreeFolds.{fold-block, fold-group, fold-scan}
use Rattle.pdw_algebra.specs.Schema.{rising}
use Rattle.pdw_algebra.specs.Shape.{Shape, columns_of, shape_step}
use Rattle.pdw_algebra.specs.declared.tree.Tree.{Tree}
use Rattle.pdw_algebra.specs.declared.tree.Tree.TheOpen.{Tree-F}
use Rattle.pdw_algebra.specs.declared.tree.Tree.TheVariants as tree
use Rattle.pdw_base.specs.declared.schema.ColId.{ColId}
use Rattle.pdw_base.specs.declared.value.Kind.TheVariants as kind
use Rattle.pdw_base.specs.declared.value.Value.TheVariants as value
use Rattle.pdw_catalog.specs.Catalog.{Tables}
use Rattle.pdw_catalog.specs.Sample.{sample_table}
use Rattle.pdw_catalog.specs.declared.table.Placing.TheVariants as placing
use Rattle.pdw_expr.specs.declared.agg.Agg.{Agg}
use Rattle.pdw_expr.specs.declared.agg.AggKind.TheVariants as aggregate
use Rattle.pdw_expr.specs.declared.agg.JoinKind.TheVariants as join
use Rattle.pdw_expr.specs.declared.cond.Cmp.TheVariants as compares
use Rattle.pdw_expr.specs.declared.cond.Cond.{Cond}
use Rattle.pdw_expr.specs.declared.cond.Cond.TheVariants as cond
use Rattle.pdw_expr.specs.declared.scalar.Scalar.{Scalar}
use Rattle.pdw_expr.specs.declared.scalar.Scalar.TheVariants as scalar
use Rattle.pdw_groups.specs.Meaning.{exactly, partial_of}
use Rattle.pdw_sizes.proofs.EstimateFolds.{divisor-sides, estimate-block, estimate-filter, estimate-group, estimate-join, estimate-project, estimate-scan, expression_width-literal, side_of-column, side_of-literal}
use Rattle.pdw_groups.specs.Columns.{partial_schema}
use Rattle.pdw_sizes.specs.Divisor.{divisor}
use Rattle.pdw_sizes.specs.Estimate.{ColStats, Estimate, aggregate_columns, both_columns, distinct_in, distinct_of, divided, estimate, estimate_step, join_rows, key_rows, leaf_columns, rows_left, rows_of_tree, times, width_in, width_of_column}
use Rattle.pdw_sizes.specs.Sizes.{partial_rows, size_of_meaning, width_of_schema}
use Rattle.pdw_sizes.specs.declared.size.Size.{Size}
use Rattle.pdw_sizes.specs.declared.divisors.Side.TheVariants as side
use Rattle.pdw_stats.specs.Book.{Book}
use Rattle.pdw_stats.specs.declared.stats.Stats.{Stats}

abbrev id : ℕ → ColId
id n = record { 0 = n }

abbrev size : ℕ → ℕ → Size
size rows width = record { rows = rows; width = width }

-- a table of two columns, each of which has so many different values and 8 bytes
abbrev two_columns : ℕ → ℕ → ℕ → Stats
two_columns rows first second = record { rows = rows; cols = record { distinct = first; width = 8 } ∷ record { distinct = second; width = 8 } ∷ [] }

abbrev e : List ℕ
e = 101 ∷ []

abbrev orders : List ℕ
orders = 111 ∷ []

abbrev customers : List ℕ
customers = 99 ∷ []

abbrev tables : Tables
tables =
    (e, sample_table e (placing.Hash 0))
    ∷ (orders, sample_table orders (placing.Hash 0))
    ∷ (customers, sample_table customers (placing.Hash 0))
    ∷ []

-- 1,000 orders, and 100 customers in 7 zones
abbrev book : Book
book = (e, two_columns 1000 100 100) ∷ (orders, two_columns 1000 100 100) ∷ (customers, two_columns 100 100 7) ∷ []

-- ---- numbers

capped : times 1000000 2000000 ≡ 1000000000000
capped = refl

rounded_down : divided 1000 3 ≡ 333
rounded_down = refl

one_stays : divided 2 3 ≡ 1
one_stays = refl

none_stays : divided 0 3 ≡ 0
none_stays = refl

-- two columns of 4,000,000,000 bytes
widest : width_of_schema (λ c. Some (record { distinct = 1; width = 4000000000 })) ((id 0, kind.Int) ∷ (id 1, kind.Int) ∷ []) ≡ 4294967295
widest = refl

-- ---- SELECT COUNT(*) FROM e, at four nodes

abbrev counted : ColId
counted = id 0

abbrev counts : List Agg
counts = record { kind = aggregate.CountStar; arg = None; out = counted } ∷ []

abbrev scan_e : Tree
scan_e = tree.Scan e e []

abbrev e_rows : Estimate
e_rows = estimate_step book (Tree-F.Scan e e [])

abbrev e_counted : Estimate
e_counted = estimate_step book (Tree-F.GroupBy [] counts e_rows)

e-columns : columns_of tables scan_e ≡ []
e-columns = ap (λ (shape : Shape). shape.columns) (fold-scan (shape_step tables) e e [])

e-estimate : estimate book scan_e ≡ e_rows
e-estimate = estimate-scan book e e []

group-columns : columns_of tables (tree.GroupBy [] counts scan_e) ≡ (counted, kind.Int) ∷ []
group-columns =
    ap (λ (shape : Shape). shape.columns)
    (fold-group (shape_step tables) [] counts scan_e ∙ ap (λ shape. shape_step tables (Tree-F.GroupBy [] counts shape)) (fold-scan (shape_step tables) e e []))

-- the scan has no column, so it has the least width
scan : size_of_meaning book 4 tables (exactly scan_e) ≡ size 1000 1
scan = ap₂ (λ (est : Estimate) columns. size est.rows (width_of_schema est.columns (rising columns))) e-estimate e-columns

-- each node has a partial row with a count of 16 bytes
partials : size_of_meaning book 4 tables (partial_of [] counts scan_e) ≡ size 4 16
partials = ap₂ (λ (est : Estimate) columns. size 4 (width_of_schema (aggregate_columns 16 est.columns counts) (partial_schema [] counts (rising columns)))) e-estimate e-columns

group : size_of_meaning book 4 tables (exactly (tree.GroupBy [] counts scan_e)) ≡ size 1 8
group = ap₂ (λ (est : Estimate) columns. size est.rows (width_of_schema est.columns (rising columns))) (estimate-group book [] counts scan_e e_rows e-estimate) group-columns

-- these groups in their order
sizes : map (size_of_meaning book 4 tables) (exactly scan_e ∷ partial_of [] counts scan_e ∷ exactly (tree.GroupBy [] counts scan_e) ∷ []) ≡ size 1000 1 ∷ size 4 16 ∷ size 1 8 ∷ []
sizes = λ i. scan i ∷ partials i ∷ group i ∷ []

whole : rows_of_tree book (tree.Project ((counted, None) ∷ []) (tree.GroupBy [] counts scan_e)) ≡ 1
whole = ap (λ (est : Estimate). est.rows) (estimate-project book ((counted, None) ∷ []) (tree.GroupBy [] counts scan_e) e_counted (estimate-group book [] counts scan_e e_rows e-estimate))

-- ---- orders and customers

abbrev order_cols : List (ColId × ℕ)
order_cols = (id 0, 0) ∷ (id 1, 1) ∷ []

abbrev customer_cols : List (ColId × ℕ)
customer_cols = (id 2, 0) ∷ (id 3, 1) ∷ []

abbrev scan_orders : Tree
scan_orders = tree.Scan orders orders order_cols

abbrev scan_customers : Tree
scan_customers = tree.Scan customers customers customer_cols

abbrev order_rows : Estimate
order_rows = estimate_step book (Tree-F.Scan orders orders order_cols)

abbrev customer_rows : Estimate
customer_rows = estimate_step book (Tree-F.Scan customers customers customer_cols)

orders-estimate : estimate book scan_orders ≡ order_rows
orders-estimate = estimate-scan book orders orders order_cols

customers-estimate : estimate book scan_customers ≡ customer_rows
customers-estimate = estimate-scan book customers customers customer_cols

-- the second column of orders is the first of customers
abbrev same_customer : Cond
same_customer = cond.Compare compares.Eq (scalar.Col (id 1)) (scalar.Col (id 2))

abbrev zone_is_5 : Cond
zone_is_5 = cond.Compare compares.Eq (scalar.Lit (value.Int (pos 5))) (scalar.Col (id 3))

abbrev zone_below_5 : Cond
zone_below_5 = cond.Compare compares.Lt (scalar.Col (id 3)) (scalar.Lit (value.Int (pos 5)))

-- what a conjunct divides by, whatever is known of its columns
module _ (distinct : ColId → ℕ) where
  divides-same_customer : divisor distinct same_customer ≡ max (distinct (id 1)) (distinct (id 2))
  divides-same_customer = divisor-sides compares.Eq (scalar.Col (id 1)) (scalar.Col (id 2)) (side.Column (id 1)) (side.Column (id 2)) (side_of-column (id 1)) (side_of-column (id 2)) distinct

  divides-zone_is_5 : divisor distinct zone_is_5 ≡ distinct (id 3)
  divides-zone_is_5 =
      divisor-sides compares.Eq (scalar.Lit (value.Int (pos 5))) (scalar.Col (id 3)) side.Constant (side.Column (id 3)) (side_of-literal (value.Int (pos 5))) (side_of-column (id 3)) distinct

  divides-zone_below_5 : divisor distinct zone_below_5 ≡ 3
  divides-zone_below_5 =
      divisor-sides compares.Lt (scalar.Col (id 3)) (scalar.Lit (value.Int (pos 5))) (side.Column (id 3)) side.Constant (side_of-column (id 3)) (side_of-literal (value.Int (pos 5))) distinct

abbrev joined_tree : Tree
joined_tree = tree.Block (scan_orders ∷ scan_customers ∷ []) (same_customer ∷ [])

abbrev both_rows : List Estimate
both_rows = order_rows ∷ customer_rows ∷ []

joined-estimate : estimate book joined_tree ≡ estimate_step book (Tree-F.Block both_rows (same_customer ∷ []))
joined-estimate = estimate-block book (scan_orders ∷ scan_customers ∷ []) (same_customer ∷ []) both_rows (ap₂ (λ a b. a ∷ b ∷ []) orders-estimate customers-estimate)

joined-columns : columns_of tables joined_tree ≡ (id 0, kind.Int) ∷ (id 1, kind.Text) ∷ (id 2, kind.Int) ∷ (id 3, kind.Text) ∷ []
joined-columns =
    ap (λ (shape : Shape). shape.columns)
    (fold-block (shape_step tables) (scan_orders ∷ scan_customers ∷ []) (same_customer ∷ [])
    ∙ ap₂ (λ a b. shape_step tables (Tree-F.Block (a ∷ b ∷ []) (same_customer ∷ []))) (fold-scan (shape_step tables) orders orders order_cols) (fold-scan (shape_step tables) customers customers customer_cols))

joined-rows : rows_of_tree book joined_tree ≡ 1000
joined-rows = ap (λ (est : Estimate). est.rows) joined-estimate ∙ ap (divided 100000) (divides-same_customer (distinct_in (leaf_columns both_rows)))

joined-width : width_of_schema (estimate book joined_tree).columns (rising (columns_of tables joined_tree)) ≡ 32
joined-width = ap₂ (λ (est : Estimate) columns. width_of_schema est.columns (rising columns)) joined-estimate joined-columns

-- 1,000 times 100 pairs, of which the 100 different customers leave one in a hundred, in four columns of 8 bytes
joined : size_of_meaning book 2 tables (exactly joined_tree) ≡ size 1000 32
joined = ap₂ size joined-rows joined-width

-- 100 customers, of which each of 7 zones has as many
of_a_zone : rows_of_tree book (tree.Filter (zone_is_5 ∷ []) scan_customers) ≡ 14
of_a_zone =
    ap (λ (est : Estimate). est.rows) (estimate-filter book (zone_is_5 ∷ []) scan_customers customer_rows customers-estimate)
    ∙ ap (divided 100) (divides-zone_is_5 (distinct_in customer_rows.columns))

of_few_zones : rows_of_tree book (tree.Filter (zone_below_5 ∷ []) scan_customers) ≡ 33
of_few_zones =
    ap (λ (est : Estimate). est.rows) (estimate-filter book (zone_below_5 ∷ []) scan_customers customer_rows customers-estimate)
    ∙ ap (divided 100) (divides-zone_below_5 (distinct_in customer_rows.columns))

-- 333 pairs are left, but each order stands once
abbrev on_both : List Cond
on_both = same_customer ∷ zone_below_5 ∷ []

abbrev both_columns_of : ColStats
both_columns_of = both_columns order_rows.columns customer_rows.columns

pairs-left : rows_left both_columns_of 100000 on_both ≡ 333
pairs-left = ap₂ (λ first second. divided (divided 100000 first) second) (divides-same_customer (distinct_in both_columns_of)) (divides-zone_below_5 (distinct_in both_columns_of))

left : rows_of_tree book (tree.Join join.Left on_both scan_orders scan_customers) ≡ 1000
left =
    ap (λ (est : Estimate). est.rows) (estimate-join book join.Left on_both scan_orders scan_customers order_rows customer_rows orders-estimate customers-estimate)
    ∙ ap (λ rows. join_rows join.Left rows 1000 100) pairs-left

full : rows_of_tree book (tree.Join join.Full on_both scan_customers scan_orders) ≡ 1000
full =
    ap (λ (est : Estimate). est.rows) (estimate-join book join.Full on_both scan_customers scan_orders customer_rows order_rows customers-estimate orders-estimate)
    ∙ ap₂ (λ first second. join_rows join.Full (divided (divided 100000 first) second) 100 1000)
    (divides-same_customer (distinct_in (both_columns customer_rows.columns order_rows.columns))) (divides-zone_below_5 (distinct_in (both_columns customer_rows.columns order_rows.columns)))

half : rows_of_tree book (tree.Join join.Semi on_both scan_orders scan_customers) ≡ 500
half = ap (λ (est : Estimate). est.rows) (estimate-join book join.Semi on_both scan_orders scan_customers order_rows customer_rows orders-estimate customers-estimate)

-- 7 zones; at two nodes at most 14 partial rows, each with the zone and a count of 16 bytes
abbrev zone_counts : List Agg
zone_counts = record { kind = aggregate.CountStar; arg = None; out = id 4 } ∷ []

customer-columns : columns_of tables scan_customers ≡ (id 2, kind.Int) ∷ (id 3, kind.Text) ∷ []
customer-columns = ap (λ (shape : Shape). shape.columns) (fold-scan (shape_step tables) customers customers customer_cols)

zones : rows_of_tree book (tree.GroupBy (id 3 ∷ []) zone_counts scan_customers) ≡ 7
zones = ap (λ (est : Estimate). est.rows) (estimate-group book (id 3 ∷ []) zone_counts scan_customers customer_rows customers-estimate)

zone_partials : size_of_meaning book 2 tables (partial_of (id 3 ∷ []) zone_counts scan_customers) ≡ size 14 24
zone_partials =
    ap₂ (λ (est : Estimate) columns. size (partial_rows 2 (key_rows est.columns est.rows (id 3 ∷ [])) est.rows (id 3 ∷ []))
    (width_of_schema (aggregate_columns 16 est.columns zone_counts) (partial_schema (id 3 ∷ []) zone_counts (rising columns))))
    customers-estimate customer-columns

-- a text of two bytes beside a column that is passed on
abbrev shown : List (ColId × Option Scalar)
shown = (id 3, None) ∷ (id 5, Some (scalar.Lit (value.Text (97 ∷ 98 ∷ [])))) ∷ []

text_width : width_of_column book (tree.Project shown scan_customers) (id 5) ≡ 2
text_width =
    ap (λ (est : Estimate). width_in est.columns (id 5)) (estimate-project book shown scan_customers customer_rows customers-estimate)
    ∙ expression_width-literal customer_rows.columns (value.Text (97 ∷ 98 ∷ []))

passed_width : width_of_column book (tree.Project shown scan_customers) (id 3) ≡ 8
passed_width = ap (λ (est : Estimate). width_in est.columns (id 3)) (estimate-project book shown scan_customers customer_rows customers-estimate)

passed_distinct : distinct_of book (tree.Project shown scan_customers) (id 3) ≡ 7
passed_distinct = ap (λ (est : Estimate). distinct_in est.columns (id 3)) (estimate-project book shown scan_customers customer_rows customers-estimate)

made_distinct : distinct_of book (tree.Project shown scan_customers) (id 5) ≡ 100
made_distinct = ap (λ (est : Estimate). distinct_in est.columns (id 5)) (estimate-project book shown scan_customers customer_rows customers-estimate)
