-- What the numbered form of a query means: rows that give each column number a value. No name of a column occurs here.
use Rattle.std.specs.Prelude.{Bool, List, [], map, Option, Some, None, if◌then◌else◌}
use Rattle.std.specs.List.{filter, list_all}
use Rattle.pdw_syntax.specs.declared.query.JoinWord.{JoinWord}
use Rattle.pdw_syntax.specs.declared.query.JoinWord.TheVariants as word
use Rattle.pdw_base.specs.Schema.{Env}
use Rattle.pdw_base.specs.declared.schema.ColId.{ColId}
use Rattle.pdw_base.specs.declared.truth.Truth.{Truth}
use Rattle.pdw_base.specs.declared.truth.Truth.TheVariants.{True}
use Rattle.pdw_base.specs.declared.value.Value.{Value}
use Rattle.pdw_catalog.specs.Database.{Database}
use Rattle.pdw_expr.specs.Env.{nulls, union}
use Rattle.pdw_expr.specs.Join.{full_joined, inner_joined, left_joined}
use Rattle.pdw_expr.specs.Logic.{decided, is_truth}
use Rattle.pdw_expr.specs.Parts.{parts}
use Rattle.pdw_expr.specs.Rows.{filtered, group_row, grouped, itself, key_of, meets, products, projected, scanned}
use Rattle.pdw_expr.specs.Scalar.{value_of}
use Rattle.pdw_expr.specs.declared.cond.Cond.{Cond}
use Rattle.pdw_expr.specs.declared.scalar.Scalar.{Scalar}
use Rattle.pdw_expr.specs.Predicates.{first_column, has_rows, is_one_of, negated_if}
use Rattle.pdw_form.specs.declared.judged.JFrom.TheOpen.{JFrom-F, JSub-F, JudgedQuery-F}
use Rattle.pdw_form.specs.declared.judged.JFrom.TheFolds.{fold-JFrom, fold-JudgedQuery}
use Rattle.pdw_form.specs.declared.judged.JFrom.{JFrom}
use Rattle.pdw_form.specs.declared.judged.JGroup.{JGroup}
use Rattle.pdw_form.specs.declared.judged.JItem.{JItem}
use Rattle.pdw_form.specs.declared.judged.JudgedQuery.{JudgedQuery}
use Rattle.pdw_form.specs.declared.judged.JudgedSelect.{JudgedSelect}

-- the numbers of the output columns, and the rows by the row of the enclosing query
pub record NumberedMeaning : Type 0 where
  pub outs : List ColId
  pub rows : Env → List Env

-- the rows as lists, in the order of the items
abbrev pub row_values : NumberedMeaning → Env → List (List Value)
row_values query outer = map (key_of query.outs) (query.rows outer)

-- ---- FROM

-- RIGHT is LEFT with the sides exchanged
abbrev pub joined_rows : JoinWord → List Cond → List Env → List Env → List Env
joined_rows word.Cross on left right = inner_joined union (meets on) left right
joined_rows word.Inner on left right = inner_joined union (meets on) left right
joined_rows word.Left on left right = left_joined union (meets on) itself left right
joined_rows word.Right on left right = left_joined union (meets on) itself right left
joined_rows word.Full on left right = full_joined union (meets on) itself itself left right

-- ---- subqueries

abbrev pub subquery_truth : Option Scalar → NumberedMeaning → Env → Truth
subquery_truth None query row = decided (has_rows (row_values query row))
subquery_truth (Some x) query row = is_one_of (value_of x row) (map first_column (row_values query row))

abbrev pub subquery_holds : Bool → Option Scalar → NumberedMeaning → Env → Bool
subquery_holds negated left query row = is_truth (negated_if negated (subquery_truth left query row)) True

-- ---- a query

abbrev pub items_of : List JItem → List (ColId × Option Scalar)
items_of items = map (λ item. (item.out, item.make)) items

abbrev pub outs_of : List JItem → List ColId
outs_of items = map (λ item. item.out) items

-- the groups whose HAVING holds, where the query is grouped
abbrev pub group_rows : Option JGroup → List Env → List Env
group_rows None rows = rows
group_rows (Some group) rows = filtered group.having (grouped group.keys group.aggs rows)

-- each row once, by its output columns
abbrev pub distinct_rows : Bool → List ColId → List Env → List Env
distinct_rows distinct outs rows = if distinct then map (group_row outs []) (parts (key_of outs) rows) else rows

module _ (database : Database) where
  abbrev pub from_step : JFrom-F (List Env) (Env → Bool) NumberedMeaning → List Env
  from_step (JFrom-F.Table table alias cols) = map (scanned cols) (database.rows table)
  from_step (JFrom-F.Derived query) = query.rows nulls
  from_step (JFrom-F.Join word left right on) = joined_rows word on left right

  abbrev pub sub_step : JSub-F (List Env) (Env → Bool) NumberedMeaning → Env → Bool
  sub_step sub = subquery_holds sub.negated sub.left sub.query

  -- the rows of FROM for which the plain conjuncts and the subqueries hold, whatever the enclosing query's row
  abbrev pub kept_rows : JudgedQuery-F (List Env) (Env → Bool) NumberedMeaning → List Env
  kept_rows q = filter (λ row. list_all (λ holds. holds row) q.subs) (filtered q.plain (products q.from))

  -- and then the conjuncts with a column of that row
  abbrev pub correlated_rows : JudgedQuery-F (List Env) (Env → Bool) NumberedMeaning → Env → List Env
  correlated_rows q outer = filter (λ row. meets q.outer (union row outer)) (kept_rows q)

  abbrev pub query_step : JudgedQuery-F (List Env) (Env → Bool) NumberedMeaning → NumberedMeaning
  query_step q = record {
    outs = outs_of q.items;
    rows = λ outer. distinct_rows q.distinct (outs_of q.items) (map (projected (items_of q.items)) (group_rows q.group (correlated_rows q outer)));
  }

  unfoldable pub from_rows : JFrom → List Env
  from_rows = fold-JFrom (List Env) (Env → Bool) NumberedMeaning from_step sub_step query_step

  unfoldable pub numbered : JudgedQuery → NumberedMeaning
  numbered = fold-JudgedQuery (List Env) (Env → Bool) NumberedMeaning from_step sub_step query_step

-- the rows of a SELECT by its numbered form
unfoldable pub numbered_answer : Database → JudgedSelect → List (List Value)
numbered_answer database s = row_values (numbered database s.query) nulls
