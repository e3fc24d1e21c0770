-- Numbered forms: FROM, subqueries and queries mean equal bags.
use Rattle.std.proofs.Common.{◌≡◌, Bool, true, false, List, [], ◌∷◌, map, filter, Option, Some, None, refl, sym, ap, ap₂, subst, subst₂, ◌∙◌}
use Rattle.std.specs.List.{list_all}
use Rattle.pdw_bag_laws.proofs.Groups.{SameBag-distinct, SameBag-grouped}
use Rattle.pdw_bag_laws.proofs.Operators.{SameBag-full_joined, SameBag-inner_joined, SameBag-left_joined}
use Rattle.pdw_base.proofs.SameBagLaws.{SameBag-filter, SameBag-map, SameBag-trans, SameBag-≡}
use Rattle.pdw_base.specs.SameBag.{SameBag}
use Rattle.pdw_base.specs.Schema.{Env}
use Rattle.pdw_base.specs.declared.schema.ColId.{ColId}
use Rattle.pdw_base.specs.declared.truth.Truth.TheVariants.{True}
use Rattle.pdw_catalog.specs.Database.{Database}
use Rattle.pdw_expr.specs.Comparison.{comparison}
use Rattle.pdw_expr.specs.Env.{nulls, union}
use Rattle.pdw_expr.specs.Logic.{decided, is_truth}
use Rattle.pdw_expr.specs.Predicates.{first_column, negated_if}
use Rattle.pdw_expr.specs.Rows.{filtered, itself, key_of, meets, products, projected, scanned}
use Rattle.pdw_expr.specs.Scalar.{value_of}
use Rattle.pdw_expr.specs.declared.cond.Cmp.TheVariants.{Eq}
use Rattle.pdw_expr.specs.declared.cond.Cond.{Cond}
use Rattle.pdw_expr.specs.declared.scalar.Scalar.{Scalar}
use Rattle.pdw_form.proofs.Related.{Related, more, none}
use Rattle.pdw_form.specs.Numbered.{NumberedMeaning, distinct_rows, from_step, group_rows, items_of, joined_rows, kept_rows, numbered, numbered_answer, outs_of, query_step, row_values, sub_step, subquery_holds, subquery_truth}
use Rattle.pdw_form.specs.declared.judged.JFrom.TheFolds.{fold-JFrom, fold-JSub, fold-JudgedQuery, fold-roll-JFrom, fold-roll-JSub, fold-roll-JudgedQuery, ind-JudgedQuery, map-JFrom, map-JSub, map-JudgedQuery}
use Rattle.pdw_form.specs.declared.judged.JFrom.TheOpen.{JFrom-F, JSub-F, JudgedQuery-F}
use Rattle.pdw_form.specs.declared.judged.JFrom.TheViews.{roll-JFrom}
use Rattle.pdw_form.specs.declared.judged.JFrom.{JFrom}
use Rattle.pdw_form.specs.declared.judged.JGroup.{JGroup}
use Rattle.pdw_form.specs.declared.judged.JItem.{JItem}
use Rattle.pdw_form.specs.declared.judged.JSub.{JSub, roll-JSub}
use Rattle.pdw_form.specs.declared.judged.JudgedQuery.{JudgedQuery, roll-JudgedQuery}
use Rattle.pdw_form.specs.declared.judged.JudgedSelect.{JudgedSelect}
use Rattle.pdw_same_rows.proofs.SameTrees.{same_products}
use Rattle.pdw_same_rows.proofs.Truths.{SameBag-any_of, SameBag-has_rows}
use Rattle.pdw_same_rows.specs.SameRows.{SameRows}
use Rattle.pdw_syntax.specs.declared.query.JoinWord.TheVariants as word
use Rattle.pdw_syntax.specs.declared.query.JoinWord.{JoinWord}

-- two meanings with the same output columns and equal bags of rows, within any row of an enclosing query
pub record SameMeaning (one other : NumberedMeaning) : Type 0 where
  pub outs : one.outs ≡ other.outs
  pub rows : (outer : Env) → SameBag (one.rows outer) (other.rows outer)

pub same_values : (one other : NumberedMeaning) → SameMeaning one other → (outer : Env) → SameBag (row_values one outer) (row_values other outer)
same_values one other same outer =
    SameBag-trans (SameBag-map (key_of one.outs) (same.rows outer)) (SameBag-≡ (ap (λ outs. map (key_of outs) (other.rows outer)) same.outs))

-- ---- FROM

same_joined : (word : JoinWord) (on : List Cond) {left lefts right rights : List Env} → SameBag left lefts → SameBag right rights → SameBag (joined_rows word on left right) (joined_rows word on lefts rights)
same_joined word.Cross on first second = SameBag-inner_joined union (meets on) first second
same_joined word.Inner on first second = SameBag-inner_joined union (meets on) first second
same_joined word.Left on first second = SameBag-left_joined union (meets on) first second itself
same_joined word.Right on first second = SameBag-left_joined union (meets on) second first itself
same_joined word.Full on first second = SameBag-full_joined union (meets on) first second itself itself

-- ---- subqueries

same_truth : (left : Option Scalar) (one other : NumberedMeaning) → SameMeaning one other → (row : Env) → subquery_truth left one row ≡ subquery_truth left other row
same_truth None one other same row = ap decided (SameBag-has_rows (same_values one other same row))
same_truth (Some x) one other same row =
    SameBag-any_of (SameBag-map (comparison Eq (value_of x row)) (SameBag-map first_column (same_values one other same row)))

same_holds : (negated : Bool) (left : Option Scalar) (one other : NumberedMeaning) → SameMeaning one other → subquery_holds negated left one ≡ subquery_holds negated left other
same_holds negated left one other same = λ i row. is_truth (negated_if negated (same_truth left one other same row i)) True

-- ---- a query

same_groups : (group : Option JGroup) {rows others : List Env} → SameBag rows others → SameBag (group_rows group rows) (group_rows group others)
same_groups None same = same
same_groups (Some group) {rows = rows} {others = others} same = SameBag-≡ (ap (filtered group.having) (SameBag-grouped group.keys group.aggs rows others same))

same_distinct : (distinct : Bool) (outs : List ColId) {rows others : List Env} → SameBag rows others → SameBag (distinct_rows distinct outs rows) (distinct_rows distinct outs others)
same_distinct true outs {rows = rows} {others = others} same = SameBag-≡ (SameBag-distinct outs rows others same)
same_distinct false outs same = same

module _ {from others : List (List Env)} (elements : Related SameBag from others) {subs tests : List (Env → Bool)} (conjuncts : subs ≡ tests)
    (plain outer : List Cond) (group : Option JGroup) (items : List JItem) (distinct : Bool) where
  abbrev one_layer : JudgedQuery-F (List Env) (Env → Bool) NumberedMeaning
  one_layer = record { from = from; plain = plain; outer = outer; subs = subs; group = group; items = items; distinct = distinct }

  abbrev other_layer : JudgedQuery-F (List Env) (Env → Bool) NumberedMeaning
  other_layer = record { from = others; plain = plain; outer = outer; subs = tests; group = group; items = items; distinct = distinct }

  same_kept : (one other : Database) → SameBag (kept_rows one one_layer) (kept_rows other other_layer)
  same_kept one other =
      SameBag-trans
      (SameBag-filter (λ row. list_all (λ holds. holds row) subs) (SameBag-filter (meets plain) (same_products elements)))
      (SameBag-≡ (ap (λ tests. filter (λ row. list_all (λ holds. holds row) tests) (filtered plain (products others))) conjuncts))

  same_query : (one other : Database) → SameMeaning (query_step one one_layer) (query_step other other_layer)
  same_query one other = record {
    outs = refl;
    rows = λ enclosing.
        same_distinct distinct (outs_of items)
        (SameBag-map (projected (items_of items)) (same_groups group (SameBag-filter (λ row. meets outer (union row enclosing)) (same_kept one other))));
  }

-- ---- any form

module _ (one other : Database) (same : SameRows one other) where
  abbrev from_in : Database → JFrom → List Env
  from_in database = fold-JFrom (List Env) (Env → Bool) NumberedMeaning (from_step database) (sub_step database) (query_step database)

  abbrev sub_in : Database → JSub → Env → Bool
  sub_in database = fold-JSub (List Env) (Env → Bool) NumberedMeaning (from_step database) (sub_step database) (query_step database)

  abbrev query_in : Database → JudgedQuery → NumberedMeaning
  query_in database = fold-JudgedQuery (List Env) (Env → Bool) NumberedMeaning (from_step database) (sub_step database) (query_step database)

  abbrev FromLaw : JFrom → Type 0
  FromLaw x = SameBag (from_in one x) (from_in other x)

  abbrev SubLaw : JSub → Type 0
  SubLaw x = sub_in one x ≡ sub_in other x

  abbrev QueryLaw : JudgedQuery → Type 0
  QueryLaw x = SameMeaning (query_in one x) (query_in other x)

  abbrev KnownFrom : Type 0
  KnownFrom = (x : JFrom) × FromLaw x

  abbrev KnownSub : Type 0
  KnownSub = (x : JSub) × SubLaw x

  abbrev KnownQuery : Type 0
  KnownQuery = (x : JudgedQuery) × QueryLaw x

  abbrev known_from : JFrom-F KnownFrom KnownSub KnownQuery → JFrom-F JFrom JSub JudgedQuery
  known_from = map-JFrom KnownFrom KnownSub KnownQuery JFrom JSub JudgedQuery (λ x. x.0) (λ x. x.0) (λ x. x.0)

  abbrev from_meanings : Database → JFrom-F JFrom JSub JudgedQuery → JFrom-F (List Env) (Env → Bool) NumberedMeaning
  from_meanings database = map-JFrom JFrom JSub JudgedQuery (List Env) (Env → Bool) NumberedMeaning (from_in database) (sub_in database) (query_in database)

  from_layer : (y : JFrom-F KnownFrom KnownSub KnownQuery) → SameBag (from_step one (from_meanings one (known_from y))) (from_step other (from_meanings other (known_from y)))
  from_layer (JFrom-F.Table table alias cols) = SameBag-map (scanned cols) (same.rows table)
  from_layer (JFrom-F.Derived query) = (query.1).rows nulls
  from_layer (JFrom-F.Join word left right on) = same_joined word on left.1 right.1

  from_law : (x : JFrom-F JFrom JSub JudgedQuery) (y : JFrom-F KnownFrom KnownSub KnownQuery) → known_from y ≡ x → FromLaw (roll-JFrom x)
  from_law x y is = subst (λ z. FromLaw (roll-JFrom z)) is
      (subst₂ SameBag
      (sym (fold-roll-JFrom (List Env) (Env → Bool) NumberedMeaning (from_step one) (sub_step one) (query_step one) (known_from y)))
      (sym (fold-roll-JFrom (List Env) (Env → Bool) NumberedMeaning (from_step other) (sub_step other) (query_step other) (known_from y)))
      (from_layer y))

  abbrev known_sub : JSub-F KnownFrom KnownSub KnownQuery → JSub-F JFrom JSub JudgedQuery
  known_sub = map-JSub KnownFrom KnownSub KnownQuery JFrom JSub JudgedQuery (λ x. x.0) (λ x. x.0) (λ x. x.0)

  sub_law : (x : JSub-F JFrom JSub JudgedQuery) (y : JSub-F KnownFrom KnownSub KnownQuery) → known_sub y ≡ x → SubLaw (roll-JSub x)
  sub_law x y is = subst (λ z. SubLaw (roll-JSub z)) is
      (fold-roll-JSub (List Env) (Env → Bool) NumberedMeaning (from_step one) (sub_step one) (query_step one) (known_sub y)
      ∙ same_holds y.negated y.left (query_in one y.query.0) (query_in other y.query.0) y.query.1
      ∙ sym (fold-roll-JSub (List Env) (Env → Bool) NumberedMeaning (from_step other) (sub_step other) (query_step other) (known_sub y)))

  abbrev known_query : JudgedQuery-F KnownFrom KnownSub KnownQuery → JudgedQuery-F JFrom JSub JudgedQuery
  known_query = map-JudgedQuery KnownFrom KnownSub KnownQuery JFrom JSub JudgedQuery (λ x. x.0) (λ x. x.0) (λ x. x.0)

  all_elements : (known : List KnownFrom) → Related SameBag (map (from_in one) (map (λ (x : KnownFrom). x.0) known)) (map (from_in other) (map (λ (x : KnownFrom). x.0) known))
  all_elements [] = none
  all_elements (x ∷ known) = more x.1 (all_elements known)

  all_subs : (known : List KnownSub) → map (sub_in one) (map (λ (x : KnownSub). x.0) known) ≡ map (sub_in other) (map (λ (x : KnownSub). x.0) known)
  all_subs [] = refl
  all_subs (x ∷ known) = ap₂ (λ first rest. first ∷ rest) x.1 (all_subs known)

  query_law : (x : JudgedQuery-F JFrom JSub JudgedQuery) (y : JudgedQuery-F KnownFrom KnownSub KnownQuery) → known_query y ≡ x → QueryLaw (roll-JudgedQuery x)
  query_law x y is = subst (λ z. QueryLaw (roll-JudgedQuery z)) is
      (subst₂ SameMeaning
      (sym (fold-roll-JudgedQuery (List Env) (Env → Bool) NumberedMeaning (from_step one) (sub_step one) (query_step one) (known_query y)))
      (sym (fold-roll-JudgedQuery (List Env) (Env → Bool) NumberedMeaning (from_step other) (sub_step other) (query_step other) (known_query y)))
      (same_query (all_elements y.from) (all_subs y.subs) y.plain y.outer y.group y.items y.distinct one other))

  pub same_forms : (q : JudgedQuery) → SameMeaning (numbered one q) (numbered other q)
  unfolding numbered
  same_forms = ind-JudgedQuery FromLaw SubLaw QueryLaw from_law sub_law query_law

  pub same_numbered_answers : (j : JudgedSelect) → SameBag (numbered_answer one j) (numbered_answer other j)
  unfolding numbered_answer
  same_numbered_answers j = same_values (numbered one j.query) (numbered other j.query) (same_forms j.query) nulls
