-- The shape of a subquery's join: it keeps the columns of the tree so far.
use Rattle.std.proofs.Common.{◌≡◌, ◌&&◌, Bool, true, false, not, List, [], ◌∷◌, ◌++◌, Option, Some, None, refl, sym, ap, ◌∙◌, if◌then◌else◌}
use Rattle.std.proofs.lemmas.Bool.{and_parts, and_from, not-true}
use Rattle.std.proofs.lemmas.List.Folds.{list_all-append}
use Rattle.pdw_algebra.specs.Shape.{all_typed, are_apart, is_empty, is_outer, joined_columns, shape_of}
use Rattle.pdw_algebra.specs.Types.{is_typed, same_kinds, scalar_kind}
use Rattle.pdw_algebra.specs.declared.tree.Tree.{Tree}
use Rattle.pdw_base.specs.Schema.{Columns}
use Rattle.pdw_base.specs.declared.truth.Truth.TheVariants as truth
use Rattle.pdw_bind.proofs.ShapeKinds.{carried_same, scalar_carried, within_left, within_right}
use Rattle.pdw_bind.proofs.ShapeSteps.{shape-join, typed-comparison, typed-not, typed-test}
use Rattle.pdw_bind.specs.Bind.{Bound, equality, in_condition, item_scalar, subquery_join, subquery_kind, subquery_tree}
use Rattle.pdw_form.specs.Sound.{QueryShape, SubqueryShape, left_fits, subquery_columns, subquery_made, subquery_sound}
use Rattle.pdw_catalog.specs.Catalog.{Tables}
use Rattle.pdw_expr.specs.declared.cond.Cmp.TheVariants.{Eq}
use Rattle.pdw_expr.specs.declared.cond.Cond.TheVariants as cond
use Rattle.pdw_expr.specs.declared.cond.Cond.{Cond}
use Rattle.pdw_expr.specs.declared.scalar.Scalar.{Scalar}
use Rattle.pdw_form.specs.declared.judged.JItem.{JItem}

-- what a subquery's join makes of a tree
pub record SubqueryFits (tables : Tables) (join : Tree → Tree) (sub : SubqueryShape) : Type 0 where
  pub columns : (t : Tree) → (shape_of tables (join t)).columns ≡ (shape_of tables t).columns
  pub made : (t : Tree) → (shape_of tables (join t)).made ≡ (shape_of tables t).made ++ sub.made
  pub sound : (t : Tree) → (shape_of tables t).sound ≡ true → sub.sound_in (shape_of tables t).columns ≡ true → (shape_of tables (join t)).sound ≡ true

-- each tree of a query is sound
pub record TreesSound (tables : Tables) (query : Bound) : Type 0 where
  pub rows : (shape_of tables query.rows).sound ≡ true
  pub columns : (shape_of tables query.columns).sound ≡ true
  pub whole : (shape_of tables query.whole).sound ≡ true

-- the trees of a query have its columns, make its numbers, and are sound where it is
pub record QueryFits (tables : Tables) (query : Bound) (shape : QueryShape) : Type 0 where
  pub rows : (shape_of tables query.rows).columns ≡ shape.rows
  pub rows_made : (shape_of tables query.rows).made ≡ shape.rows_made
  pub columns : (shape_of tables query.columns).columns ≡ shape.columns
  pub columns_made : (shape_of tables query.columns).made ≡ shape.columns_made
  pub whole : (shape_of tables query.whole).columns ≡ shape.columns
  pub whole_made : (shape_of tables query.whole).made ≡ shape.columns_made
  pub sound : (outer : Columns) → shape.sound_in outer ≡ true → TreesSound tables query
  pub grouped : query.is_grouped ≡ shape.is_grouped
  pub reaches : shape.reaches ≡ not (is_empty query.outer)
  pub outer : (outer : Columns) → shape.sound_in outer ≡ true → all_typed (outer ++ shape.rows) query.outer ≡ true
  pub item : (outer : Columns) → shape.sound_in outer ≡ true → (item : JItem) → query.item ≡ Some item
      → scalar_kind (subquery_columns shape) (item_scalar query.is_grouped item) ≡ shape.first_kind

-- ---- the condition of IN

typed-equality : (columns : Columns) (negated : Bool) (equal : Cond) → is_typed columns (equality negated equal) ≡ is_typed columns equal
typed-equality columns true equal = typed-not columns (cond.Test equal truth.False) ∙ typed-test columns equal truth.False
typed-equality columns false equal = refl

in_typed : (columns : Columns) (negated : Bool) (x : Scalar) (query : Bound)
    → ((item : JItem) → query.item ≡ Some item → same_kinds (scalar_kind columns x) (scalar_kind columns (item_scalar query.is_grouped item)) ≡ true)
    → all_typed columns (in_condition negated (Some x) query) ≡ true
in_typed columns negated x query kinds = by query.item refl
  where
    by : (item : Option JItem) → query.item ≡ item → all_typed columns (in_condition negated (Some x) (record query { item = item })) ≡ true
    by None is = refl
    by (Some item) is =
        and_from _ _ (typed-equality columns negated (cond.Compare Eq x (item_scalar query.is_grouped item))
        ∙ typed-comparison columns Eq x (item_scalar query.is_grouped item) ∙ kinds item is) refl

module _ (tables : Tables) (query : Bound) (shape : QueryShape) (fits : QueryFits tables query shape) where
  -- ---- the right side of the join

  right-columns : (shape_of tables (subquery_tree query)).columns ≡ subquery_columns shape
  right-columns = ap (λ (g : Bool). (shape_of tables (if g then query.columns else query.rows)).columns) fits.grouped ∙ by shape.is_grouped
    where
      by : (g : Bool) → (shape_of tables (if g then query.columns else query.rows)).columns ≡ (if g then shape.columns else shape.rows)
      by true = fits.columns
      by false = fits.rows

  right-made : (shape_of tables (subquery_tree query)).made ≡ subquery_made shape
  right-made = ap (λ (g : Bool). (shape_of tables (if g then query.columns else query.rows)).made) fits.grouped ∙ by shape.is_grouped
    where
      by : (g : Bool) → (shape_of tables (if g then query.columns else query.rows)).made ≡ (if g then shape.columns_made else shape.rows_made)
      by true = fits.columns_made
      by false = fits.rows_made

  right_sound : TreesSound tables query → (shape_of tables (subquery_tree query)).sound ≡ true
  right_sound trees = by query.is_grouped
    where
      by : (g : Bool) → (shape_of tables (if g then query.columns else query.rows)).sound ≡ true
      by true = trees.columns
      by false = trees.rows

  -- ---- its conditions

  module _ (outer : Columns) (sound : shape.sound_in outer ≡ true) (apart : are_apart outer (subquery_columns shape) ≡ true) where
    condition_typed : (negated : Bool) (left : Option Scalar) → left_fits left shape outer ≡ true → all_typed (outer ++ subquery_columns shape) (in_condition negated left query) ≡ true
    condition_typed negated None left = refl
    condition_typed negated (Some x) left = in_typed (outer ++ subquery_columns shape) negated x query (λ item is.
        carried_same (scalar_kind outer x) (scalar_kind (subquery_columns shape) (item_scalar query.is_grouped item)) _ _
        (scalar_carried outer (outer ++ subquery_columns shape) (within_left outer (subquery_columns shape)) x)
        (scalar_carried (subquery_columns shape) (outer ++ subquery_columns shape) (within_right outer (subquery_columns shape) apart) (item_scalar query.is_grouped item))
        (ap (same_kinds (scalar_kind outer x)) (fits.item outer sound item is) ∙ left))

    outer_typed : not (shape.is_grouped && shape.reaches) ≡ true → all_typed (outer ++ subquery_columns shape) query.outer ≡ true
    outer_typed alone = by shape.is_grouped alone
      where
        none_typed : (columns : Columns) (conds : List Cond) → not (is_empty conds) ≡ false → all_typed columns conds ≡ true
        none_typed columns [] empty = refl
        none_typed columns (first ∷ rest) empty = absurd (cc)

        by : (g : Bool) → not (g && shape.reaches) ≡ true → all_typed (outer ++ (if g then shape.columns else shape.rows)) query.outer ≡ true
        by true alone = none_typed _ query.outer (sym fits.reaches ∙ not-true _ alone)
        by false alone = fits.outer outer sound

  -- ---- the join

  kind-columns : (negated : Bool) (left right : Columns) → joined_columns (subquery_kind negated) left right ≡ left
  kind-columns true left right = refl
  kind-columns false left right = refl

  kind_outer : (negated : Bool) → is_outer (subquery_kind negated) ≡ true
  kind_outer true = refl
  kind_outer false = refl

  module _ (negated : Bool) (left : Option Scalar) where
    abbrev conds : List Cond
    conds = in_condition negated left query ++ query.outer

    join_sound : (t : Tree) → (shape_of tables t).sound ≡ true → subquery_sound left shape (shape_of tables t).columns ≡ true
        → (shape_of tables (subquery_join negated left query t)).sound ≡ true
    join_sound t here holds =
        let outer = (shape_of tables t).columns in
        let first = and_parts _ _ holds in
        let second = and_parts _ _ first.1 in
        let third = and_parts _ _ second.1 in
        let there = right_sound (fits.sound outer first.0) in
        let typed = list_all-append (is_typed (outer ++ subquery_columns shape)) (in_condition negated left query) query.outer
        ∙ and_from _ _ (condition_typed outer first.0 second.0 negated left third.0) (outer_typed outer first.0 second.0 third.1) in
        let beside = ap (λ (right : Columns). are_apart outer right && all_typed (outer ++ right) conds) right-columns ∙ and_from _ _ second.0 typed in
        ap (λ shape. shape.sound) (shape-join tables (subquery_kind negated) conds t (subquery_tree query))
        ∙ and_from _ _ (and_from _ _ here there) (and_from _ _ (kind_outer negated) beside)

    pub subquery_fits : SubqueryFits tables (subquery_join negated left query) (record { made = subquery_made shape; sound_in = subquery_sound left shape })
    subquery_fits = record {
      columns = λ t. ap (λ shape. shape.columns) (shape-join tables (subquery_kind negated) conds t (subquery_tree query)) ∙ kind-columns negated _ _;
      made = λ t. ap (λ shape. shape.made) (shape-join tables (subquery_kind negated) conds t (subquery_tree query)) ∙ ap (λ right. (shape_of tables t).made ++ right) right-made;
      sound = join_sound;
    }
