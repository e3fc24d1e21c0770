-- Memos can be made of the trees of the tests.
use Rattle.std.proofs.Common.{◌≡◌, ◌≢◌, ℕ, zero, suc, ◌^◌, ◌<◌, ◌&&◌, Bool, true, List, [], ◌∷◌, length, get_or, Option, AllPairs, refl, sym, ap, ap₂, subst, ◌∙◌, arith}
use Rattle.pdw_algebra.proofs.TreeFolds.{fold-block, fold-group, fold-project, fold-scan}
use Rattle.pdw_algebra.specs.Schema.{kind_at}
use Rattle.pdw_algebra.specs.Shape.{Shape, block_columns, shape_of, shape_step}
use Rattle.pdw_algebra.specs.Types.{is_typed, literal_kind, same_kinds, scalar_kind, scalar_kind_step, typed_step}
use Rattle.pdw_algebra.specs.declared.tree.Tree.TheOpen.{Tree-F}
use Rattle.pdw_base.specs.Schema.{Columns}
use Rattle.pdw_base.specs.declared.schema.ColId.{ColId}
use Rattle.pdw_base.specs.declared.value.Kind.{Kind}
use Rattle.pdw_base.specs.declared.value.Value.{Value}
use Rattle.pdw_base.specs.declared.value.Value.TheVariants as value
use Rattle.pdw_expr.specs.declared.cond.Cmp.{Cmp}
use Rattle.pdw_expr.specs.declared.cond.Cmp.TheVariants as compares
use Rattle.pdw_expr.specs.declared.cond.Cond.TheOpen.{Cond-F}
use Rattle.pdw_expr.specs.declared.cond.Cond.TheFolds.{fold-roll-Cond}
use Rattle.pdw_expr.specs.declared.cond.Cond.TheVariants as cond
use Rattle.pdw_expr.specs.declared.scalar.Scalar.{Scalar}
use Rattle.pdw_expr.specs.declared.scalar.Scalar.TheOpen.{Scalar-F}
use Rattle.pdw_expr.specs.declared.scalar.Scalar.TheFolds.{fold-roll-Scalar}
use Rattle.pdw_expr.specs.declared.scalar.Scalar.TheVariants as scalar
use Rattle.pdw_memo.specs.Memo.{IsPlannable, count_step, node_count}
use Rattle.pdw_plan_tests.specs.Trees.{b_is_x, conjuncts, counted, counts, first_cols, grouped, id, items, joined, same_a, scanned, second_cols, t, tables}

abbrev counted_shape : Shape
counted_shape = shape_step tables (Tree-F.Project items (shape_step tables (Tree-F.GroupBy [] counts (shape_step tables (Tree-F.Scan t t [])))))

counted-shape : shape_of tables counted ≡ counted_shape
counted-shape =
    fold-project (shape_step tables) items grouped
    ∙ ap (λ shape. shape_step tables (Tree-F.Project items shape)) (fold-group (shape_step tables) [] counts (scanned [])
    ∙ ap (λ shape. shape_step tables (Tree-F.GroupBy [] counts shape)) (fold-scan (shape_step tables) t t []))

counted-count : node_count counted ≡ 3
counted-count = fold-project count_step items grouped ∙ ap suc (fold-group count_step [] counts (scanned []) ∙ ap suc (fold-scan count_step t t []))

pub counted-plannable : IsPlannable tables counted
counted-plannable = record {
  well_formed = record {
    nodes = ap (λ (shape : Shape). shape.sound) counted-shape;
    made = subst (λ (shape : Shape). AllPairs (λ (a b : ColId). a.0 ≢ b.0) shape.made) (sym counted-shape) (λ i j d before within. absurd (omega (arith, before, within)));
  };
  few = subst (λ n. n < 2 ^ 16) (sym counted-count) (omega arith);
}

-- ---- a block of two leaves

module _ (columns : Columns) where
  typed-compare : (op : Cmp) (a b : Scalar) → is_typed columns (cond.Compare op a b) ≡ same_kinds (scalar_kind columns a) (scalar_kind columns b)
  unfolding Rattle.pdw_expr.specs.declared.cond.Cond.TheViews.roll-Cond denote.Hole.Carrier.roll
  typed-compare op a b = fold-roll-Cond Bool (typed_step columns) (Cond-F.Compare op a b)

  kind-column : (c : ColId) → scalar_kind columns (scalar.Col c) ≡ kind_at columns c
  unfolding Rattle.pdw_expr.specs.declared.scalar.Scalar.TheViews.roll-Scalar denote.Hole.Carrier.roll
  kind-column c = fold-roll-Scalar (Option Kind) (scalar_kind_step columns) (Scalar-F.Col c)

  kind-literal : (v : Value) → scalar_kind columns (scalar.Lit v) ≡ literal_kind v
  unfolding Rattle.pdw_expr.specs.declared.scalar.Scalar.TheViews.roll-Scalar denote.Hole.Carrier.roll
  kind-literal v = fold-roll-Scalar (Option Kind) (scalar_kind_step columns) (Scalar-F.Lit v)

abbrev leaf_shapes : List Shape
leaf_shapes = shape_step tables (Tree-F.Scan t t first_cols) ∷ shape_step tables (Tree-F.Scan t t second_cols) ∷ []

abbrev joined_shape : Shape
joined_shape = shape_step tables (Tree-F.Block leaf_shapes conjuncts)

joined-shape : shape_of tables joined ≡ joined_shape
joined-shape =
    fold-block (shape_step tables) (scanned first_cols ∷ scanned second_cols ∷ []) conjuncts
    ∙ ap₂ (λ a b. shape_step tables (Tree-F.Block (a ∷ b ∷ []) conjuncts)) (fold-scan (shape_step tables) t t first_cols) (fold-scan (shape_step tables) t t second_cols)

joined-count : node_count joined ≡ 3
joined-count =
    fold-block count_step (scanned first_cols ∷ scanned second_cols ∷ []) conjuncts
    ∙ ap₂ (λ a b. count_step (Tree-F.Block (a ∷ b ∷ []) conjuncts)) (fold-scan count_step t t first_cols) (fold-scan count_step t t second_cols)

same-typed : is_typed (block_columns leaf_shapes) same_a ≡ true
same-typed =
    typed-compare (block_columns leaf_shapes) compares.Eq (scalar.Col (id 0)) (scalar.Col (id 2))
    ∙ ap₂ same_kinds (kind-column (block_columns leaf_shapes) (id 0)) (kind-column (block_columns leaf_shapes) (id 2))

x-typed : is_typed (block_columns leaf_shapes) b_is_x ≡ true
x-typed =
    typed-compare (block_columns leaf_shapes) compares.Eq (scalar.Col (id 3)) (scalar.Lit (value.Text (120 ∷ [])))
    ∙ ap₂ same_kinds (kind-column (block_columns leaf_shapes) (id 3)) (kind-literal (block_columns leaf_shapes) (value.Text (120 ∷ [])))

-- each column has the number of its place
number-at : (i : ℕ) (d : ColId) → i < 4 → (get_or (id 0 ∷ id 1 ∷ id 2 ∷ id 3 ∷ []) i d).0 ≡ i
number-at zero d less = refl
number-at (suc zero) d less = refl
number-at (suc (suc zero)) d less = refl
number-at (suc (suc (suc zero))) d less = refl
number-at (suc (suc (suc (suc i)))) d less = absurd (omega (arith, less))

pub joined-plannable : IsPlannable tables joined
joined-plannable = record {
  well_formed = record {
    nodes = ap (λ (shape : Shape). shape.sound) joined-shape ∙ ap₂ (λ a b. a && (b && true)) same-typed x-typed;
    made =
        subst (λ (shape : Shape). AllPairs (λ (a b : ColId). a.0 ≢ b.0) shape.made) (sym joined-shape)
        (λ i j d before within same. let one = number-at i d (omega (arith, before, within)) in let other = number-at j d (omega (arith, within)) in absurd (omega (arith, one, other, same, before)));
  };
  few = subst (λ n. n < 2 ^ 16) (sym joined-count) (omega arith);
}
