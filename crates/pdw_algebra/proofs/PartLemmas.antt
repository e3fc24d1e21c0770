-- Chains and blocks, by the meanings of their parts.
use Rattle.std.proofs.Common.{◌≡◌, ◌&&◌, true, Option, List, ap, ◌∙◌}
use Rattle.std.specs.List.{flat_map, list_all}
use Rattle.std.proofs.lemmas.List.Folds.{list_all-map, flat_map-map}
use Rattle.pdw_algebra.specs.Shape.{Shape, columns_of, shape_of, shape_step}
use Rattle.pdw_algebra.specs.Types.{is_number, number_if, scalar_kind, scalar_kind_step}
use Rattle.pdw_algebra.specs.declared.tree.Tree.{Tree}
use Rattle.pdw_algebra.specs.declared.tree.Tree.TheOpen.{Tree-F}
use Rattle.pdw_algebra.specs.declared.tree.Tree.TheFolds.{fold-roll-Tree}
use Rattle.pdw_algebra.specs.declared.tree.Tree.TheVariants.{Block}
use Rattle.pdw_base.specs.Schema.{Columns}
use Rattle.pdw_base.specs.declared.value.Kind.{Kind}
use Rattle.pdw_catalog.specs.Catalog.{Tables}
use Rattle.pdw_expr.specs.declared.cond.Cond.{Cond}
use Rattle.pdw_expr.specs.declared.scalar.Arith.{Arith}
use Rattle.pdw_expr.specs.declared.scalar.Scalar as scalars
use Rattle.pdw_expr.specs.declared.scalar.Scalar.{Scalar}
use Rattle.pdw_expr.specs.declared.scalar.Scalar.TheOpen.{Scalar-F}
use Rattle.pdw_expr.specs.declared.scalar.Scalar.TheFolds.{fold-roll-Scalar}
use Rattle.pdw_expr.specs.declared.scalar.Scalar.TheVariants.{Chain}

pub kind-chain : (columns : Columns) (first : Scalar) (rest : List (Arith × Scalar))
    → scalar_kind columns (Chain first rest) ≡ number_if (is_number (scalar_kind columns first) && list_all (λ link. is_number (scalar_kind columns link.1)) rest)
unfolding scalars.roll-Scalar denote.Hole.Carrier.roll
kind-chain columns first rest =
    fold-roll-Scalar (Option Kind) (scalar_kind_step columns) (Scalar-F.Chain first rest)
    ∙ ap (λ all. number_if (is_number (scalar_kind columns first) && all)) (list_all-map (λ link. is_number link.1) (λ link. (link.0, scalar_kind columns link.1)) rest)

-- where the first operand is a number, the others decide
pub kind-of_numbers : (columns : Columns) (first : Scalar) (rest : List (Arith × Scalar)) (kind : Option Kind) (links : List (Arith × Scalar))
    → kind ≡ scalar_kind columns first → links ≡ rest → is_number kind ≡ true
    → number_if (list_all (λ link. is_number (scalar_kind columns link.1)) links) ≡ scalar_kind columns (Chain first rest)
kind-of_numbers columns first rest kind links same here number =
    rw (here, kind-chain, ← same, number)

pub columns-block : (tables : Tables) (leaves : List Tree) (conds : List Cond) → columns_of tables (Block leaves conds) ≡ flat_map (columns_of tables) leaves
unfolding Rattle.pdw_algebra.specs.declared.tree.Tree.TheViews.roll-Tree denote.Hole.Carrier.roll
columns-block tables leaves conds =
    ap (λ shape. shape.columns) (fold-roll-Tree Shape (shape_step tables) (Tree-F.Block leaves conds))
    ∙ flat_map-map (λ leaf. leaf.columns) (shape_of tables) leaves
