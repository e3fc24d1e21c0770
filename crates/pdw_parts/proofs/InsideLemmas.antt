-- The columns of expressions and conditions, by their parts.
use Rattle.std.proofs.Common.{◌≡◌, ◌&&◌, Bool, List, [], ◌∷◌, refl, ap, ◌∙◌}
use Rattle.std.specs.List.{flat_map, list_all}
use Rattle.std.proofs.lemmas.List.Folds.{flat_map-map, list_all-append}
use Rattle.pdw_algebra.specs.Shape.{has_number}
use Rattle.pdw_base.specs.Schema.{Columns}
use Rattle.pdw_base.specs.declared.schema.ColId.{ColId}
use Rattle.pdw_expr.specs.Columns.{cond_columns, cond_columns_step, scalar_columns, scalar_columns_step}
use Rattle.pdw_expr.specs.declared.cond.Cond as conds
use Rattle.pdw_expr.specs.declared.cond.Cond.{Cond}
use Rattle.pdw_expr.specs.declared.cond.Cond.TheOpen.{Cond-F}
use Rattle.pdw_expr.specs.declared.cond.Cond.TheFolds.{fold-roll-Cond}
use Rattle.pdw_expr.specs.declared.cond.Cond.TheVariants as cond
use Rattle.pdw_expr.specs.declared.scalar.Arith.{Arith}
use Rattle.pdw_expr.specs.declared.scalar.Scalar as scalars
use Rattle.pdw_expr.specs.declared.scalar.Scalar.{Scalar}
use Rattle.pdw_expr.specs.declared.scalar.Scalar.TheOpen.{Scalar-F}
use Rattle.pdw_expr.specs.declared.scalar.Scalar.TheFolds.{fold-roll-Scalar}
use Rattle.pdw_expr.specs.declared.scalar.Scalar.TheVariants as scalar
use Rattle.pdw_parts.specs.Part.{is_inside}

pub list_all-flat_map : {X Y : Type 0} (test : Y → Bool) (f : X → List Y) (xs : List X) → list_all test (flat_map f xs) ≡ list_all (λ x. list_all test (f x)) xs
list_all-flat_map test f [] = refl
list_all-flat_map test f (x ∷ xs) = list_all-append test (f x) (flat_map f xs) ∙ ap (λ rest. list_all test (f x) && rest) (list_all-flat_map test f xs)

module _ (columns : Columns) where
  abbrev pub there : List ColId → Bool
  there used = list_all (λ c. has_number c columns) used

  pub inside-neg : (operand : Scalar) → there (scalar_columns (scalar.Neg operand)) ≡ there (scalar_columns operand)
  unfolding scalars.roll-Scalar denote.Hole.Carrier.roll
  inside-neg operand = ap there (fold-roll-Scalar (List ColId) scalar_columns_step (Scalar-F.Neg operand))

  pub inside-chain : (first : Scalar) (rest : List (Arith × Scalar))
      → there (scalar_columns (scalar.Chain first rest)) ≡ (there (scalar_columns first) && list_all (λ link. there (scalar_columns link.1)) rest)
  unfolding scalars.roll-Scalar denote.Hole.Carrier.roll
  inside-chain first rest =
      ap there (fold-roll-Scalar (List ColId) scalar_columns_step (Scalar-F.Chain first rest))
      ∙ list_all-append (λ c. has_number c columns) (scalar_columns first) _
      ∙ ap (λ all. there (scalar_columns first) && all)
      (ap there (flat_map-map (λ (link : Arith × List ColId). link.1) (λ (link : Arith × Scalar). (link.0, scalar_columns link.1)) rest)
      ∙ list_all-flat_map (λ c. has_number c columns) (λ (link : Arith × Scalar). scalar_columns link.1) rest)

  pub inside-null : (e : Scalar) → is_inside columns (cond.IsNull e) ≡ there (scalar_columns e)
  unfolding conds.roll-Cond denote.Hole.Carrier.roll
  inside-null e = ap there (fold-roll-Cond (List ColId) cond_columns_step (Cond-F.IsNull e))

  pub inside-all : (parts : List Cond) → is_inside columns (cond.All parts) ≡ list_all (is_inside columns) parts
  unfolding conds.roll-Cond denote.Hole.Carrier.roll
  inside-all parts =
      ap there (fold-roll-Cond (List ColId) cond_columns_step (Cond-F.All parts) ∙ flat_map-map (λ part. part) cond_columns parts)
      ∙ list_all-flat_map (λ c. has_number c columns) cond_columns parts

  pub inside-any : (parts : List Cond) → is_inside columns (cond.Any parts) ≡ list_all (is_inside columns) parts
  unfolding conds.roll-Cond denote.Hole.Carrier.roll
  inside-any parts =
      ap there (fold-roll-Cond (List ColId) cond_columns_step (Cond-F.Any parts) ∙ flat_map-map (λ part. part) cond_columns parts)
      ∙ list_all-flat_map (λ c. has_number c columns) cond_columns parts
