-- The value of a chain, and of an aggregate.
use Rattle.std.proofs.Common.{◌≡◌, List, [], ◌∷◌, fold, map, Option, Some, None, refl, sym, ap, ◌∙◌}
use Rattle.std.specs.Option.{option_map}
use Rattle.pdw_syntax.specs.declared.expr.SqlExpr.{SqlExpr}
use Rattle.pdw_syntax.specs.declared.expr.SqlExpr.TheOpen.{SqlExpr-F}
use Rattle.pdw_syntax.specs.declared.expr.SqlExpr.TheFolds.{fold-roll-SqlExpr}
use Rattle.pdw_syntax.specs.declared.expr.SqlExpr.TheVariants as is
use Rattle.pdw_syntax.specs.declared.expr.SqlExpr.TheVariants.{rolls-Agg, rolls-Chain}
use Rattle.pdw_base.specs.declared.value.Value.{Value}
use Rattle.pdw_expr.specs.Aggregate.{aggregated}
use Rattle.pdw_expr.specs.Arithmetic.{computed}
use Rattle.pdw_expr.specs.declared.agg.AggKind.{AggKind}
use Rattle.pdw_expr.specs.declared.scalar.Arith.{Arith}
use Rattle.pdw_semantics.specs.Environment.{Group, alone}
use Rattle.pdw_semantics.specs.Exprs.{argument, value_of, value_step}

links_of : (group : Group) (first : Value) (rest : List (Arith × SqlExpr))
    → fold (λ value (link : Arith × (Group → Value)). computed link.0 value (link.1 group)) first (map (λ (link : Arith × SqlExpr). (link.0, value_of link.1)) rest)
    ≡ fold (λ value (link : Arith × SqlExpr). computed link.0 value (value_of link.1 group)) first rest
links_of group first [] = refl
links_of group first (link ∷ rest) = links_of group (computed link.0 first (value_of link.1 group)) rest

pub value_of-chain : (first : SqlExpr) (rest : List (Arith × SqlExpr)) (group : Group)
    → value_of (is.Chain first rest) group ≡ fold (λ value (link : Arith × SqlExpr). computed link.0 value (value_of link.1 group)) (value_of first group) rest
value_of-chain first rest group =
    ap (λ x. value_of x group) (sym (rolls-Chain first rest))
    ∙ ap (λ f. f group) (fold-roll-SqlExpr (Group → Value) value_step (SqlExpr-F.Chain first rest))
    ∙ links_of group (value_of first group) rest

pub value_of-aggregate : (kind : AggKind) (arg : Option SqlExpr) (group : Group)
    → value_of (is.Agg kind arg) group ≡ aggregated kind (map (λ row. argument (option_map value_of arg) (alone group.outers row)) group.rows)
value_of-aggregate kind None group =
    ap (λ x. value_of x group) (sym (rolls-Agg kind None)) ∙ ap (λ f. f group) (fold-roll-SqlExpr (Group → Value) value_step (SqlExpr-F.Agg kind None))
value_of-aggregate kind (Some x) group =
    ap (λ x. value_of x group) (sym (rolls-Agg kind (Some x))) ∙ ap (λ f. f group) (fold-roll-SqlExpr (Group → Value) value_step (SqlExpr-F.Agg kind (Some x)))
