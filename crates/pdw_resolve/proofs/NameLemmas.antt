-- Aggregates in a chain.
use Rattle.std.proofs.Common.{◌≡◌, ◌||◌, Bool, false, List, [], ◌∷◌, map, refl, ap, ◌∙◌, sym}
use Rattle.std.specs.List.{list_any}
use Rattle.pdw_syntax.specs.declared.expr.SqlExpr.{SqlExpr}
use Rattle.pdw_syntax.specs.declared.expr.SqlExpr.TheFolds.{fold-roll-SqlExpr}
use Rattle.pdw_syntax.specs.declared.expr.SqlExpr.TheOpen.{SqlExpr-F}
use Rattle.pdw_syntax.specs.declared.expr.SqlExpr.TheVariants as e
use Rattle.pdw_syntax.specs.declared.expr.SqlExpr.TheVariants.{rolls-Chain}
use Rattle.pdw_expr.specs.declared.scalar.Arith.{Arith}
use Rattle.pdw_walk.specs.Names.{aggregates_step, has_aggregate}

links_aggregate : (links : List (Arith × SqlExpr)) → list_any (λ (link : Arith × Bool). link.1) (map (λ link. (link.0, has_aggregate link.1)) links) ≡ list_any (λ link. has_aggregate link.1) links
links_aggregate [] = refl
links_aggregate (link ∷ links) = ap (λ b. has_aggregate link.1 || b) (links_aggregate links)

in_operands : (first : SqlExpr) (rest : List (Arith × SqlExpr)) → has_aggregate (e.Chain first rest) ≡ (has_aggregate first || list_any (λ link. has_aggregate link.1) rest)
in_operands first rest =
    ap has_aggregate (sym (rolls-Chain first rest)) ∙ (fold-roll-SqlExpr Bool aggregates_step (SqlExpr-F.Chain first rest) ∙ ap (λ b. has_aggregate first || b) (links_aggregate rest))

-- a chain whose first operand has none
pub chain_aggregate : (value first operand : SqlExpr) (rest links : List (Arith × SqlExpr)) (found : Bool)
    → value ≡ e.Chain first rest → operand ≡ first → false ≡ has_aggregate operand → links ≡ rest
    → found ≡ list_any (λ link. has_aggregate link.1) links → found ≡ has_aggregate value
chain_aggregate value first operand rest links found is same none listed e =
    let one : false ≡ has_aggregate first = none ∙ ap has_aggregate same in
    let chained : has_aggregate value ≡ list_any (λ link. has_aggregate link.1) rest =
    ap has_aggregate is ∙ (in_operands first rest ∙ ap (λ b. b || list_any (λ link. has_aggregate link.1) rest) (sym one)) in
    e ∙ ap (λ (xs : List (Arith × SqlExpr)). list_any (λ link. has_aggregate link.1) xs) listed ∙ sym chained
