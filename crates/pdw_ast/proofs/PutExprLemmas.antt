-- The tokens of a chain.
use Rattle.std.proofs.Common.{◌≡◌, List, ◌∷◌, ◌++◌, sym, ap, ◌∙◌}
use Rattle.std.specs.List.{flat_map}
use Rattle.std.proofs.lemmas.List.Folds.{flat_map-map}
use Rattle.pdw_expr.specs.declared.scalar.Arith.{Arith}
use Rattle.pdw_ast.specs.Puts.{Line, puts}
use Rattle.pdw_ast.specs.Spelling.{Spelling, expr, expr_step, operator}
use Rattle.pdw_syntax.specs.declared.expr.SqlExpr.{SqlExpr}
use Rattle.pdw_syntax.specs.declared.expr.SqlExpr.TheOpen.{SqlExpr-F}
use Rattle.pdw_syntax.specs.declared.expr.SqlExpr.TheVariants as is
use Rattle.pdw_syntax.specs.declared.expr.SqlExpr.TheVariants.{rolls-Chain}
use Rattle.pdw_syntax.specs.declared.expr.SqlExpr.TheFolds.{fold-roll-SqlExpr}
use Rattle.pdw_ast.proofs.PutLemmas.{puts_append}

pub puts-chain : (line : Line) (first : SqlExpr) (rest : List (Arith × SqlExpr)) → puts line (expr (is.Chain first rest)) ≡ puts (puts line (expr first)) (flat_map (λ link. operator link.0 ∷ expr link.1) rest)
puts-chain line first rest =
    let links = flat_map-map (λ (link : Arith × Spelling). operator link.0 ∷ link.1) (λ (link : Arith × SqlExpr). (link.0, expr link.1)) rest in
    ap (puts line) (ap expr (sym (rolls-Chain first rest)) ∙ fold-roll-SqlExpr Spelling expr_step (SqlExpr-F.Chain first rest) ∙ ap (λ after. expr first ++ after) links)
    ∙ puts_append line (expr first) (flat_map (λ link. operator link.0 ∷ expr link.1) rest)
