-- Value expressions mean what they mean as they are spelled.
use Rattle.std.proofs.Common.{◌≡◌, ℕ, Bool, List, [], ◌∷◌, ◌++◌, map, flat_map, Option, Some, None, refl, sym, ap, append-nil, if◌then◌else◌}
use Rattle.pdw_expr.specs.declared.agg.AggKind.TheVariants.{CountStar}
use Rattle.pdw_expr.specs.declared.scalar.Arith.{Arith}
use Rattle.pdw_lex.specs.declared.keyword.Keyword.TheVariants as k
use Rattle.pdw_lex.specs.declared.sign.Sign.TheVariants as s
use Rattle.pdw_lex.specs.declared.token.Lexeme.{Lexeme}
use Rattle.pdw_syntax.specs.Rule.{Rule, ◌>>=◌, ◌>>◌, pure, One, Many}
use Rattle.pdw_syntax.specs.Lexemes as lexemes
use Rattle.pdw_syntax.specs.Parentheses.{Parentheses}
use Rattle.pdw_syntax.specs.Exprs as rule
use Rattle.pdw_ast.specs.Written as written
use Rattle.pdw_ast.specs.Spelling as spelling
use Rattle.pdw_ast.specs.Spelling.{Spelling}
use Rattle.pdw_syntax.specs.declared.expr.SqlExpr.{SqlExpr}
use Rattle.pdw_ast.proofs.Reprint.{Reprints, spelled_as, and_then, and_last, and_nothing, and_text, if_any, reprints_maybe, reprints_either, reprints_made, reprints_many, reprints_enclosed}
use Rattle.pdw_ast.proofs.ReprintOne.{at_key, at_sign, name_reprints, number_reprints, text_reprints, minus_reprints, aggregate_reprints, term_operator_reprints, factor_operator_reprints}
use Rattle.pdw_ast.proofs.ReprintEquations.{expr_col, expr_number, expr_text, expr_signed, expr_chain, expr_agg, expr_agg_star, expr_paren, flat_map_map, cond, table_reference}

-- what may stand in parentheses means what it means as it is spelled
pub record ParenthesesReprint (g : Parentheses) : Type 0 where
  pub star : Reprints g.star (λ u. written.sign s.Star ∷ [])
  pub expr : Reprints g.expr spelling.expr
  pub exprs : Reprints g.exprs (λ xs. spelling.comma_list (map spelling.expr xs))
  pub cond : Reprints g.cond cond
  pub query : Reprints g.query spelling.query
  pub tables : Reprints g.tables table_reference

column_reference_spelled : (alias : Option (List ℕ)) (column : List ℕ)
    → if_any (λ n. written.name n ∷ written.sign s.Dot ∷ []) alias ++ written.name column ∷ [] ≡ spelling.column_reference (record { alias = alias; column = column })
column_reference_spelled None column = refl
column_reference_spelled (Some alias) column = refl

pub column_reference_reprints : Reprints rule.column_reference spelling.column_reference
column_reference_reprints = spelled_as (and_then
    (reprints_maybe (spelled_as (and_then name_reprints (λ n. at_sign s.Dot (and_nothing refl)))))
    (λ alias. and_last name_reprints (column_reference_spelled alias)))

pub reprints_separated : {A : Type 0} {R : List Lexeme → A → Type 0} {f : A → Spelling} → Reprints R f
    → Reprints (Many (lexemes.sign s.Comma >> R)) (flat_map (λ x. written.sign s.Comma ∷ f x))
reprints_separated law = reprints_many (spelled_as (at_sign s.Comma (and_text law (λ x. refl))))

pub reprints_listed : {A : Type 0} {R : List Lexeme → A → Type 0} {f : A → Spelling} → Reprints R f → Reprints (rule.listed R) (λ xs. spelling.comma_list (map f xs))
reprints_listed {f = f} law = spelled_as (and_then law (λ x. and_last (reprints_separated law) (λ xs. ap (λ parts. f x ++ parts) (sym (flat_map_map (λ part. written.sign s.Comma ∷ part) f xs)))))

operation_reprints : {operator : Lexeme → Option Arith} {R : Rule SqlExpr} → Reprints (One operator) (λ op. spelling.operator op ∷ []) → Reprints R spelling.expr
    → Reprints (rule.operation operator R) (λ link. spelling.operator link.0 ∷ spelling.expr link.1)
operation_reprints operator law = spelled_as (and_then operator (λ op. and_last law (λ x. refl)))

chain_spelled : (x : SqlExpr) (links : List (Arith × SqlExpr)) → spelling.expr x ++ flat_map (λ link. spelling.operator link.0 ∷ spelling.expr link.1) links ≡ spelling.expr (rule.chained x links)
chain_spelled x [] = append-nil (spelling.expr x)
chain_spelled x (link ∷ links) = sym (expr_chain x (link ∷ links))

-- a chain of operands
chain_reprints : {operator : Lexeme → Option Arith} {R : Rule SqlExpr} → Reprints (One operator) (λ op. spelling.operator op ∷ []) → Reprints R spelling.expr
    → Reprints (R >>= (λ x. Many (rule.operation operator R) >>= (λ links. pure (rule.chained x links)))) spelling.expr
chain_reprints operator law = spelled_as (and_then law (λ x. and_last (reprints_many (operation_reprints operator law)) (chain_spelled x)))

signed_spelled : (minus : Option Bool) (x : SqlExpr) → if_any (λ minus. written.sign (if minus then s.Minus else s.Plus) ∷ []) minus ++ spelling.expr x ≡ spelling.expr (rule.with_sign minus x)
signed_spelled None x = refl
signed_spelled (Some minus) x = sym (expr_signed minus x)

module _ (g : Parentheses) (laws : ParenthesesReprint g) where
  aggregate_reprint : Reprints (rule.aggregate g) spelling.expr
  unfolding rule.aggregate
  aggregate_reprint = reprints_either
      (spelled_as (and_then (spelled_as (at_key k.KwCount (and_text (reprints_enclosed laws.star) (λ star. refl)))) (λ star. and_nothing (sym (expr_agg_star CountStar)))))
      (spelled_as (and_then aggregate_reprints (λ kind. and_last (reprints_enclosed laws.expr) (λ x. sym (expr_agg kind x)))))

  value_reprint : Reprints (rule.value g) spelling.expr
  unfolding rule.value
  value_reprint = reprints_either (reprints_made number_reprints (λ n. sym (expr_number n)))
      (reprints_either (reprints_made text_reprints (λ t. sym (expr_text t)))
      (reprints_either (reprints_made column_reference_reprints (λ c. sym (expr_col c)))
      (reprints_either aggregate_reprint (reprints_made (reprints_enclosed laws.expr) (λ x. sym (expr_paren x))))))

  signed_reprint : Reprints (rule.signed g) spelling.expr
  unfolding rule.signed
  signed_reprint = spelled_as (and_then (reprints_maybe minus_reprints) (λ minus. and_last value_reprint (signed_spelled minus)))

  product_reprint : Reprints (rule.product g) spelling.expr
  unfolding rule.product
  product_reprint = chain_reprints factor_operator_reprints signed_reprint

  pub expr_reprint : Reprints (rule.expr g) spelling.expr
  unfolding rule.expr
  expr_reprint = chain_reprints term_operator_reprints product_reprint
