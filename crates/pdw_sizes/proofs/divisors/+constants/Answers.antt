use Rattle.std.proofs.Common.{◌&&◌, [], sym, ap, ◌∙◌}
use Rattle.std.specs.List.{list_all}
use Rattle.pdw_expr.specs.Columns.{scalar_columns}
use Rattle.pdw_expr.specs.declared.scalar.Scalar.{Scalar}
use Rattle.pdw_parts.proofs.InsideLemmas.{inside-chain, inside-neg, there}
use Rattle.pdw_sizes.proofs.divisors.+constants.Goals as goal

pub is_constant-returns-in-Neg : goal.is_constant-returns-in-Neg
is_constant-returns-in-Neg t c =
    c.is_constant.ensures
    ∙ ap (λ (e : Scalar). there [] (scalar_columns e)) c.get.ensures
    ∙ sym (inside-neg [] c.in-Neg.operand)
    ∙ sym (ap (λ (e : Scalar). there [] (scalar_columns e)) c.in-Neg.is)

pub is_constant-returns-then-is_constant : goal.is_constant-returns-then-is_constant
is_constant-returns-then-is_constant t c =
    c.links_constant.ensures
    ∙ ap (list_all (λ link. there [] (scalar_columns link.1))) c.as_slice.ensures
    ∙ ap (λ b. b && list_all (λ link. there [] (scalar_columns link.1)) c.in-Chain.rest)
    (sym c.if-is_constant.true ∙ c.is_constant-in-Chain.ensures ∙ ap (λ (e : Scalar). there [] (scalar_columns e)) c.get-in-Chain.ensures)
    ∙ sym (inside-chain [] c.in-Chain.first c.in-Chain.rest)
    ∙ sym (ap (λ (e : Scalar). there [] (scalar_columns e)) c.in-Chain.is)

pub is_constant-returns-else-is_constant : goal.is_constant-returns-else-is_constant
is_constant-returns-else-is_constant t c =
    c.if-is_constant.false
    ∙ ap (λ b. b && list_all (λ link. there [] (scalar_columns link.1)) c.in-Chain.rest)
    (sym c.if-is_constant.false ∙ c.is_constant-in-Chain.ensures ∙ ap (λ (e : Scalar). there [] (scalar_columns e)) c.get-in-Chain.ensures)
    ∙ sym (inside-chain [] c.in-Chain.first c.in-Chain.rest)
    ∙ sym (ap (λ (e : Scalar). there [] (scalar_columns e)) c.in-Chain.is)
