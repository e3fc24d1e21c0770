use Rattle.std.proofs.Common.{◌&&◌, sym, ap, ◌∙◌}
use Rattle.std.specs.List.{list_all}
use Rattle.pdw_expr.specs.Columns.{scalar_columns}
use Rattle.pdw_expr.specs.declared.scalar.Scalar.{Scalar}
use Rattle.pdw_parts.proofs.InsideLemmas.{inside-chain, inside-neg, there}
use Rattle.pdw_parts.proofs.inside.+scalars.Goals as goal

pub scalar_inside-returns-in-Neg : goal.scalar_inside-returns-in-Neg
scalar_inside-returns-in-Neg t c =
    c.scalar_inside.ensures
    ∙ ap (λ (e : Scalar). there c.args.columns.now (scalar_columns e)) c.get.ensures
    ∙ sym (inside-neg c.args.columns.now c.in-Neg.operand)
    ∙ sym (ap (λ (e : Scalar). there c.args.columns.now (scalar_columns e)) c.in-Neg.is)

pub scalar_inside-returns-then-scalar_inside : goal.scalar_inside-returns-then-scalar_inside
scalar_inside-returns-then-scalar_inside t c =
    c.links_inside.ensures
    ∙ ap (list_all (λ link. there c.args.columns.now (scalar_columns link.1))) c.as_slice.ensures
    ∙ ap (λ b. b && list_all (λ link. there c.args.columns.now (scalar_columns link.1)) c.in-Chain.rest)
    (sym c.if-scalar_inside.true ∙ c.scalar_inside-in-Chain.ensures ∙ ap (λ (e : Scalar). there c.args.columns.now (scalar_columns e)) c.get-in-Chain.ensures)
    ∙ sym (inside-chain c.args.columns.now c.in-Chain.first c.in-Chain.rest)
    ∙ sym (ap (λ (e : Scalar). there c.args.columns.now (scalar_columns e)) c.in-Chain.is)

pub scalar_inside-returns-else-scalar_inside : goal.scalar_inside-returns-else-scalar_inside
scalar_inside-returns-else-scalar_inside t c =
    c.if-scalar_inside.false
    ∙ ap (λ b. b && list_all (λ link. there c.args.columns.now (scalar_columns link.1)) c.in-Chain.rest)
    (sym c.if-scalar_inside.false ∙ c.scalar_inside-in-Chain.ensures ∙ ap (λ (e : Scalar). there c.args.columns.now (scalar_columns e)) c.get-in-Chain.ensures)
    ∙ sym (inside-chain c.args.columns.now c.in-Chain.first c.in-Chain.rest)
    ∙ sym (ap (λ (e : Scalar). there c.args.columns.now (scalar_columns e)) c.in-Chain.is)
