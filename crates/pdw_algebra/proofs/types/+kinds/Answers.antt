use Rattle.std.proofs.Common.{sym, ap, ◌∙◌}
use Rattle.pdw_algebra.specs.Types.{number_if, scalar_kind}
use Rattle.pdw_algebra.proofs.PartLemmas.{kind-of_numbers}
use Rattle.pdw_algebra.proofs.types.+kinds.Goals as goal

pub scalar_kind-returns-else-not-is_number : goal.scalar_kind-returns-else-not-is_number
scalar_kind-returns-else-not-is_number t c =
    let columns = c.args.columns.now in
    let first = sym c.is_number-in-Chain.ensures ∙ c.if-not-is_number.false in
    c.number_if-in-Chain.ensures
    ∙ ap number_if c.are_numbers.ensures
    ∙ kind-of_numbers columns c.in-Chain.first c.in-Chain.rest c.scalar_kind-in-Chain.result c.as_slice.result.now
    (c.scalar_kind-in-Chain.ensures ∙ ap (scalar_kind columns) c.get-in-Chain.ensures) c.as_slice.ensures first
    ∙ sym (ap (scalar_kind columns) c.in-Chain.is)
