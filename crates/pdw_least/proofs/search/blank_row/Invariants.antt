use Rattle.std.proofs.Common.{◌≡◌, take}
use Rattle.pdw_least.specs.States.{blank_row}
use Rattle.pdw_least.proofs.search.blank_row.Given as goal

abbrev pub invariant-props : goal.invariant-props
invariant-props l = l.row ≡ blank_row (take l._prop-index l.props)
