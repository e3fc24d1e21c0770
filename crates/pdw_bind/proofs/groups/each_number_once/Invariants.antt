use Rattle.std.proofs.Common.{◌≡◌, take}
use Rattle.pdw_form.specs.Columns as spec
use Rattle.pdw_bind.proofs.groups.each_number_once.Given as goal

abbrev pub invariant-loop-number : goal.invariant-loop-number
invariant-loop-number l = l.once ≡ spec.each_number_once (take l.number-index l.numbers)
