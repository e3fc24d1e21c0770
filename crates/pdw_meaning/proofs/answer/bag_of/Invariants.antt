use Rattle.std.proofs.Common.{◌≡◌, take}
use Rattle.pdw_meaning.proofs.answer.bag_of.Given as goal

abbrev pub invariant-loop-row : goal.invariant-loop-row
invariant-loop-row l = l.bag ≡ take l.row-index l.rows
