use Rattle.std.proofs.Common.{take}
use Rattle.pdw_least.specs.Built.{IsLastIn}
use Rattle.pdw_least.proofs.build.last_number.Given as goal

abbrev pub invariant-loop-number : goal.invariant-loop-number
invariant-loop-number l = IsLastIn (take l.number l.log) l.made l.found
