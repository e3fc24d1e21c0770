use Rattle.std.proofs.Common.{◌≡◌, take}
use Rattle.pdw_machine.specs.Flags.{with_column}
use Rattle.pdw_machine.specs.Ready.{deliver_column}
use Rattle.pdw_machine.proofs.ready.refresh_delivers.Given as goal

abbrev pub invariant-loop-from : goal.invariant-loop-from
invariant-loop-from l = l.delivers ≡ with_column l.to (take l.from (deliver_column l.to l.state)) l.fn.delivers
